use Rattle.std.proofs.Common.{take}
use Rattle.analysis_words.specs.Counts.{IsSumOf}
use Rattle.analysis_words.proofs.entry_counts.EntryCounts.of_all.Given as goal

-- the sums of the parts so far
abbrev pub invariant-loop-part : goal.invariant-loop-part
invariant-loop-part l = IsSumOf l.nodes (take l.part-index l.parts) l.counts
