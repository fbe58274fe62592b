use Rattle.std.proofs.Common.{take}
use Rattle.analysis_words.specs.Counts.{AddsCounts, number_in}
use Rattle.analysis_words.proofs.entry_counts.add_covers.Given as goal

-- those of the nodes so far are added
abbrev pub invariant-loop-node : goal.invariant-loop-node
invariant-loop-node l = AddsCounts (number_in (take l.node l.more)) l.initial.all.items l.all.items
