use Rattle.std.proofs.Common.{◌≡◌, ◌≤◌, take}
use Rattle.robust_cert.specs.Sharing.{entries_told}
use Rattle.analysis_words.specs.Counts.{CountsCovers, apart_count}
use Rattle.analysis_words.proofs.entry_counts.count.Given as goal

-- the counts of the entries so far
abbrev pub invariant-loop-next : goal.invariant-loop-next
invariant-loop-next l = record {
  count : l.apart ≡ apart_count (take l.next-index (entries_told l.reasons l.told));
  within : l.apart ≤ l.next-index;
  covers : CountsCovers l.nodes (take l.next-index (entries_told l.reasons l.told)) l.covers.items;
}
