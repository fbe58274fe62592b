use Rattle.std.proofs.Common.{◌≡◌, [], length, take}
use Rattle.analysis_words.specs.Counts.{CountsCovers}
use Rattle.analysis_words.proofs.entry_counts.no_covers.Given as goal

-- the counts of the nodes so far
abbrev pub invariant-loop-node : goal.invariant-loop-node
invariant-loop-node l = record {
  size : length l.covers.items ≡ length (take l.node-index l.nodes);
  covers : CountsCovers (take l.node-index l.nodes) [] l.covers.items;
}
