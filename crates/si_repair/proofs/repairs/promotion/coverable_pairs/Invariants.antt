use Rattle.std.proofs.Common.{take}
use Rattle.prog_tree.specs.Tree.{draft_tree}
use Rattle.si_repair.specs.Promotion.{AreCoverable}
use Rattle.si_repair.proofs.repairs.promotion.coverable_pairs.Given as goal

-- keeps cover the pairs so far
abbrev pub invariant-loop-pair : goal.invariant-loop-pair
invariant-loop-pair l = AreCoverable (draft_tree l.draft) (take l.pair-index l.pairs) l.coverable.items
