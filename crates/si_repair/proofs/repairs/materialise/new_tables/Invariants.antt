use Rattle.std.proofs.Common.{take}
use Rattle.prog_tree.specs.Tree.{draft_tree}
use Rattle.repair_laws.specs.Materialised.{AreNewTables}
use Rattle.si_repair.proofs.repairs.materialise.new_tables.Given as goal

-- the pairs so far are met
abbrev pub invariant-loop-pair : goal.invariant-loop-pair
invariant-loop-pair l = AreNewTables (draft_tree l.set) (take l.pair-index l.pairs) l.made.items
