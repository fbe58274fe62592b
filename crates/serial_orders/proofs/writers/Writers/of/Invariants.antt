use Rattle.std.proofs.Common.{◌≡◌, drop, ◌+◌, ◌++◌}
use Rattle.prog_tree.specs.declared.cell.Cell.{Cell}
use Rattle.serial_orders.specs.Reduced.{numbers_at, writers_from, writers_of}
use Rattle.serial_orders.proofs.writers.Writers.of.Given as goal

abbrev pub invariant-loop-index : goal.invariant-loop-index
invariant-loop-index l = (c : Cell) → (numbers_at l.writers c ++ writers_from (l.index + 1) (drop l.index l.traces) c) ≡ writers_of l.traces c
