use Rattle.std.proofs.Common.{drop, ◌+◌}
use Rattle.serial_orders.specs.Reduced.{readers_pairs}
use Rattle.serial_orders.proofs.PairLaws.{Walk}
use Rattle.serial_orders.proofs.reduced.add_readers.Given as goal

abbrev pub invariant-loop-index : goal.invariant-loop-index
invariant-loop-index l = Walk (readers_pairs l.writers (l.index + 1) (drop l.index l.traces)) (readers_pairs l.writers 1 l.traces) l.fn.precedence l.precedence
