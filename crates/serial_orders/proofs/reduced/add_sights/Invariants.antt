use Rattle.std.proofs.Common.{drop}
use Rattle.serial_orders.specs.Reduced.{sights_pairs}
use Rattle.serial_orders.proofs.PairLaws.{Walk}
use Rattle.serial_orders.proofs.reduced.add_sights.Given as goal

abbrev pub invariant-loop-index : goal.invariant-loop-index
invariant-loop-index l = Walk (sights_pairs l.reader l.start l.writers (drop l.index l.sights)) (sights_pairs l.reader l.start l.writers l.sights) l.fn.precedence l.precedence
