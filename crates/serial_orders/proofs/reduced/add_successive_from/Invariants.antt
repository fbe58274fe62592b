use Rattle.std.proofs.Common.{length, drop}
use Rattle.serial_orders.specs.Orders.{IsUpTo}
use Rattle.serial_orders.specs.Reduced.{successive_from}
use Rattle.serial_orders.proofs.PairLaws.{Walk}
use Rattle.serial_orders.proofs.reduced.add_successive_from.Given as goal

abbrev pub invariant-loop-number : goal.invariant-loop-number
invariant-loop-number l =
    Walk (successive_from l.last (drop l.number-index l.rest)) (successive_from l.first l.rest) l.fn.precedence l.precedence
    × IsUpTo (length l.precedence) l.last
