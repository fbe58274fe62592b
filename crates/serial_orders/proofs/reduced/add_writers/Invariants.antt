use Rattle.std.proofs.Common.{length}
use Rattle.serial_orders.specs.Reduced.{writers_pairs, AllRiseWithin}
use Rattle.serial_orders.proofs.PairLaws.{Walk}
use Rattle.serial_orders.proofs.reduced.add_writers.Given as goal

abbrev pub invariant-loop-numbers : goal.invariant-loop-numbers
invariant-loop-numbers l =
    Walk (writers_pairs l.numbers-iterator) (writers_pairs l.writers) l.fn.precedence l.precedence
    × AllRiseWithin (length l.fn.precedence) l.numbers-iterator
