use Rattle.std.proofs.Common.{ℕ, List, length, subst}
use Rattle.serial_orders.specs.Reduced.{AddsPairs, successive_pairs, writers_pairs}
use Rattle.serial_orders.proofs.RegionPairs.{successive_on}
use Rattle.serial_orders.proofs.reduced.add_writers.Goals as goal

pub loop-numbers-preserved : goal.loop-numbers-preserved
loop-numbers-preserved c =
    successive_on c.args.precedence.now (length c.args.precedence.now) (writers_pairs c.args.writers.now) c.loop-numbers.precedence c.add_successive.new.precedence c.loop-numbers.numbers-iterator
    c.next.new.self c.in-Some.field-0-0.now c.in-Some.numbers.now c.in-Some.ensures.steps c.loop-numbers.invariant
    (subst (λ (ws : List ℕ). AddsPairs (successive_pairs ws) c.loop-numbers.precedence c.add_successive.new.precedence) c.as_slice.ensures c.in_ok-add_successive.ensures)
