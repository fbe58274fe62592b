use Rattle.serial_orders.proofs.HorizonLaws.{AreRaisedUpTo}
use Rattle.serial_orders.proofs.horizons.greatest_so_far.Given as goal

abbrev pub invariant-loop-place : goal.invariant-loop-place
invariant-loop-place l = AreRaisedUpTo l.numbers l.raised.items l.place l.greatest
