use Rattle.std.proofs.Common.{arith, length-append, ◌∷◌, []}
use Rattle.serial_orders.proofs.PrecedenceLaws.{none-precede}
use Rattle.serial_orders.proofs.precedence.Precedence.new.Goals as goal

pub loop-commit-preserved : goal.loop-commit-preserved
loop-commit-preserved c = record {
  long = rw c.in_ok-push.ensures.items (let l = c.loop-commit.invariant.long in omega (arith, length-append c.loop-commit.after.items (c.new.result ∷ [])));
  free = λ i j. rw c.in_ok-push.ensures.items (none-precede c.loop-commit.after.items c.new.result c.new.ensures.items c.loop-commit.invariant.free i j);
}
