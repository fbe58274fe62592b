use Rattle.std.proofs.Common.{slice_index}
use Rattle.serial_orders.specs.Precedence.{precedes}
use Rattle.serial_orders.proofs.NumberLists.{inside-nonzero}
use Rattle.serial_orders.proofs.precedence.Precedence.cycle.Goals as goal

pub walk_back-requires-clause-on : goal.walk_back-requires-clause-on
walk_back-requires-clause-on c = λ n led.
    let leaders = c.in_ok-leaders.ensures in
    let leader = slice_index c.in_ok-leaders.leaders.items n in
    let on = leaders.leads n led in
    let before = c.requires.for_one leader (inside-nonzero c.args.waits.now leader on.1) on.1 in
    leaders.whole before.0 leader before.1.0 before.1.1

pub cycle_of-requires : goal.cycle_of-requires
cycle_of-requires c =
    let leaders = c.in_ok-leaders.ensures in
    let walked = c.in_ok-walk.ensures (precedes c.args.self.now) (λ n led. (leaders.leads n led).0) in
    rw c.deref.ensures.value walked.again
