use Rattle.std.proofs.Common.{List, Bool, subst}
use Rattle.serial_orders.specs.Late.{AreNextMarked}
use Rattle.serial_orders.proofs.LateLaws.{late_next}
use Rattle.serial_orders.proofs.late.next_late.Goals as goal

pub returns : goal.returns
returns c =
    let next = c.in_ok-next.next.items in
    late_next c.args.traces.now c.in_ok-late.late.items next c.in_ok-late.ensures
    (subst (λ (marks : List Bool). AreNextMarked marks next) c.deref.ensures.value c.in_ok-next.ensures)
