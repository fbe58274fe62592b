use Rattle.std.proofs.Common.{◌≡◌, ◌∙◌, ℕ, List, length, ap, subst}
use Rattle.std.specs.Prelude.{Option, Some, IfOk}
use Rattle.std.proofs.lemmas.Result.{IfErr-weaker}
use Rattle.serial_orders.specs.Orders.{least_order}
use Rattle.serial_orders.specs.Placing.{IsOrderFault}
use Rattle.serial_orders.specs.Precedence.{precedes}
use Rattle.serial_orders.specs.Traces.{trace_depends}
use Rattle.serial_orders.proofs.ReducedLaws.{least_order_same}
use Rattle.history_book.proofs.TraceLaws.{same_fault}
use Rattle.history_book.proofs.orders.serial.serial_order.Goals as goal

pub returns-clause-order : goal.returns-clause-order
returns-clause-order c =
    let ts = c.args.traces.now in
    let p = precedes c.in_ok-precedence.precedence in
    let same : least_order p (length c.in_ok-precedence.precedence) ≡ least_order (trace_depends ts) (length ts) =
    ap (least_order p) c.in_ok-precedence.ensures.commits ∙ least_order_same (length ts) p (trace_depends ts) c.in_ok-precedence.ensures.reduced in
    subst (λ (o : Option (List ℕ)). IfOk c.order.result (λ order. o ≡ Some order.items)) same c.order.ensures.order

pub returns-clause-cycle : goal.returns-clause-cycle
returns-clause-cycle c =
    let ts = c.args.traces.now in
    let p = precedes c.in_ok-precedence.precedence in
    IfErr-weaker c.order.result (IsOrderFault p) (IsOrderFault (trace_depends ts))
    (λ fault is. same_fault (length ts) p (trace_depends ts) fault c.in_ok-precedence.ensures.reduced is) c.order.ensures.cycle
