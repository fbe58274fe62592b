-- The cycle that a search for a serial order ends in.
use Rattle.std.proofs.Common.{◌≡◌, ℕ, Bool, Result, Err, IfErr, subst, Vec, Global}
use Rattle.serial_orders.specs.Orders.{IsCycle}
use Rattle.serial_orders.specs.Placing.{IsOrderFault}
use Rattle.serial_orders.specs.declared.order.OrderFault.{OrderFault}
use Rattle.serial_orders.specs.declared.order.OrderFault.TheVariants.{Cycle}

pub found_cycle : {X : Type 0} (before : ℕ → ℕ → Bool) (r : Result X OrderFault) (f : OrderFault) (list : Vec ℕ Global) →
    r ≡ Err f → f ≡ Cycle list → IfErr r (IsOrderFault before) → IsCycle before list.items
found_cycle before r f list is of told =
    subst (IsOrderFault before) of (subst (λ x. IfErr x (IsOrderFault before)) is told)
