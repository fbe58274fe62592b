-- The text of a fault.
use Rattle.std.specs.Prelude.{ℕ, List, codes}
use Rattle.serial_orders.specs.declared.order.OrderFault.{OrderFault}
use Rattle.serial_orders.specs.declared.order.OrderFault.TheVariants as order

-- why there is no order
abbrev pub order_fault_text : OrderFault → List ℕ
order_fault_text (order.Cycle list) = codes "cycle"
order_fault_text order.Memory = codes "memory"
