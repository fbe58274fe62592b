-- What contracts see of a trace.
use Rattle.std.specs.Prelude.{ℕ, List}
use Rattle.prog_tree.specs.declared.cell.Cell.{Cell}
use Rattle.serial_orders.specs.declared.trace.Sight.{Sight}

-- how many commits an instance sees, the cells that it changed, and what it looked at
pub record TraceView : Type 0 where
  pub start : ℕ
  pub changed : List Cell
  pub looked : List Sight
