use Rattle.std.proofs.Common.{◌≡◌, drop}
use Rattle.std.specs.Prelude.{find}
use Rattle.serial_orders.specs.Reasons.{changed_before}
use Rattle.serial_orders.specs.Traces.{trace_at}
use Rattle.serial_orders.proofs.reason.first_change_reason.Given as goal

abbrev pub invariant-loop-cell : goal.invariant-loop-cell
invariant-loop-cell l =
    find (changed_before l.first l.second (trace_at l.traces l.second)) (drop l.cell-index l.cells)
    ≡ find (changed_before l.first l.second (trace_at l.traces l.second)) l.cells
