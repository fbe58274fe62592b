use Rattle.std.proofs.Common.{◌≡◌, drop}
use Rattle.std.specs.Prelude.{find}
use Rattle.serial_orders.specs.Traces.{looked_at, trace_at}
use Rattle.serial_orders.proofs.reason.first_look_reason.Given as goal

abbrev pub invariant-loop-cell : goal.invariant-loop-cell
invariant-loop-cell l =
    find (looked_at (trace_at l.traces l.first)) (drop l.cell-index l.cells)
    ≡ find (looked_at (trace_at l.traces l.first)) l.cells
