use Rattle.std.proofs.Common.{◌∙◌, ap}
use Rattle.prog_tree.specs.Table.{is_cell_among}
use Rattle.serial_orders.specs.TraceView.{TraceView}
use Rattle.serial_orders.proofs.trace.Trace.changed_at.Goals as goal

pub returns : goal.returns
returns c = c.contains.ensures ∙ ap (λ (t : TraceView). is_cell_among t.changed c.args.cell.now) c.self.view_is
