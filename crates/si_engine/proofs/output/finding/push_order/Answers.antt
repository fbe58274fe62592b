use Rattle.std.proofs.Common.{subst, sym}
use Rattle.serial_orders.specs.Orders.{IsCycle}
use Rattle.history_book.specs.View.{depends_in}
use Rattle.si_engine.proofs.FoundCycles.{found_cycle}
use Rattle.si_engine.proofs.output.finding.push_order.Goals as goal

pub cycle-requires : goal.cycle-requires
cycle-requires g c =
    let book = c.args.book.now in
    let found = c.in-Err-Cycle in
    let is = found_cycle (depends_in book) c.serial_order.result found.field-0 found.cycle found.is found.field-0-is c.serial_order.ensures.cycle in
    subst (IsCycle (depends_in book)) (sym c.deref-in-Err-Cycle-2.ensures.value) is
