use Rattle.prog_tree.specs.Tree.{draft_tree}
use Rattle.history_book.specs.View.{depends_in, history_of}
use Rattle.si_engine.proofs.CycleLaws.{law_of_safe_sets}
use Rattle.si_engine.proofs.FoundCycles.{found_cycle}
use Rattle.si_engine.proofs.robust.run.order_of.Goals as goal

pub unreachable-requires : goal.unreachable-requires
unreachable-requires c =
    let book = c.args.book.now in
    let found = c.in-Err-Cycle in
    law_of_safe_sets (draft_tree book.set) book.opening (history_of book.rows) c.requires.safe c.read_history.ensures
    found.field-0-0.items
    (found_cycle (depends_in book) c.serial_order.result found.field-0 found.field-0-0 found.is found.field-0-is c.serial_order.ensures.cycle)
