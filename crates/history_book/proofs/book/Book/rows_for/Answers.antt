use Rattle.std.proofs.Common.{◌≡◌, IfOk, subst}
use Rattle.prog_tree.specs.Table.{TableState}
use Rattle.history_book.specs.View.{state_in}
use Rattle.history_book.proofs.book.Book.rows_for.Goals as goal

pub returns-in-Some : goal.returns-in-Some
returns-in-Some c =
    subst (λ (m : TableState). IfOk c.share.result (λ rows. rows ≡ m)) (c.in-Some.ensures.held (state_in c.args.self.now c.args.start) c.requires.found) c.share.ensures
