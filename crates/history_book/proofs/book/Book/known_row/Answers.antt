use Rattle.std.proofs.Common.{ap, subst}
use Rattle.history_book.specs.TrueBook.{IsTrueBook}
use Rattle.history_book.specs.View.{BookView}
use Rattle.history_book.proofs.SerialBooks.{row_known, row_true, rows_few}
use Rattle.history_book.proofs.book.Book.known_row.Goals as goal

pub returns-clause-found : goal.returns-clause-found
returns-clause-found c =
    row_known c.args.self.now.rows c.self.inside.rows.items c.index.result.now c.args.number (ap (λ (v : BookView). v.rows) c.self.view_is) c.index.ensures c.requires.first
    c.requires.last

pub returns-clause-is_true : goal.returns-clause-is_true
returns-clause-is_true c =
    row_true c.args.self.now c.self.inside.rows.items c.index.result.now c.args.number (subst IsTrueBook c.self.view_is c.self.invariant.0) (ap (λ (v : BookView). v.rows) c.self.view_is)
    c.index.ensures c.requires.first c.requires.last

pub returns-clause-few : goal.returns-clause-few
returns-clause-few c = rows_few c.args.self.now (subst IsTrueBook c.self.view_is c.self.invariant.0)
