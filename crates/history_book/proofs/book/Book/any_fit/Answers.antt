use Rattle.std.proofs.Common.{◌++◌, List, ℕ, sym, subst}
use Rattle.prog_tree.specs.Tree.{draft_tree}
use Rattle.history_book.specs.Serial.{Fits}
use Rattle.history_book.specs.View.{history_of}
use Rattle.history_book.proofs.book.Book.any_fit.Goals as goal

pub returns-clause-order : goal.returns-clause-order
returns-clause-order c = λ order fits.
    let v = c.args.self.now in
    c.in_ok-complete.ensures.none c.if-branch.false order
    (subst (λ (xs : List ℕ). Fits (draft_tree v.set) v.opening (history_of v.rows) (xs ++ order)) (sym c.new-placed.ensures.items) fits)
