use Rattle.std.proofs.Common.{◌≤◌, ℕ, length, ap, sym, ◌∙◌, subst}
use Rattle.history_book.specs.View.{BookView, least_start}
use Rattle.history_book.proofs.ActiveLaws.{least-within}
use Rattle.history_book.proofs.BookLaws.{least_above}
use Rattle.history_book.proofs.book.Book.oldest_start.Goals as goal

pub returns-clause-above : goal.returns-clause-above
returns-clause-above c =
    let least = c.least_start.ensures ∙ ap (λ n. least_start n c.self.inside.active) (c.commits.ensures ∙ c.self.invariant.1.commits) in
    subst (λ (v : BookView). v.floor ≤ c.least_start.result) c.self.view_is
    (subst (λ (n : ℕ). c.self.inside.store.floor ≤ n) (sym least) (least_above _ c.self.invariant.0))

pub returns-clause-within : goal.returns-clause-within
returns-clause-within c =
    let least = c.least_start.ensures ∙ ap (λ n. least_start n c.self.inside.active) (c.commits.ensures ∙ c.self.invariant.1.commits) in
    subst (λ (v : BookView). c.least_start.result ≤ length v.rows) c.self.view_is
    (subst (λ (n : ℕ). n ≤ length c.self.inside.rows.items) (sym least) (least-within (length c.self.inside.rows.items) c.self.inside.active))
