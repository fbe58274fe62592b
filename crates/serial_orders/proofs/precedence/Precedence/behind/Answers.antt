use Rattle.std.proofs.Common.{◌≤◌, List, ℕ, length, sym, ap, ◌∙◌, subst}
use Rattle.serial_orders.specs.Orders.{is_one_of}
use Rattle.serial_orders.specs.Precedence.{behind, HasCommitsAlone}
use Rattle.serial_orders.proofs.PrecedenceLaws.{behind-items}
use Rattle.serial_orders.proofs.precedence.Precedence.behind.Goals as goal

pub returns-clause-numbers : goal.returns-clause-numbers
returns-clause-numbers c =
    let low = c.requires.first in
    let high = subst (λ (w : List (List ℕ)). c.args.commit ≤ length w) (sym c.self.view_is) c.requires.within in
    c.deref.ensures.value ∙ behind-items c.self.inside.after.items c.args.commit c.index.result.now low high c.index.ensures
    ∙ ap (λ (w : List (List ℕ)). behind w c.args.commit) c.self.view_is

pub returns-clause-known : goal.returns-clause-known
returns-clause-known c = λ j h.
    let within = subst (λ (w : List (List ℕ)). HasCommitsAlone w) c.self.view_is c.self.invariant in
    within c.args.commit j (ap (λ (w : List ℕ). is_one_of w j) (sym (returns-clause-numbers c)) ∙ h)
