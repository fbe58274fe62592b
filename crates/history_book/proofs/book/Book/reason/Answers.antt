use Rattle.std.proofs.Common.{◌≡◌, ◌∙◌, List, false, true≢false, length, sym, ap, subst}
use Rattle.std.specs.Prelude.{IfNone, IfSome, Option}
use Rattle.std.proofs.lemmas.List.{length-map}
use Rattle.prog_tree.specs.Tree.{draft_tree}
use Rattle.serial_orders.specs.Orders.{IsUpTo}
use Rattle.serial_orders.specs.Reasons.{told_reason, IsReason}
use Rattle.serial_orders.specs.TraceView.{TraceView}
use Rattle.history_book.specs.Traced.{trace_in}
use Rattle.history_book.specs.View.{history_of, traces_in, depends_in}
use Rattle.serial_orders.specs.declared.reason.OrderReason.{OrderReason}
use Rattle.history_book.proofs.ReasonBooks.{none_told, none_outside}
use Rattle.serial_orders.proofs.ReasonLaws.{told_is_reason}
use Rattle.history_book.proofs.book.Book.reason.Goals as goal

-- one of the numbers is of no commit
pub returns-then-not-are_commits-clause-told : goal.returns-then-not-are_commits-clause-told
returns-then-not-are_commits-clause-told c =
    let v = c.args.self.now in
    let set = draft_tree v.set in
    let h = history_of v.rows in
    let i = c.args.first in
    let j = c.args.second in
    let is = c.as_slice-traces.ensures.value ∙ c.self.invariant.2 ∙ ap traces_in c.self.view_is in
    let size : length c.as_slice-traces.result.now ≡ length h = ap (λ (ts : List TraceView). length ts) is ∙ length-map h (trace_in set v.opening h) in
    let past : IsUpTo (length h) i × IsUpTo (length h) j → ⊥ = λ within.
    true≢false (sym (c.are_commits.ensures.1 (subst (λ n. IsUpTo n i × IsUpTo n j) (sym size) within)) ∙ c.if-not-are_commits.true) in
    sym (none_outside set v.opening h i j past)

pub returns-then-not-are_commits-clause-none : goal.returns-then-not-are_commits-clause-none
returns-then-not-are_commits-clause-none c =
    let v = c.args.self.now in
    let i = c.args.first in
    let j = c.args.second in
    subst (λ o. IfNone o (depends_in v i j ≡ false)) (sym (returns-then-not-are_commits-clause-told c)) (none_told (draft_tree v.set) v.opening (history_of v.rows) i j)

-- what the traces of the book tell
pub returns-clause-told : goal.returns-clause-told
returns-clause-told c =
    let is = c.as_slice-traces.ensures.value ∙ c.self.invariant.2 ∙ ap traces_in c.self.view_is in
    c.reason_between.ensures ∙ ap (λ (ts : List TraceView). told_reason ts c.args.first c.args.second) is

pub returns-clause-some : goal.returns-clause-some
returns-clause-some c =
    let v = c.args.self.now in
    let i = c.args.first in
    let j = c.args.second in
    subst (λ (o : Option OrderReason). IfSome o (IsReason (traces_in v) i j)) (sym (returns-clause-told c)) (told_is_reason (traces_in v) i j)

pub returns-clause-none : goal.returns-clause-none
returns-clause-none c =
    let v = c.args.self.now in
    let i = c.args.first in
    let j = c.args.second in
    subst (λ (o : Option OrderReason). IfNone o (depends_in v i j ≡ false)) (sym (returns-clause-told c)) (none_told (draft_tree v.set) v.opening (history_of v.rows) i j)
