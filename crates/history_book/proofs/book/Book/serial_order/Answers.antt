use Rattle.std.proofs.Common.{◌≡◌, ◌∙◌, ℕ, Bool, List, length, ap, subst, sym, rules}
use Rattle.std.specs.Prelude.{Option, Some, IfOk, IfErr}
use Rattle.std.proofs.lemmas.List.{length-map}
use Rattle.std.proofs.lemmas.Result.{IfOk-weaker}
use Rattle.prog_tree.specs.Table.{IsTableState}
use Rattle.prog_tree.specs.Tree.{draft_tree}
use Rattle.serial_orders.specs.Orders.{least_order, IsCycle}
use Rattle.serial_orders.specs.Placing.{IsOrderFault}
use Rattle.serial_orders.specs.TraceView.{TraceView}
use Rattle.serial_orders.specs.Traces.{SeesEarlier, trace_depends}
use Rattle.history_book.specs.Traced.{trace_in}
use Rattle.history_book.specs.TrueBook.{IsTrueBook}
use Rattle.history_book.specs.View.{history_of, instance_of, depends_in, traces_in, FitsBook}
use Rattle.history_book.proofs.FitLaws.{least_order-fits, dependencies_without_cycle}
use Rattle.history_book.proofs.ReasonBooks.{traces_tell}
use Rattle.history_book.proofs.TraceLaws.{traces_see_earlier}
use Rattle.history_book.proofs.book.Book.serial_order.Goals as goal

pub serial_order-requires : goal.serial_order-requires
serial_order-requires c =
    let inside = c.self.inside in
    let h = history_of inside.rows.items in
    subst (λ (ts : List TraceView). SeesEarlier ts) (sym (c.deref.ensures.value ∙ c.self.invariant.2)) (traces_see_earlier (draft_tree inside.set.now) inside.opening h c.self.invariant.0.lawful.starts)

-- the book's traces tell its dependencies
pub returns-clause-order : goal.returns-clause-order
returns-clause-order c =
    let v = c.args.self.now in
    let set = draft_tree v.set in
    let h = history_of v.rows in
    let is = c.deref.ensures.value ∙ c.self.invariant.2 ∙ ap traces_in c.self.view_is in
    let tells : trace_depends c.deref.result.now ≡ depends_in v = ap (λ (ts : List TraceView). trace_depends ts) is ∙ traces_tell set v.opening h in
    let size : length c.deref.result.now ≡ length v.rows =
    ap (λ (ts : List TraceView). length ts) is ∙ length-map h (trace_in set v.opening h) ∙ length-map v.rows instance_of in
    subst (λ (o : Option (List ℕ)). IfOk c.serial_order.result (λ order. o ≡ Some order.items)) (λ k. least_order (tells k) (size k)) c.serial_order.ensures.order

pub returns-clause-fits : goal.returns-clause-fits
returns-clause-fits c =
    let v = c.args.self.now in
    let h = history_of v.rows in
    let size : length h ≡ length v.rows = length-map v.rows instance_of in
    let book : IsTrueBook v = search rules in
    let ordered : IsTableState v.opening = search rules in
    IfOk-weaker c.serial_order.result (λ order. least_order (depends_in v) (length v.rows) ≡ Some order.items) (λ order. FitsBook v order.items)
    (λ order least. least_order-fits (draft_tree v.set) v.opening h book.lawful ordered order.items (ap (least_order (depends_in v)) size ∙ least)) (returns-clause-order c)

pub returns-clause-acyclic : goal.returns-clause-acyclic
returns-clause-acyclic c =
    let v = c.args.self.now in
    let h = history_of v.rows in
    let size : length h ≡ length v.rows = length-map v.rows instance_of in
    let book : IsTrueBook v = search rules in
    IfOk-weaker c.serial_order.result (λ order. least_order (depends_in v) (length v.rows) ≡ Some order.items) (λ order. (numbers : List ℕ) → IsCycle (depends_in v) numbers → ⊥)
    (λ order least numbers. dependencies_without_cycle (draft_tree v.set) v.opening h book.lawful order.items numbers (ap (least_order (depends_in v)) size ∙ least)) (returns-clause-order c)

pub returns-clause-cycle : goal.returns-clause-cycle
returns-clause-cycle c =
    let v = c.args.self.now in
    let is = c.deref.ensures.value ∙ c.self.invariant.2 ∙ ap traces_in c.self.view_is in
    let tells : trace_depends c.deref.result.now ≡ depends_in v = ap (λ (ts : List TraceView). trace_depends ts) is ∙ traces_tell (draft_tree v.set) v.opening (history_of v.rows) in
    subst (λ (r : ℕ → ℕ → Bool). IfErr c.serial_order.result (IsOrderFault r)) tells c.serial_order.ensures.cycle
