-- The reasons that the traces of a history give are those for its dependencies.
use Rattle.std.proofs.Common.{◌≡◌, ◌∙◌, ℕ, Bool, true, false, true≢false, List, length, refl, ap, sym, subst}
use Rattle.std.specs.Prelude.{Option, Some, None, IfNone, IfSome, is_some}
use Rattle.prog_tree.specs.Syntax.{DraftTree}
use Rattle.prog_tree.specs.Table.{TableState}
use Rattle.history_book.specs.Dependencies.{depends}
use Rattle.history_book.specs.History.{Instance}
use Rattle.serial_orders.specs.Orders.{IsUpTo}
use Rattle.serial_orders.specs.Reasons.{told_reason, IsReason}
use Rattle.serial_orders.specs.TraceView.{TraceView}
use Rattle.serial_orders.specs.Traces.{trace_depends}
use Rattle.history_book.specs.Traced.{traces_of}
use Rattle.serial_orders.specs.declared.reason.OrderReason.{OrderReason}
use Rattle.history_book.proofs.DependencyLaws.{depends_within}
use Rattle.serial_orders.proofs.ReasonLaws.{reason_depends, reason_numbers, told_is_reason, told_tells}
use Rattle.history_book.proofs.TraceLaws.{depends_same}

module _ (set : DraftTree) (opening : TableState) (h : List Instance) where
  abbrev traces : List TraceView
  traces = traces_of set opening h

  pub reason_of_dependency : (i j : ℕ) (r : OrderReason) → IsReason traces i j r → depends set opening h i j ≡ true
  reason_of_dependency i j r is =
      let numbers = reason_numbers traces i j r is in
      sym (depends_same set opening h i j numbers.0 numbers.1) ∙ reason_depends traces i j r is

  -- a reason is told just where one has to stand before the other
  told_where : (i j : ℕ) → is_some (told_reason traces i j) ≡ depends set opening h i j
  told_where i j = go (told_reason traces i j) refl (depends set opening h i j) refl (told_is_reason traces i j)
    where
      go : (o : Option OrderReason) → told_reason traces i j ≡ o → (b : Bool) → depends set opening h i j ≡ b → IfSome (told_reason traces i j) (IsReason traces i j) →
          is_some (told_reason traces i j) ≡ depends set opening h i j
      go None told false is some = ap is_some told ∙ sym is
      go None told true is some =
          let within = depends_within set opening h i j is in
          let found = told_tells traces i j ∙ depends_same set opening h i j within.0.0 within.1.0 ∙ is in
          absurd (true≢false (sym found ∙ ap is_some told))
      go (Some r) told b is some =
          ap is_some told ∙ sym (reason_of_dependency i j r (subst (λ o. IfSome o (IsReason traces i j)) told some))

  -- what has to stand before what is the same by traces as by evaluations
  pub traces_tell : trace_depends traces ≡ depends set opening h
  traces_tell k i j = (sym (told_tells traces i j) ∙ told_where i j) k

  none_by : (o : Option OrderReason) (b : Bool) → is_some o ≡ b → IfNone o (b ≡ false)
  none_by None b is = sym is
  none_by (Some r) b is = tt

  -- where none is told, the first need not stand before the second
  pub none_told : (i j : ℕ) → IfNone (told_reason traces i j) (depends set opening h i j ≡ false)
  none_told i j = none_by (told_reason traces i j) (depends set opening h i j) (told_where i j)

  -- where one of the numbers is of no commit, none is told
  pub none_outside : (i j : ℕ) → (IsUpTo (length h) i × IsUpTo (length h) j → ⊥) → told_reason traces i j ≡ None
  none_outside i j past = go (told_reason traces i j) refl (told_is_reason traces i j)
    where
      go : (o : Option OrderReason) → told_reason traces i j ≡ o → IfSome (told_reason traces i j) (IsReason traces i j) → told_reason traces i j ≡ None
      go None told some = told
      go (Some r) told some =
          absurd (past (depends_within set opening h i j (reason_of_dependency i j r (subst (λ o. IfSome o (IsReason traces i j)) told some))))
