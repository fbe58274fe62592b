-- An instance that was just begun.
use Rattle.std.proofs.Common.{◌≡◌, ℕ, ◌+◌, ◌<◌, ◌==◌, true, List, [], ◌∷◌, ◌++◌, length, refl, ap, sym, ◌∙◌, arith}
use Rattle.std.specs.Prelude.{All, ℤ, Some, None}
use Rattle.std.specs.BTreeMap.{is_at}
use Rattle.std.specs.Map.{lookup, remove_entry}
use Rattle.std.specs.Ordering.{nat_cmp}
use Rattle.std.proofs.lemmas.Bool.Decides.{nat_tests}
use Rattle.std.proofs.lemmas.List.Elements.{All-head, All-tail, All-weaker}
use Rattle.history_book.specs.History.{Instance}
use Rattle.history_book.specs.Ticket.{TicketView}
use Rattle.history_book.specs.Runs.{withdrawn_in}
use Rattle.history_book.specs.TrueBook.{IsTrueActive, IsTrueBook}
use Rattle.history_book.specs.View.{BookView, active_at, with_start, next_ticket, next_instance, begun_in}
use Rattle.history_book.proofs.StartLaws.{number_at, other_number}
use Rattle.si_workers.specs.Freshness.{begun_and_withdrawn}

abbrev Entry : Type 0
Entry = ℕ × Instance

abbrev IsBelow : ℕ → Entry → Type 0
IsBelow k entry = entry.0 < k

-- an entry that was put behind lower ones is found, and the others stay where it goes
found-last : (es : List Entry) (k : ℕ) (i : Instance) → All (IsBelow k) es → lookup (is_at (nat_cmp k)) (es ++ (k, i) ∷ []) ≡ Some i
found-last [] k i below = rw (number_at k k refl) refl
found-last (e ∷ es) k i below =
    rw (other_number k e.0 (λ same. let lower = All-head (IsBelow k) e es below in omega (arith, same, lower))) (found-last es k i (All-tail (IsBelow k) e es below))

removed-last : (es : List Entry) (k : ℕ) (i : Instance) → All (IsBelow k) es → remove_entry (is_at (nat_cmp k)) (es ++ (k, i) ∷ []) ≡ es
removed-last [] k i below = rw (number_at k k refl) refl
removed-last (e ∷ es) k i below =
    rw (other_number k e.0 (λ same. let lower = All-head (IsBelow k) e es below in omega (arith, same, lower))) (ap (λ xs. e ∷ xs) (removed-last es k i (All-tail (IsBelow k) e es below)))

-- the active instances of a book have lower numbers than the next
all-below : (v : BookView) → IsTrueBook v → All (IsBelow v.begun) v.active
all-below v book = All-weaker (IsTrueActive v) (IsBelow v.begun) (λ e a. a.number) v.active book.active

-- a begun instance is active
pub begun-active :
    (v new : BookView) (t : TicketView) (program : ℕ) (args : List ℤ) →
    IsTrueBook v → new ≡ begun_in v program args → t ≡ next_ticket v → active_at new t ≡ None → ⊥
begun-active v new t program args book begun at none =
    let i = next_instance v program args in
    let same : (length v.rows == length v.rows) ≡ true = grind (arith, nat_tests) in
    let found : with_start (length v.rows) (lookup (is_at (nat_cmp v.begun)) (v.active ++ (v.begun, i) ∷ [])) ≡ Some i =
    rw (found-last v.active v.begun i (all-below v book), same) refl in
    let is : active_at new t ≡ active_at (begun_in v program args) (next_ticket v) =
    ap (λ w. active_at w t) begun ∙ ap (active_at (begun_in v program args)) at in
    let never : Some i ≡ None = sym found ∙ sym is ∙ none in
    absurd (cc)

-- and where it is withdrawn the begin was counted, and nothing else is left of it
pub begun-withdrawn :
    (v new after : BookView) (t : TicketView) (program : ℕ) (args : List ℤ) →
    IsTrueBook v → new ≡ begun_in v program args → t ≡ next_ticket v → after ≡ withdrawn_in new t.number → after ≡ begun_and_withdrawn v
begun-withdrawn v new after t program args book begun at withdrawn =
    let back = ap (λ (active : List Entry). record v { active = active; begun = v.begun + 1 })
    (removed-last v.active v.begun (next_instance v program args) (all-below v book)) in
    let first : withdrawn_in new t.number ≡ withdrawn_in (begun_in v program args) v.begun =
    ap (λ w. withdrawn_in w t.number) begun ∙ ap (λ (u : TicketView). withdrawn_in (begun_in v program args) u.number) at in
    withdrawn ∙ first ∙ back
