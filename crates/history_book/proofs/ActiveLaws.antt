-- Active instances, as some begin and some end.
use Rattle.std.proofs.Common.{◌≡◌, ℕ, ◌+◌, ◌<◌, ◌≤◌, ◌==◌, Bool, true, false, cond, nat_lt, List, [], ◌∷◌, ◌++◌, length, refl, ap, sym, ◌∙◌, subst, true≢false, arith}
use Rattle.std.specs.Prelude.{All, Option, Some, None, IsSome}
use Rattle.std.specs.BTreeMap.{insert_entry}
use Rattle.std.specs.Map.{lookup, remove_entry}
use Rattle.std.specs.Ordering.{nat_cmp}
use Rattle.std.proofs.lemmas.Bool.Decides.{nat_tests}
use Rattle.std.proofs.lemmas.List.Elements.{All-head, All-tail, All-cons, All-nil, All-weaker}
use Rattle.history_book.specs.History.{Instance}
use Rattle.history_book.specs.View.{least_start, with_start}

-- an active instance with its number
abbrev pub Entry : Type 0
Entry = ℕ × Instance

module _ (test : ℕ → Bool) where
  -- what holds of all holds of those that are left
  pub All-removed : (P : Entry → Type 0) (es : List Entry) → All P es → All P (remove_entry test es)
  All-removed P [] all = all
  All-removed P (e ∷ es) all = go (test e.0) (All-removed P es (All-tail P e es all))
    where
      go : (b : Bool) → All P (remove_entry test es) → All P (cond b es (e ∷ remove_entry test es))
      go true rest = All-tail P e es all
      go false rest = All-cons P e (remove_entry test es) (All-head P e es all) rest

  -- one less where the number is there
  pub length-removed : (es : List Entry) → IsSome (lookup test es) → length (remove_entry test es) + 1 ≡ length es
  length-removed [] found = absurd (true≢false (sym found))
  length-removed (e ∷ es) found = go (test e.0) (length-removed es) found
    where
      go : (b : Bool) → (IsSome (lookup test es) → length (remove_entry test es) + 1 ≡ length es) → IsSome (cond b (Some e.1) (lookup test es)) →
          length (cond b es (e ∷ remove_entry test es)) + 1 ≡ length (e ∷ es)
      go true rest here = omega arith
      go false rest here = omega (arith, rest here)

  pub fewer-removed : (es : List Entry) → length (remove_entry test es) ≤ length es
  fewer-removed [] = omega arith
  fewer-removed (e ∷ es) = go (test e.0) (fewer-removed es)
    where
      go : (b : Bool) → length (remove_entry test es) ≤ length es → length (cond b es (e ∷ remove_entry test es)) ≤ length (e ∷ es)
      go true rest = omega arith
      go false rest = omega arith

  -- what a look-up finds has what all have
  pub All-found : (P : Entry → Type 0) (es : List Entry) (i : Instance) → All P es → lookup test es ≡ Some i → (n : ℕ) × P (n, i)
  All-found P [] i all found = absurd (cc)
  All-found P (e ∷ es) i all found = go (test e.0) (All-found P es i (All-tail P e es all)) found
    where
      go : (b : Bool) → (lookup test es ≡ Some i → (n : ℕ) × P (n, i)) → cond b (Some e.1) (lookup test es) ≡ Some i → (n : ℕ) × P (n, i)
      go true rest here = let is : e.1 ≡ i = cc in (e.0, subst (λ j. P (e.0, j)) is (All-head P e es all))
      go false rest here = rest here

-- a number above all others comes last
pub insert_last : (es : List Entry) (k : ℕ) (i : Instance) → All (λ e. e.0 < k) es → insert_entry nat_cmp es k i ≡ es ++ (k, i) ∷ []
insert_last [] k i below = refl
insert_last (e ∷ es) k i below =
    let here : e.0 < k = All-head (λ (x : Entry). x.0 < k) e es below in
    let rest = insert_last es k i (All-tail (λ (x : Entry). x.0 < k) e es below) in
    let not_less : nat_lt k e.0 ≡ false = grind (arith, nat_tests) in
    let not_equal : (k == e.0) ≡ false = grind (arith, nat_tests) in
    rw (not_less, not_equal) (ap (λ xs. e ∷ xs) rest)

pub least-below : (n : ℕ) (es : List Entry) → All (λ e. least_start n es ≤ e.1.start) es
least-below n [] = All-nil (λ (e : Entry). n ≤ e.1.start)
least-below n (f ∷ fs) =
    let m = least_start n (f ∷ fs) in
    All-cons (λ (e : Entry). m ≤ e.1.start) f fs (omega arith)
    (All-weaker (λ (e : Entry). least_start n fs ≤ e.1.start) (λ e. m ≤ e.1.start) (λ e low. omega arith) fs (least-below n fs))

pub least-from : (n low : ℕ) (es : List Entry) → All (λ e. low ≤ e.1.start) es → low ≤ n → low ≤ least_start n es
least-from n low [] all within = within
least-from n low (e ∷ es) all within =
    let P = λ (x : Entry). low ≤ x.1.start in
    let here : low ≤ e.1.start = All-head P e es all in
    omega (arith, least-from n low es (All-tail P e es all) within, here)

pub least-within : (n : ℕ) (es : List Entry) → least_start n es ≤ n
least-within n [] = omega arith
least-within n (f ∷ fs) = omega (arith, least-within n fs)

-- the instance that a ticket names is one of the number, with the ticket's start
pub with_start-is : (start : ℕ) (o : Option Instance) (i : Instance) → with_start start o ≡ Some i → (o ≡ Some i) × (i.start ≡ start)
with_start-is start None i is = absurd (cc)
with_start-is start (Some j) i is = go (j.start == start) refl is
  where
    go : (b : Bool) → (j.start == start) ≡ b → cond b (Some j) None ≡ Some i → (Some j ≡ Some i) × (i.start ≡ start)
    go true same found =
        let one : j ≡ i = cc in
        let at : j.start ≡ start = grind (arith, nat_tests) in
        (found, sym (ap (λ (x : Instance). x.start) one) ∙ at)
    go false other found = absurd (cc)
