-- Accesses among all stand in order, by node and then by number: so each stands once, and where two that both write ask
-- each other, the first access of a class asks the last of another.
use Rattle.std.proofs.Common.{◌≡◌, ℕ, ◌<◌, ◌≤◌, ◌⊎◌, inl, inr, true, List, length, sym, ap, ◌∙◌, arith}
use Rattle.std.proofs.lemmas.Bool.{cases_lt}
use Rattle.std.proofs.lemmas.Option.{slice_get-get_or}
use Rattle.prog_check.specs.declared.path.Kind.{Kind}
use Rattle.prog_check.specs.declared.path.Path.{Path}
use Rattle.prog_paths.specs.StaticGraph.{IsUpToPair}
use Rattle.prog_paths.specs.declared.accesses.places.Placed.{Placed}
use Rattle.prog_paths.specs.Places.{AreAlike, all_from}
use Rattle.prog_paths.specs.Questions.{Asks, asks, question_between, numbers_of}
use Rattle.prog_paths.proofs.Membership.{Asks-from_asks, asks-from_Asks}
use Rattle.prog_paths.proofs.Order.{PlaceBefore, places_rise, rises-at}
use Rattle.conflict_pairs.specs.Pairing.{no_place, place_at}

module _ (paths : List Path) where
  abbrev at_number : ℕ → Placed
  at_number n = place_at (all_from 0 paths) n

  before : (i j : ℕ) → i < j → j < length (all_from 0 paths) → PlaceBefore (at_number i) (at_number j)
  before i j lt within =
      rises-at PlaceBefore (all_from 0 paths) (places_rise 0 paths) i j (at_number i) (at_number j) (slice_get-get_or (all_from 0 paths) i no_place (omega (arith, lt, within))) (slice_get-get_or (all_from 0 paths) j no_place within) lt

  -- none stands before itself
  not_before-own : (p r : Placed) → p ≡ r → PlaceBefore p r → ⊥
  not_before-own p r e (inl lt) = let n = ap (λ (q : Placed). q.node) e in omega (arith, lt, n)
  not_before-own p r e (inr (_, lt)) = let n = ap (λ (q : Placed). q.number) e in omega (arith, lt, n)

  -- so one access has one number
  pub number-once : (i j : ℕ) → i < length (all_from 0 paths) → j < length (all_from 0 paths) → at_number i ≡ at_number j → i ≡ j
  number-once i j lt le e = by (cases_lt i j)
    where
      not_behind : j < i → ⊥
      not_behind k = not_before-own (at_number j) (at_number i) (sym e) (before j i k lt)

      last : i ≤ j ⊎ j < i → j ≤ i → i ≡ j
      last (inl a) b = omega (arith, a, b)
      last (inr a) b = absurd (not_behind a)

      by : (i < j) ⊎ (j ≤ i) → i ≡ j
      by (inl a) = absurd (not_before-own (at_number i) (at_number j) e (before i j a le))
      by (inr b) = last (swapped (cases_lt j i)) b
        where
          swapped : (j < i) ⊎ (i ≤ j) → i ≤ j ⊎ j < i
          swapped (inl a) = inr a
          swapped (inr b) = inl b

  -- ---- from one pair of accesses to another

  up_to : (i j : ℕ) → i ≤ j → j < length (all_from 0 paths) → IsUpToPair (at_number i).node (at_number i).number (at_number j).node (at_number j).number
  up_to i j le within = by (cases_lt i j)
    where
      by : (i < j) ⊎ (j ≤ i) → IsUpToPair (at_number i).node (at_number i).number (at_number j).node (at_number j).number
      by (inl a) = weaker (before i j a within)
        where
          weaker : PlaceBefore (at_number i) (at_number j) → IsUpToPair (at_number i).node (at_number i).number (at_number j).node (at_number j).number
          weaker (inl k) = inl k
          weaker (inr (e, k)) = inr (e, omega (arith, k))
      by (inr b) =
          let same : i ≡ j = omega (arith, le, b) in
          inr (ap (λ (n : ℕ). (at_number n).node) same, let e = ap (λ (n : ℕ). (at_number n).number) same in omega (arith, e))

  up_to-through : (a b c d e f : ℕ) → IsUpToPair a b c d → IsUpToPair c d e f → IsUpToPair a b e f
  up_to-through a b c d e f (inl h) (inl k) = inl (omega (arith, h, k))
  up_to-through a b c d e f (inl h) (inr (x, k)) = inl (omega (arith, h, x))
  up_to-through a b c d e f (inr (x, h)) (inl k) = inl (omega (arith, x, k))
  up_to-through a b c d e f (inr (x, h)) (inr (y, k)) = inr (x ∙ y, omega (arith, h, k))

  -- two accesses that are alike ask what two others ask, the one no later and the other no earlier
  pub asks-wider : (f m n l : ℕ) → f ≤ m → m < length (all_from 0 paths) → n ≤ l → l < length (all_from 0 paths)
      → AreAlike (at_number f).access (at_number m).access → AreAlike (at_number l).access (at_number n).access
      → asks (at_number m) (at_number n) ≡ true → asks (at_number f) (at_number l) ≡ true
  asks-wider f m n l first m_in last l_in alike_first alike_last h =
      let told = Asks-from_asks (at_number m) (at_number n) h in
      asks-from_Asks (at_number f) (at_number l) (alike_first.table ∙ told.0 ∙ sym alike_last.table)
      (wider (at_number f).access.kind (at_number l).access.kind alike_first.kind alike_last.kind told.1)
    where
      wider : (a b : Kind) → a ≡ (at_number m).access.kind → b ≡ (at_number n).access.kind
          → Asks (numbers_of (question_between (at_number m) (at_number n))) (at_number m).access.kind (at_number n).access.kind
          → Asks (numbers_of (question_between (at_number f) (at_number l))) a b
      wider a b x y (inl (inl (k, inl j))) = inl (inl (x ∙ k, inl (y ∙ j)))
      wider a b x y (inl (inl (k, inr j))) = inl (inl (x ∙ k, inr (y ∙ j)))
      wider a b x y (inl (inr (k, j))) = inl (inr (x ∙ k, y ∙ j))
      wider a b x y (inr (inl (inl (k, inl j)))) = inr (inl (inl (x ∙ k, inl (y ∙ j))))
      wider a b x y (inr (inl (inl (k, inr j)))) = inr (inl (inl (x ∙ k, inr (y ∙ j))))
      wider a b x y (inr (inl (inr (k, j)))) = inr (inl (inr (x ∙ k, y ∙ j)))
      wider a b x y (inr (inr (k, j, o))) =
          inr (inr (
            x ∙ k,
            y ∙ j,
            up_to-through _ _ _ _ _ _ (up_to f m first m_in) (up_to-through _ _ _ _ _ _ o (up_to n l last l_in)),
          ))
