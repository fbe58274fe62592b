-- The least pair of accesses that covers.
use Rattle.std.proofs.Common.{◌≡◌, ℕ, ◌<◌, ◌≤◌, ◌+◌, ◌⊎◌, inl, inr, List, length, get_or, sym, subst, ◌∙◌, arith}
use Rattle.std.specs.Prelude.{Some, slice_get}
use Rattle.std.proofs.lemmas.Bool.{cases_lt}
use Rattle.std.proofs.lemmas.Option.{slice_get-get_or, slice_get_within, same_Some}
use Rattle.order_facts.specs.declared.steps.Fact.{Fact}
use Rattle.prog_check.specs.declared.path.Access.{Access}
use Rattle.prog_paths.specs.Shown.{CoversBy, CoversAt, CoversFirst}

-- an access of the second list covers with this one
abbrev pub CoversSome : List Fact → Access → List Access → ℕ → Type 0
CoversSome facts mine ys t = (theirs : Access) × (slice_get ys t ≡ Some theirs) × CoversBy facts mine theirs

covers-here : (facts : List Fact) (xs ys : List Access) (m j : ℕ) (d : Access) → m < length xs → CoversAt facts xs ys m j → CoversSome facts (get_or xs m d) ys j
covers-here facts xs ys m j d lt h =
    (h.theirs, h.at_theirs, subst (λ (a : Access). CoversBy facts a h.theirs) (same_Some _ _ (sym h.at_mine ∙ slice_get-get_or xs m d lt)) h.covers)

pub CoversFirst-found : (facts : List Fact) (xs ys : List Access) (m t : ℕ) (d : Access) → m < length xs → ((i j : ℕ) → i < m → CoversAt facts xs ys i j → ⊥) → CoversSome facts (get_or xs m d) ys t → ((j : ℕ) (theirs : Access) → j < t → slice_get ys j ≡ Some theirs → CoversBy facts (get_or xs m d) theirs → ⊥) → CoversFirst facts xs ys m t
CoversFirst-found facts xs ys m t d lt before found first = record {
  covers = record { mine = get_or xs m d; theirs = found.0; at_mine = slice_get-get_or xs m d lt; at_theirs = found.1; covers = found.2 };
  least = λ i j h. by (cases_lt i m) (cases_lt m i) (cases_lt j t) h;
}
  where
    by : {i j : ℕ} → (i < m) ⊎ (m ≤ i) → (m < i) ⊎ (i ≤ m) → (j < t) ⊎ (t ≤ j) → CoversAt facts xs ys i j → (m < i) ⊎ ((m ≡ i) × (t ≤ j))
    by (inl a) b e h = absurd (before _ _ a h)
    by (inr a) (inl b) e h = inl b
    by (inr a) (inr b) (inr e) h = inr (omega arith, e)
    by {i = i} {j = j} (inr a) (inr b) (inl e) h =
        let same : i ≡ m = omega arith in
        let w = covers-here facts xs ys m j d lt (subst (λ (k : ℕ). CoversAt facts xs ys k j) same h) in
        absurd (first j w.0 e w.1 w.2)

pub covers_none-more : (facts : List Fact) (xs ys : List Access) (m : ℕ) (d : Access) → m < length xs → ((i j : ℕ) → i < m → CoversAt facts xs ys i j → ⊥) → ((j : ℕ) (theirs : Access) → slice_get ys j ≡ Some theirs → CoversBy facts (get_or xs m d) theirs → ⊥) → (i j : ℕ) → i < m + 1 → CoversAt facts xs ys i j → ⊥
covers_none-more facts xs ys m d lt before none i j le h = by (cases_lt i m)
  where
    by : (i < m) ⊎ (m ≤ i) → ⊥
    by (inl a) = before i j a h
    by (inr a) =
        let same : i ≡ m = omega arith in
        let w = covers-here facts xs ys m j d lt (subst (λ (k : ℕ). CoversAt facts xs ys k j) same h) in
        none j w.0 w.1 w.2

pub covers_none-all : (facts : List Fact) (xs ys : List Access) (count : ℕ) → length xs ≤ count → ((i j : ℕ) → i < count → CoversAt facts xs ys i j → ⊥) → (i j : ℕ) → CoversAt facts xs ys i j → ⊥
covers_none-all facts xs ys count le none i j h =
    let lt = slice_get_within xs i h.mine h.at_mine in
    none i j (omega arith) h
