-- How long versions hold a value.
use Rattle.std.proofs.Common.{◌≡◌, ◌∙◌, ℕ, ◌-◌, ◌<◌, ◌≤◌, List, length, get_or, ap, sym, subst, arith}
use Rattle.std.specs.Prelude.{ℤ, Option, None}
use Rattle.std.specs.List.Sorted.{IsNonDecreasingBy}
use Rattle.std.proofs.lemmas.Bool.{le-leb, lt-leb, leb-true, leb-false}
use Rattle.std.proofs.lemmas.List.{get_or_default}
use Rattle.version_store.specs.Reading.{version_number, RisesFrom, IsNumberCut, IsCutAt, value_after}
use Rattle.version_store.proofs.ChainLaws.{read_none, read_last}
use Rattle.version_store.proofs.RisingLaws.{risen}

-- a cut at a number between those of two neighbours
cut_at :
    {A : Type 0} (number : A → ℕ) (m : ℕ) (xs : List A) (count : ℕ) → IsNonDecreasingBy number xs → count ≤ length xs →
    ((d : A) → (count ≡ 0 → ⊥) → number (get_or xs (count - 1) d) ≤ m) → ((d : A) → count < length xs → m < number (get_or xs count d)) → IsNumberCut number m xs count
cut_at number m xs count order within low high = (
  λ k d from below. le-leb (number (get_or xs k d)) m
      (let last = low d (λ none. absurd (omega (arith, below, none))) in let rise = order k (count - 1) d (omega (arith, below)) (omega (arith, below, within)) in omega (arith, last, rise)),
  λ k d from below. lt-leb (number (get_or xs k d)) m
      (let next = high d (omega (arith, from, below)) in let rise = order count k d from below in omega (arith, next, rise)),
)

-- before the first version nothing is held
pub stretch_none :
    (n : ℕ) (vs : List (ℕ × Option ℤ)) (count : ℕ) → RisesFrom 0 vs → count ≤ length vs → count ≡ 0 →
    ((d : ℕ × Option ℤ) → count < length vs → n < (get_or vs count d).0) → value_after n None vs ≡ None
stretch_none n vs count rises within none high =
    sym (read_none n vs count (cut_at version_number n vs count (risen version_number 0 vs rises) within (λ d some. absurd (some none)) high) none)

-- up to the next version the last one counts
pub stretch_last :
    (n : ℕ) (vs : List (ℕ × Option ℤ)) (count : ℕ) (d v : ℕ × Option ℤ) → RisesFrom 0 vs → count ≤ length vs → (count ≡ 0 → ⊥) →
    v ≡ get_or vs (count - 1) d → v.0 ≤ n → ((d : ℕ × Option ℤ) → count < length vs → n < (get_or vs count d).0) → value_after n None vs ≡ v.1
stretch_last n vs count d v rises within some is low high =
    sym (ap (λ (v : ℕ × Option ℤ). v.1) is ∙ read_last n vs count d moved some within)
  where
    last : (e : ℕ × Option ℤ) → (get_or vs (count - 1) e).0 ≤ n
    last e =
        let place : count - 1 < length vs = omega (arith, within, some) in
        subst (λ (w : ℕ × Option ℤ). w.0 ≤ n) (is ∙ get_or_default vs (count - 1) d e place) low

    moved : IsCutAt n vs count
    moved = cut_at version_number n vs count (risen version_number 0 vs rises) within (λ e some. last e) high

-- ---- the stretch of a cut

-- the versions before a cut are at most its number, and those from it on are above
pub within_cut : (n : ℕ) (vs : List (ℕ × Option ℤ)) (count : ℕ) (d : ℕ × Option ℤ) → IsCutAt n vs count → (count ≡ 0 → ⊥) → (get_or vs (count - 1) d).0 ≤ n
within_cut n vs count d cut some = leb-true (get_or vs (count - 1) d).0 n (cut.0 (count - 1) d (omega arith) (omega (arith, some)))

pub above_cut : (n : ℕ) (vs : List (ℕ × Option ℤ)) (count : ℕ) (d : ℕ × Option ℤ) → IsCutAt n vs count → count < length vs → n < (get_or vs count d).0
above_cut n vs count d cut within = leb-false (get_or vs count d).0 n (cut.1 count d (omega arith) within)
