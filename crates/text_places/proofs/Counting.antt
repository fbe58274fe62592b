-- Counting landmarks.
use Rattle.std.proofs.Common.{◌≡◌, ◌≤◌, ◌⊎◌, inl, inr, ℕ, zero, suc, ◌+◌, List, true, false, refl, arith}
use Rattle.std.proofs.lemmas.Bool.{cases_Bool}
use Rattle.text_places.specs.declared.landmark.Landmark.{Landmark}
use Rattle.text_places.specs.Landmarks.{is_landmark, landmarks_before}

-- behind a landmark there is one more
pub one-more : (kind : Landmark) (text : List ℕ) (place : ℕ) → is_landmark kind text place ≡ true
    → landmarks_before kind text (place + 1) ≡ suc (landmarks_before kind text place)
one-more kind text place is =
    let next : place + 1 ≡ suc place = omega arith in
    rw (next, is) refl

-- behind a place there is at most one more
pub at-most-one : (kind : Landmark) (text : List ℕ) (place : ℕ) → landmarks_before kind text place ≤ landmarks_before kind text (suc place)
at-most-one kind text place = go (cases_Bool (is_landmark kind text place))
  where
    go : (is_landmark kind text place ≡ true) ⊎ (is_landmark kind text place ≡ false)
        → landmarks_before kind text place ≤ landmarks_before kind text (suc place)
    go (inl is) = rw is (omega arith)
    go (inr other) = rw other (omega arith)

-- behind further bytes there are no fewer
pub no-fewer : (kind : Landmark) (text : List ℕ) (place more : ℕ) → landmarks_before kind text place ≤ landmarks_before kind text (more + place)
no-fewer kind text place zero =
    let none : 0 + place ≡ place = omega arith in
    rw none (omega arith)
no-fewer kind text place (suc more) =
    let next : suc more + place ≡ suc (more + place) = omega arith in
    rw next (omega (arith, no-fewer kind text place more, at-most-one kind text (more + place)))
