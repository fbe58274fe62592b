-- What the value of a certificate says of its version, and that it is the value of one certificate.
use Rattle.std.proofs.Common.{◌≡◌, ◌⊎◌, inl, inr, ◌∷◌, [], ◌==◌, ℕ, zero, suc, List, length, All, true, Some, IsTrue, replicate, refl, sym, ap, ap₂, subst, ◌∙◌, arith}
use Rattle.std.specs.List.{list_all}
use Rattle.std.proofs.lemmas.Bool.{and_parts, eqb-true, eq-eqb}
use Rattle.std.specs.Cmp.Derive.{both_true}
use Rattle.std.proofs.lemmas.List.{length-replicate}
use Rattle.serde_json.specs.Data.{unsigned, Data, Members, object}
use Rattle.robust_cert.specs.declared.certificate.Certificate.{Certificate}
use Rattle.robust_cert.specs.Ranges.{IsSmall}
use Rattle.robust_cert.specs.Json.{has_no_bodies, first_data, second_data, IsValueOf}
use Rattle.robust_cert.specs.Reading.{version_of, IsShared}
use Rattle.robust_cert.specs.Sharing.{Entry}
use Rattle.robust_cert.proofs.Distinct.{same_entries, same_numbers}

-- ---- versions

pub version_known : (c : Certificate) (d : Data) → IsValueOf c d → (version_of d ≡ Some (unsigned 1)) ⊎ (version_of d ≡ Some (unsigned 2))
version_known c d (fits, inl first) = inl (ap version_of first.1)
version_known c d (fits, inr second) = inr (ap version_of second)

versions_differ : (a b : Certificate) → first_data a ≡ second_data b → ⊥
versions_differ a b e = let h : Some (unsigned 1) ≡ Some (unsigned 2) = ap version_of e in absurd (cc)

-- ---- zeros

zeros : (xs : List ℕ) → list_all (λ n. n == 0) xs ≡ true → xs ≡ replicate (length xs) 0
zeros [] h = refl
zeros (x ∷ xs) h =
    let both : ((x == 0) ≡ true) × (list_all (λ n. n == 0) xs ≡ true) = and_parts _ _ h in
    ap₂ (λ (y : ℕ) (ys : List ℕ). y ∷ ys) (eqb-true x 0 both.0) (zeros xs both.1)

all_zeros : (n : ℕ) → list_all (λ n. n == 0) (replicate n 0) ≡ true
all_zeros zero = refl
all_zeros (suc n) = all_zeros n

zeros_small : (n : ℕ) → All IsSmall (replicate n 0)
zeros_small zero i d h = absurd (omega arith)
zeros_small (suc n) zero d h = omega arith
zeros_small (suc n) (suc i) d h = zeros_small n i d (omega arith)

bodies_are : (c : Certificate) → IsTrue (has_no_bodies c) → c.bodies ≡ replicate (length c.levels) 0
bodies_are c h =
    let both : ((length c.bodies == length c.levels) ≡ true) × (list_all (λ n. n == 0) c.bodies ≡ true) = and_parts _ _ h in
    zeros c.bodies both.1 ∙ ap (λ n. replicate n 0) (eqb-true _ _ both.0)

pub no_bodies_small : (c : Certificate) → IsTrue (has_no_bodies c) → All IsSmall c.bodies
no_bodies_small c h = subst (All IsSmall) (sym (bodies_are c h)) (zeros_small (length c.levels))

has_none : (c : Certificate) → c.bodies ≡ replicate (length c.levels) 0 → IsTrue (has_no_bodies c)
has_none c e = rw e (both_true (eq-eqb _ _ (length-replicate {A = ℕ} (length c.levels) 0)) (all_zeros (length c.levels)))

-- ---- one certificate

abbrev certificate : List Entry → List ℕ → List ℕ → Certificate
certificate entries levels bodies = record { entries = entries; levels = levels; bodies = bodies }

same_parts : (a b : Certificate) → a.entries ≡ b.entries → a.levels ≡ b.levels → a.bodies ≡ b.bodies → a ≡ b
same_parts a b e f g = let r : certificate a.entries a.levels a.bodies ≡ certificate b.entries b.levels b.bodies = rw (e, f, g) refl in r

same_first : (a b : Certificate) → IsTrue (has_no_bodies a) → IsTrue (has_no_bodies b) → first_data a ≡ first_data b → a ≡ b
same_first a b h k e =
    let levels : a.levels ≡ b.levels = same_numbers a.levels b.levels (cc) in
    same_parts a b (same_entries a.entries b.entries (cc)) levels (bodies_are a h ∙ ap (λ (ls : List ℕ). replicate (length ls) 0) levels ∙ sym (bodies_are b k))

same_second : (a b : Certificate) → second_data a ≡ second_data b → a ≡ b
same_second a b e = same_parts a b (same_entries a.entries b.entries (cc)) (same_numbers a.levels b.levels (cc)) (same_numbers a.bodies b.bodies (cc))

pub same_value : (a b : Certificate) (d : Data) → IsValueOf a d → IsValueOf b d → a ≡ b
same_value a b d (fits, inl first) (fit, inl other) = same_first a b first.0 other.0 (sym first.1 ∙ other.1)
same_value a b d (fits, inl first) (fit, inr second) = absurd (versions_differ a b (sym first.1 ∙ second))
same_value a b d (fits, inr second) (fit, inl first) = absurd (versions_differ b a (sym first.1 ∙ second))
same_value a b d (fits, inr second) (fit, inr other) = same_second a b (sym second ∙ other)

-- ---- what is read of the first version

pub first_value : (ms : Members) (c : Certificate) → IsShared c.entries c.levels ms → c.bodies ≡ replicate (length c.levels) 0 → version_of (object ms) ≡ Some (unsigned 1) → IsValueOf c (object ms)
first_value ms c shared none version =
    let plain : IsTrue (has_no_bodies c) = has_none c none in
    ((shared.entries_fit, shared.levels_fit, no_bodies_small c plain), inl (plain, ap object (shared.same (unsigned 1) version)))
