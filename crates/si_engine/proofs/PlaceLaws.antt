-- Laws of the places of instances: which are active, by their numbers.
use Rattle.std.proofs.Common.{◌≡◌, ℕ, zero, suc, ◌+◌, min, true, false, cond, List, [], ◌∷◌, ◌++◌, length, set, refl, ap, sym, ◌∙◌, arith}
use Rattle.std.specs.Prelude.{slice_get, Option, Some, None}
use Rattle.std.specs.BTreeMap.{is_at}
use Rattle.std.specs.Map.{lookup}
use Rattle.std.specs.Ordering.{nat_cmp}
use Rattle.std.proofs.lemmas.List.{set-set, set-get_or}
use Rattle.std.proofs.lemmas.Option.{get_or_from_slice_get}
use Rattle.history_book.specs.View.{without}
use Rattle.history_book.specs.View as book
use Rattle.history_book.proofs.StartLaws.{number_at, other_number}
use Rattle.si_engine.specs.Machine.{Active, active_of, least_start}
use Rattle.si_engine.specs.View.{numbered}

-- ---- lists

pub set-same : {X : Type 0} (xs : List X) (i : ℕ) (x : X) → slice_get xs i ≡ Some x → set xs i x ≡ xs
set-same xs i x at = ap (set xs i) (sym (get_or_from_slice_get xs i x x at)) ∙ set-get_or xs i x

-- taken out of its place, and another put there
pub put-back : {X : Type 0} (xs ys : List X) (i : ℕ) (x y : X) → ys ≡ set xs i x → set ys i y ≡ set xs i y
put-back xs ys i x y taken = ap (λ zs. set zs i y) taken ∙ set-set xs i x y

-- ---- active instances with their numbers

shift : (k i : ℕ) → k + 1 + i ≡ k + suc i
shift k i = omega arith

-- one more begins
pub numbered-push : (k : ℕ) (begun : List (Option Active)) (a : Active) → numbered k (begun ++ Some a ∷ []) ≡ numbered k begun ++ (k + length begun, a.instance) ∷ []
numbered-push k [] a = let here : k ≡ k + 0 = omega arith in ap (λ n. (n, a.instance) ∷ []) here
numbered-push k (Some b ∷ begun) a =
    ap (λ es. (k, b.instance) ∷ es) (numbered-push (k + 1) begun a ∙ ap (λ n. numbered (k + 1) begun ++ (n, a.instance) ∷ []) (shift k (length begun)))
numbered-push k (None ∷ begun) a =
    numbered-push (k + 1) begun a ∙ ap (λ n. numbered (k + 1) begun ++ (n, a.instance) ∷ []) (shift k (length begun))

-- one goes on
pub numbered-stays :
    (k : ℕ) (begun : List (Option Active)) (i : ℕ) (a b : Active) → slice_get begun i ≡ Some (Some a) → b.instance ≡ a.instance →
    numbered k (set begun i (Some b)) ≡ numbered k begun
numbered-stays k [] i a b at same = refl
numbered-stays k (None ∷ begun) zero a b at same = absurd (cc)
numbered-stays k (Some c ∷ begun) zero a b at same =
    let one : c ≡ a = cc in
    ap (λ j. (k, j) ∷ numbered (k + 1) begun) (same ∙ ap (λ (x : Active). x.instance) (sym one))
numbered-stays k (None ∷ begun) (suc i) a b at same = numbered-stays (k + 1) begun i a b at same
numbered-stays k (Some c ∷ begun) (suc i) a b at same = ap (λ es. (k, c.instance) ∷ es) (numbered-stays (k + 1) begun i a b at same)

-- one ends
pub numbered-ends :
    (k : ℕ) (begun : List (Option Active)) (i : ℕ) (a : Active) → slice_get begun i ≡ Some (Some a) →
    numbered k (set begun i None) ≡ without (k + i) (numbered k begun)
numbered-ends k [] i a at = absurd (cc)
numbered-ends k (None ∷ begun) zero a at = absurd (cc)
numbered-ends k (Some c ∷ begun) zero a at =
    let here : k + 0 ≡ k = omega arith in
    let own : is_at (nat_cmp (k + 0)) k ≡ true = ap (λ n. is_at (nat_cmp n) k) here ∙ number_at k k refl in
    ap (λ b. cond b (numbered (k + 1) begun) ((k, c.instance) ∷ without (k + 0) (numbered (k + 1) begun))) (sym own)
numbered-ends k (None ∷ begun) (suc i) a at = numbered-ends (k + 1) begun i a at ∙ ap (λ n. without n (numbered (k + 1) begun)) (shift k i)
numbered-ends k (Some c ∷ begun) (suc i) a at =
    let other : is_at (nat_cmp (k + suc i)) k ≡ false = other_number (k + suc i) k (λ e. omega (arith, e)) in
    ap (λ es. (k, c.instance) ∷ es) (numbered-ends (k + 1) begun i a at ∙ ap (λ n. without n (numbered (k + 1) begun)) (shift k i))
    ∙ ap (λ b. cond b (numbered (k + 1) begun) ((k, c.instance) ∷ without (k + suc i) (numbered (k + 1) begun))) (sym other)

-- one is found by its number
pub numbered-found :
    (k : ℕ) (begun : List (Option Active)) (i : ℕ) (a : Active) → slice_get begun i ≡ Some (Some a) →
    lookup (is_at (nat_cmp (k + i))) (numbered k begun) ≡ Some a.instance
numbered-found k [] i a at = absurd (cc)
numbered-found k (None ∷ begun) zero a at = absurd (cc)
numbered-found k (Some c ∷ begun) zero a at =
    let one : c ≡ a = cc in
    let here : k + 0 ≡ k = omega arith in
    let own : is_at (nat_cmp (k + 0)) k ≡ true = ap (λ n. is_at (nat_cmp n) k) here ∙ number_at k k refl in
    ap (λ b. cond b (Some c.instance) (lookup (is_at (nat_cmp (k + 0))) (numbered (k + 1) begun))) own ∙ ap (λ (x : Active). Some x.instance) one
numbered-found k (None ∷ begun) (suc i) a at =
    ap (λ n. lookup (is_at (nat_cmp n)) (numbered (k + 1) begun)) (sym (shift k i)) ∙ numbered-found (k + 1) begun i a at
numbered-found k (Some c ∷ begun) (suc i) a at =
    let other : is_at (nat_cmp (k + suc i)) k ≡ false = other_number (k + suc i) k (λ e. omega (arith, e)) in
    ap (λ b. cond b (Some c.instance) (lookup (is_at (nat_cmp (k + suc i))) (numbered (k + 1) begun))) other
    ∙ ap (λ n. lookup (is_at (nat_cmp n)) (numbered (k + 1) begun)) (sym (shift k i))
    ∙ numbered-found (k + 1) begun i a at

-- as many as are active
pub length-numbered : (k : ℕ) (begun : List (Option Active)) → length (numbered k begun) ≡ active_of begun
length-numbered k [] = refl
length-numbered k (None ∷ begun) = length-numbered (k + 1) begun
length-numbered k (Some a ∷ begun) = omega (arith, length-numbered (k + 1) begun)

-- their least start
pub least-numbered : (n k : ℕ) (begun : List (Option Active)) → book.least_start n (numbered k begun) ≡ least_start n begun
least-numbered n k [] = refl
least-numbered n k (None ∷ begun) = least-numbered n (k + 1) begun
least-numbered n k (Some a ∷ begun) = ap (min a.instance.start) (least-numbered n (k + 1) begun)
