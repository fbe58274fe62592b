-- Two lists side by side, one more at a time.
use Rattle.std.proofs.Common.{◌≡◌, ℕ, ◌<◌, ◌+◌, List, [], ◌∷◌, ◌++◌, length, get_or, take, sym, subst, ap, refl, arith, zero, suc}
use Rattle.std.specs.List.{AllZip}
use Rattle.std.proofs.lemmas.List.{take_more}
use Rattle.rayon.proofs.ListFacts.{AllZip-append}

-- one more of each list
pub AllZip-more : {A B : Type 0} (R : A → B → Type 0) (xs : List A) (old new : List B) (i : ℕ) (d : A) (y : B) → i < length xs → new ≡ old ++ y ∷ [] → R (get_or xs i d) y → AllZip R (take i xs) old → AllZip R (take (i + 1) xs) new
AllZip-more R xs old new i d y lt added r h =
    subst (AllZip R (take (i + 1) xs)) (sym added)
    (subst (λ l. AllZip R l (old ++ y ∷ [])) (sym (take_more xs i d lt))
    (AllZip-append R (take i xs) (get_or xs i d ∷ []) old (y ∷ []) h (r, tt)))

pub AllZip-lengths : {A B : Type 0} (R : A → B → Type 0) (xs : List A) (ys : List B) → AllZip R xs ys → length xs ≡ length ys
AllZip-lengths R [] [] h = refl
AllZip-lengths R [] (y ∷ ys) h = absurd h
AllZip-lengths R (x ∷ xs) [] h = absurd h
AllZip-lengths R (x ∷ xs) (y ∷ ys) h = ap suc (AllZip-lengths R xs ys h.1)

-- what stands side by side
pub AllZip-at : {A B : Type 0} (R : A → B → Type 0) (xs : List A) (ys : List B) (n : ℕ) (d : A) (e : B) → AllZip R xs ys → n < length xs → R (get_or xs n d) (get_or ys n e)
AllZip-at R [] ys n d e h lt = let no : ⊥ = omega (arith, lt) in absurd no
AllZip-at R (x ∷ xs) [] n d e h lt = absurd h
AllZip-at R (x ∷ xs) (y ∷ ys) zero d e h lt = h.0
AllZip-at R (x ∷ xs) (y ∷ ys) (suc n) d e h lt = AllZip-at R xs ys n d e h.1 (omega (arith, lt))
