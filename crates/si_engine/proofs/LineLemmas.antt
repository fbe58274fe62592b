-- The first piece of bytes, and the others.
use Rattle.std.proofs.Common.{◌≡◌, ℕ, suc, ◌+◌, ◌-◌, ◌<◌, ◌≤◌, ◌==◌, true, false, not, cond, List, [], ◌∷◌, length, take, drop, filter, refl, sym, ◌∙◌, ap, subst, arith}
use Rattle.std.specs.List.{onto_first, before_first, after_first, prefix_len}
use Rattle.std.proofs.lemmas.List.{take_all, length-drop, drop-drop}
use Rattle.si_engine.specs.Lines.{pieces, words_of}

-- one more byte before the first separator
longer : (separator b m : ℕ) (bs : List ℕ) → pieces separator bs ≡ take m bs ∷ pieces separator (drop (m + 1) bs)
    → onto_first b (pieces separator bs) ≡ take (1 + m) (b ∷ bs) ∷ pieces separator (drop (1 + m + 1) (b ∷ bs))
longer separator b m bs same =
    let one : 1 + m ≡ suc m = omega arith in
    let two : 1 + m + 1 ≡ suc (m + 1) = omega arith in
    rw (same, two, one) refl

-- the first piece ends before the first separator, and behind it the others begin
pub pieces-first : (separator b : ℕ) (bs : List ℕ) → pieces separator (b ∷ bs) ≡ before_first (λ c. c == separator) (b ∷ bs) ∷ pieces separator (after_first (λ c. c == separator) (b ∷ bs))
pieces-first separator b [] =
    elim (b == separator) as (λ t. (cond t ([] ∷ []) ((b ∷ []) ∷ [])) ≡ take (cond (not t) (1 + 0) 0) (b ∷ []) ∷ pieces separator (drop (cond (not t) (1 + 0) 0 + 1) (b ∷ []))) [ true ↦ refl | false ↦ refl ]
pieces-first separator b (d ∷ bs) =
    let m = prefix_len (λ c. not (c == separator)) (d ∷ bs) in
    elim (b == separator) as (λ t. (cond t ([] ∷ pieces separator (d ∷ bs)) (onto_first b (pieces separator (d ∷ bs)))) ≡ take (cond (not t) (1 + m) 0) (b ∷ d ∷ bs) ∷ pieces separator (drop (cond (not t) (1 + m) 0 + 1) (b ∷ d ∷ bs)))
    [ true ↦ refl | false ↦ longer separator b m (d ∷ bs) (pieces-first separator d bs) ]

-- the same of bytes that are not empty
pub pieces-cut : (separator : ℕ) (bs : List ℕ) → 0 < length bs → pieces separator bs ≡ before_first (λ c. c == separator) bs ∷ pieces separator (after_first (λ c. c == separator) bs)
pieces-cut separator [] h = absurd (omega arith)
pieces-cut separator (b ∷ bs) h = pieces-first separator b bs

-- a word in front of the others
pub words-cut : (bs word rest : List ℕ) → 0 < length bs → word ≡ before_first (λ c. c == 32) bs → rest ≡ after_first (λ c. c == 32) bs → (length word == 0) ≡ false → words_of bs ≡ word ∷ words_of rest
words-cut bs word rest some first behind full =
    ap (filter (λ w. not (length w == 0))) (pieces-cut 32 bs some ∙ (λ i. sym first i ∷ pieces 32 (sym behind i))) ∙ rw full refl

-- what stands behind the one at a place
pub behind_place : {X : Type 0} (xs back : List X) (k : ℕ) → back ≡ drop k xs → take (length back - 1) (drop 1 back) ≡ drop (k + 1) xs
behind_place xs back k is =
    take_all (length back - 1) (drop 1 back) (subst (λ (n : ℕ). n ≤ length back - 1) (sym (length-drop 1 back)) (omega arith))
    ∙ (ap (drop 1) is ∙ drop-drop 1 k xs)
