-- A text without the byte `%` has one part.
use Rattle.std.proofs.Common.{◌≡◌, ◌≢◌, ◌∙◌, ◌<◌, ℕ, Bool, true, false, List, [], ◌∷◌, suc, length, get_or, nat_eq, ◌==◌, if◌then◌else◌, refl, ap, arith}
use Rattle.std.proofs.lemmas.Bool.Decides.{nat_tests}
use Rattle.std.specs.List.{concat}
use Rattle.run_words.specs.PartPointing.{begins_separator}
use Rattle.sirob.specs.Parts.{before_lines, full_lines_of, parts_of, parts_in, before_parts}

-- no byte is `%`
abbrev IsWithoutPercent : List ℕ → Type 0
IsWithoutPercent bytes = (k : ℕ) → k < length bytes → get_or bytes k 0 ≢ 37

-- none of the lines is a separator
abbrev AreQuiet : List (List ℕ) → Type 0
AreQuiet [] = Unit {0}
AreQuiet (line ∷ lines) = (begins_separator line ≡ false) × AreQuiet lines

begins_otherwise : (byte : ℕ) (line : List ℕ) → byte ≢ 37 → begins_separator (byte ∷ line) ≡ false
begins_otherwise byte line apart =
    let one : nat_eq byte 37 ≡ false = grind (arith, nat_tests, apart) in
    let other : nat_eq 37 byte ≡ false = grind (arith, nat_tests, apart) in
    rw (one, other) refl

quiet : (bytes : List ℕ) → IsWithoutPercent bytes → AreQuiet (full_lines_of bytes)
quiet [] none = tt
quiet (byte ∷ bytes) none = go (byte == 10) (full_lines_of bytes) (quiet bytes (λ k inside. none (suc k) (omega arith)))
  where
    first : (line : List ℕ) → begins_separator (byte ∷ line) ≡ false
    first line = begins_otherwise byte line (none 0 (omega arith))

    go : (feed : Bool) (lines : List (List ℕ)) → AreQuiet lines → AreQuiet (if feed then (byte ∷ []) ∷ lines else before_lines byte lines)
    go true lines are = (first [], are)
    go false [] are = (first [], tt)
    go false (line ∷ lines) are = (first line, are.1)

whole : (bytes : List ℕ) → concat (full_lines_of bytes) ≡ bytes
whole [] = refl
whole (byte ∷ bytes) = go (byte == 10) (full_lines_of bytes) (whole bytes)
  where
    go : (feed : Bool) (lines : List (List ℕ)) → concat lines ≡ bytes → concat (if feed then (byte ∷ []) ∷ lines else before_lines byte lines) ≡ byte ∷ bytes
    go true lines is = ap (λ (bs : List ℕ). byte ∷ bs) is
    go false [] is = ap (λ (bs : List ℕ). byte ∷ bs) is
    go false (line ∷ lines) is = ap (λ (bs : List ℕ). byte ∷ bs) is

one_part : (lines : List (List ℕ)) → AreQuiet lines → parts_in lines ≡ concat lines ∷ []
one_part [] are = refl
one_part (line ∷ lines) are =
    ap (λ b. if b then [] ∷ parts_in lines else before_parts line (parts_in lines)) are.0
    ∙ ap (before_parts line) (one_part lines are.1)

pub whole_part : (bytes : List ℕ) → IsWithoutPercent bytes → parts_of bytes ≡ bytes ∷ []
whole_part bytes none = one_part (full_lines_of bytes) (quiet bytes none) ∙ ap (λ (bs : List ℕ). bs ∷ []) (whole bytes)
