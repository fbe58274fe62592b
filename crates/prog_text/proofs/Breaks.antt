-- A token in front of bytes that don't go on with it is cut off there.
use Rattle.std.proofs.Common.{◌≡◌, ◌∙◌, ℕ, ◌+◌, ◌/◌, ◌%◌, ◌<◌, ◌≤◌, ◌^◌, ◌==◌, nat_lt, nat_eq, not, List, [], ◌∷◌, ◌++◌, length, Bool, true, false, ◌&&◌, ◌||◌, Some, refl, sym, ap, subst, slice_index, bytes_eq, arith, true≢false}
use Rattle.std.specs.Cmp.Derive.{both_true}
use Rattle.std.specs.List.{list_all, starts_with}
use Rattle.std.proofs.lemmas.Bool.{and_parts, lt-ltb, not-true}
use Rattle.std.proofs.lemmas.Fmt.{decimal_by_steps}
use Rattle.std.proofs.lemmas.Grind.{common_steps}
use Rattle.std.proofs.lemmas.List.{length-append}
use Rattle.std.proofs.lemmas.List.Folds.{list_all-append}
use Rattle.std.proofs.lemmas.List.Sums.{fold-append}
use Rattle.prog_text.specs.declared.lexing.token.Token.{Token}
use Rattle.prog_text.specs.declared.lexing.token.Token.TheVariants as t
use Rattle.prog_text.specs.Cut.{IsName, IsNumber, Spells, IsWithinLimit, IsLongest, IsPiece, token}
use Rattle.prog_text.specs.Lexing.{is_digit, is_word_byte}
use Rattle.prog_text.specs.Spelling.{spelling, signs}
use Rattle.prog_text.proofs.Converse.{is_begun}
use Rattle.prog_text.proofs.Longest.{starts}
use Rattle.prog_text.proofs.Spelled.{IsAmong, clash, among_passes, begins_sign, goes_on_sign}

-- a byte that goes on with no word, no number and no sign but a dot
abbrev pub is_break : ℕ → Bool
is_break b = not (is_word_byte b) && not (b == 61)

-- the text ends, or goes on with such a byte
abbrev pub Breaks : List ℕ → Type 0
Breaks [] = Unit {0}
Breaks (b ∷ rest) = is_break b ≡ true

-- a token that a text can have: a name has at most 32 bytes, a number fits 63 bits
abbrev pub IsLexed : Token → Type 0
IsLexed (t.Name x) = IsName x × (length x ≤ 32)
IsLexed (t.Number n) = n < 2 ^ 63
IsLexed u = Unit {0}

-- ---- the digits of a number

first_byte : (word more : List ℕ) → 0 < length word → slice_index (word ++ more) 0 ≡ slice_index word 0
first_byte [] more some = absurd (omega (arith, some))
first_byte (x ∷ word) more some = refl

one_digit : (n : ℕ) → n < 10 → IsNumber ((48 + n) ∷ []) n
one_digit n small =
    let digit : is_digit (48 + n) ≡ true = grind (arith, common_steps) in
    record { begins = digit; goes_on = rw digit refl; value = omega arith }

last_digit : (n : ℕ) (front : List ℕ) → 10 ≤ n → IsNumber front (n / 10) → IsNumber (front ++ (48 + n % 10) ∷ []) n
last_digit n front large h =
    let digit : is_digit (48 + n % 10) ≡ true = grind (arith, common_steps) in
    record {
      begins = ap is_digit (first_byte front _ (is_begun (t.Number (n / 10)) front h)) ∙ h.begins;
      goes_on = rw (list_all-append is_digit front, h.goes_on, digit) refl;
      value = rw (fold-append, h.value) (omega arith);
    }

-- ---- each token is spelled by its spelling

own_spelling : (u : Token) → IsLexed u → Spells u (spelling u)
own_spelling (t.Name x) lexed = (refl, lexed.0)
own_spelling (t.Number n) lexed =
    decimal_by_steps (λ n word. IsNumber word n) one_digit last_digit n (omega (arith, lexed))
own_spelling (t.Sign s) lexed = refl

within : (u : Token) → IsLexed u → IsWithinLimit u
within (t.Name x) lexed = lexed.1
within (t.Number n) lexed = lexed
within (t.Sign s) lexed = tt

-- ---- before a break

-- `=` alone goes on with a sign, but that a dot goes on with a dot
abbrev goes_on_so : List ℕ → Bool
goes_on_so (x ∷ y ∷ []) = y == 61 || x == 46
goes_on_so (x ∷ y ∷ z ∷ word) = false
goes_on_so word = true

no_dot : (u : Token) → IsLexed u → spelling u ≡ 46 ∷ [] → ⊥
no_dot u lexed is =
    let there : IsAmong signs (46 ∷ []) = begins_sign u (46 ∷ []) (subst (Spells u) is (own_spelling u lexed)) refl in
    true≢false (sym (among_passes (λ w. not (bytes_eq w (46 ∷ []))) signs (46 ∷ []) refl there))

goes_on_equals : (x b : ℕ) → (b == 61) ≡ false → (b == 61 || x == 46) ≡ true → x ≡ 46
goes_on_equals x b other h = grind (arith, common_steps, other, h)

only_dots : (word : List ℕ) (b : ℕ) (more : List ℕ) → 0 < length word → (b == 61) ≡ false → goes_on_so (word ++ b ∷ more) ≡ true → word ≡ 46 ∷ []
only_dots [] b more some other h = absurd (omega (arith, some))
only_dots (x ∷ []) b [] some other h = ap (λ y. y ∷ []) (goes_on_equals x b other h)
only_dots (x ∷ []) b (y ∷ more) some other h = absurd (true≢false (sym h))
only_dots (x ∷ y ∷ []) b more some other h = absurd (true≢false (sym h))
only_dots (x ∷ y ∷ z ∷ word) b more some other h = absurd (true≢false (sym h))

broken_longest : (u : Token) → IsLexed u → (rest : List ℕ) → Breaks rest → IsLongest (spelling u) rest
broken_longest u lexed [] breaks v b more others is spells = absurd (omega (arith, ap length is))
broken_longest u lexed (c ∷ rest) breaks v b more others is spells =
    let broken : is_break b ≡ true = subst (λ x. is_break x ≡ true) (ap (λ xs. slice_index xs 0) is) breaks in
    let parts : (not (is_word_byte b) ≡ true) × (not (b == 61) ≡ true) = and_parts _ _ broken in
    let there : IsAmong signs (spelling u ++ b ∷ more) = goes_on_sign v (spelling u) b more spells (not-true (is_word_byte b) parts.0) in
    no_dot u lexed (only_dots (spelling u) b more (is_begun u (spelling u) (own_spelling u lexed)) (not-true (b == 61) parts.1) (among_passes goes_on_so signs _ refl there))

-- a token that a text can have is a piece before a break
pub broken_piece : (u : Token) (rest : List ℕ) → IsLexed u → Breaks rest → IsPiece (Some u) (spelling u) rest
broken_piece u rest lexed breaks =
    token u (spelling u) rest (own_spelling u lexed) (within u lexed) (broken_longest u lexed rest breaks)

-- ---- before any bytes

abbrev goes_on_from : List ℕ → List ℕ → Bool
goes_on_from front word = starts_with nat_eq word front && nat_lt (length front) (length word)

-- a token that begins with a byte of no word, and that no sign goes on with
abbrev pub stands_alone : Token → Bool
stands_alone u =
    not (is_word_byte (slice_index (spelling u) 0)) && list_all (λ v. not (goes_on_from (spelling u) (spelling v))) signs

-- such a token is a piece before any bytes
pub alone_piece : (u : Token) (rest : List ℕ) → IsLexed u → stands_alone u ≡ true → IsPiece (Some u) (spelling u) rest
alone_piece u rest lexed alone =
    token u (spelling u) rest (own_spelling u lexed) (within u lexed) (λ v b more others is spells.
    let word : List ℕ = spelling u ++ b ∷ more in
    let parts : (not (is_word_byte (slice_index (spelling u) 0)) ≡ true) × (list_all (λ v. not (goes_on_from (spelling u) (spelling v))) signs ≡ true) = and_parts _ _ alone in
    let first : slice_index word 0 ≡ slice_index (spelling u) 0 = first_byte (spelling u) (b ∷ more) (is_begun u (spelling u) (own_spelling u lexed)) in
    let there : IsAmong signs word = begins_sign v word spells (ap is_word_byte first ∙ not-true _ parts.0) in
    let longer : length (spelling u) < length word = omega (arith, length-append (spelling u) (b ∷ more)) in
    clash (both_true (starts word (spelling u) (b ∷ more) refl) (lt-ltb _ _ longer)) (not-true _ (among_passes (λ w. not (goes_on_from (spelling u) w)) signs word parts.1 there)))
