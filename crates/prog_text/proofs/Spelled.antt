-- What bytes that spell a token are made of.
use Rattle.std.proofs.Common.{◌≡◌, ◌∙◌, ◌⊎◌, inl, inr, ℕ, ◌&&◌, ◌||◌, not, List, [], ◌∷◌, ◌++◌, Bool, true, false, refl, sym, ap, subst, slice_index, bytes_eq, arith, true≢false}
use Rattle.std.specs.List.{list_all}
use Rattle.std.proofs.lemmas.Bool.{and_parts, or_cases, not-true}
use Rattle.std.proofs.lemmas.Grind.{common_steps}
use Rattle.std.proofs.lemmas.Slice.Eq.{bytes_eq-Decides}
use Rattle.prog_text.specs.declared.lexing.token.Token.{Token}
use Rattle.prog_text.specs.declared.lexing.token.Sign.TheVariants.{Table}
use Rattle.prog_text.specs.declared.lexing.token.Token.TheVariants as t
use Rattle.prog_text.specs.Spelling.{spelling, signs}
use Rattle.prog_text.specs.Lexing.{is_letter, is_digit, is_word_byte}
use Rattle.prog_text.specs.Cut.{Spells}
use Rattle.prog_text.proofs.WordBytes.{letter_passes}

-- the bytes are the spelling of one of these tokens
abbrev pub IsAmong : List Token → List ℕ → Type 0
IsAmong [] word = ⊥
IsAmong (u ∷ us) word = (word ≡ spelling u) ⊎ IsAmong us word

-- the three kinds of spelling
pub data Kind (word : List ℕ) : Type 0 where
  letters : is_letter (slice_index word 0) ≡ true → list_all is_word_byte word ≡ true → Kind word
  digits : is_digit (slice_index word 0) ≡ true → list_all is_digit word ≡ true → Kind word
  sign : IsAmong signs word → Kind word

-- ---- each spelling is of one of these kinds

abbrev is_among : List Token → List ℕ → Bool
is_among [] word = false
is_among (u ∷ us) word = bytes_eq word (spelling u) || is_among us word

among : (us : List Token) (word : List ℕ) → is_among us word ≡ true → IsAmong us word
among [] word h = absurd (true≢false (sym h))
among (u ∷ us) word h = elim (or_cases _ _ h) [ inl e ↦ inl ((bytes_eq-Decides word (spelling u)).0 e) | inr e ↦ inr (among us word e) ]

kind_tested : (word : List ℕ) → ((is_letter (slice_index word 0) && list_all is_word_byte word) || is_among signs word) ≡ true → Kind word
kind_tested word h = elim (or_cases _ _ h) [ inl e ↦ let both : (is_letter (slice_index word 0) ≡ true) × (list_all is_word_byte word ≡ true) = and_parts _ _ e in letters both.0 both.1 | inr e ↦ sign (among signs word e) ]

pub kind : (u : Token) (word : List ℕ) → Spells u word → Kind word
kind (t.Name x) word h = letters h.1.begins h.1.goes_on
kind (t.Number n) word h = digits h.begins h.goes_on
kind (t.Sign Table) word h = subst Kind (sym h) (kind_tested (spelling (t.Sign Table)) refl)
kind u word h = subst Kind (sym h) (kind_tested (spelling u) refl)

-- ---- and of no other

pub clash : {b : Bool} → b ≡ true → b ≡ false → ⊥
clash yes_it no_it = true≢false (sym yes_it ∙ no_it)

-- a byte inside passes too
pub passes_inside : (p : ℕ → Bool) (front more : List ℕ) (b : ℕ) → list_all p (front ++ b ∷ more) ≡ true → p b ≡ true
passes_inside p [] more b h = (and_parts _ _ h).0
passes_inside p (x ∷ front) more b h = passes_inside p front more b (and_parts _ _ h).1

pub letter_is_no_digit : (b : ℕ) → is_letter b ≡ true → is_digit b ≡ true → ⊥
letter_is_no_digit b letter digit = grind (arith, letter, digit)

pub digit_passes : (b : ℕ) → is_digit b ≡ true → is_word_byte b ≡ true
digit_passes b h = grind (arith, common_steps, h)

-- what a test says of the spelling of each of these tokens, it says of the bytes
pub among_passes : (p : List ℕ → Bool) (us : List Token) (word : List ℕ) → list_all (λ u. p (spelling u)) us ≡ true → IsAmong us word → p word ≡ true
among_passes p [] word all there = absurd there
among_passes p (u ∷ us) word all (inl e) = ap p e ∙ (and_parts _ _ all).0
among_passes p (u ∷ us) word all (inr e) = among_passes p us word (and_parts _ _ all).1 e

-- a sign begins with a byte of no word
pub sign_begins : (word : List ℕ) → IsAmong signs word → is_word_byte (slice_index word 0) ≡ false
sign_begins word there =
    not-true _ (among_passes (λ w. not (is_word_byte (slice_index w 0))) signs word refl there)

-- what begins with a byte of no word is a sign
pub begins_sign : (u : Token) (word : List ℕ) → Spells u word → is_word_byte (slice_index word 0) ≡ false → IsAmong signs word
begins_sign u word spells other =
    elim (kind u word spells) [
      | letters first all ↦ absurd (clash (letter_passes (slice_index word 0) first) other)
      | digits first all ↦ absurd (clash (digit_passes (slice_index word 0) first) other)
      | sign there ↦ there
    ]

-- and so is what has such a byte inside
pub goes_on_sign : (u : Token) (word : List ℕ) (b : ℕ) (more : List ℕ) → Spells u (word ++ b ∷ more) → is_word_byte b ≡ false → IsAmong signs (word ++ b ∷ more)
goes_on_sign u word b more spells other =
    elim (kind u (word ++ b ∷ more) spells) [
      | letters first all ↦ absurd (clash (passes_inside is_word_byte word more b all) other)
      | digits first all ↦ absurd (clash (digit_passes b (passes_inside is_digit word more b all)) other)
      | sign there ↦ there
    ]
