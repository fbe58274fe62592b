-- The bytes of a word.
use Rattle.std.proofs.Common.{◌≡◌, ℕ, suc, ◌+◌, ◌<◌, cond, List, [], ◌∷◌, take, drop, Bool, true, false, refl, arith, slice_index}
use Rattle.std.specs.Prelude.{IsUtf8}
use Rattle.std.specs.List.{list_all, prefix_len}
use Rattle.std.specs.Cmp.Derive.{both_true}
use Rattle.std.proofs.lemmas.List.Sums.{AllPass-from_list_all}
use Rattle.std.proofs.lemmas.Str.{IsUtf8-from_ascii}
use Rattle.std.proofs.lemmas.Str.Ascii.{IsAscii-from_all}
use Rattle.std.proofs.lemmas.Grind.{common_steps}
use Rattle.prog_text.specs.Lexing.{is_letter, is_word_byte}

word_byte_small : (b : ℕ) → is_word_byte b ≡ true → b < 128
word_byte_small b h = grind (arith, common_steps, h)

-- bytes of a word are text
pub word_is_text : (bytes : List ℕ) → list_all is_word_byte bytes ≡ true → IsUtf8 bytes
word_is_text bytes h = IsUtf8-from_ascii bytes (IsAscii-from_all bytes (λ k d within. word_byte_small _ (AllPass-from_list_all is_word_byte bytes h k d within)))

-- one more byte that passes
pub passes_cons : (p : ℕ → Bool) (b n : ℕ) (bytes : List ℕ) → p b ≡ true → list_all p (take n bytes) ≡ true → list_all p (take (n + 1) (b ∷ bytes)) ≡ true
passes_cons p b n bytes first others =
    let e : n + 1 ≡ suc n = omega arith in
    rw e (both_true first others)

front_passes_by : (p : ℕ → Bool) (b : ℕ) (bytes : List ℕ) (passes : Bool) → p b ≡ passes → list_all p (take (prefix_len p bytes) bytes) ≡ true → list_all p (take (cond passes (1 + prefix_len p bytes) 0) (b ∷ bytes)) ≡ true
front_passes_by p b bytes true is others =
    let e : 1 + prefix_len p bytes ≡ prefix_len p bytes + 1 = omega arith in
    rw e (passes_cons p b _ bytes is others)
front_passes_by p b bytes false is others = refl

-- the longest front whose bytes pass is made of such bytes
pub front_passes : (p : ℕ → Bool) (bytes : List ℕ) → list_all p (take (prefix_len p bytes) bytes) ≡ true
front_passes p [] = refl
front_passes p (b ∷ bytes) = front_passes_by p b bytes (p b) refl (front_passes p bytes)

pub letter_passes : (b : ℕ) → is_letter b ≡ true → is_word_byte b ≡ true
letter_passes b h = rw h refl

-- a letter and the word bytes behind it are word bytes
pub word_passes : (bytes : List ℕ) → is_letter (slice_index bytes 0) ≡ true → list_all is_word_byte (take (prefix_len is_word_byte (drop 1 bytes) + 1) bytes) ≡ true
word_passes [] h = refl
word_passes (b ∷ bytes) h = passes_cons is_word_byte b _ bytes (letter_passes b h) (front_passes is_word_byte bytes)
