-- Which words spell a token that is looked for in a text.
use Rattle.std.proofs.Common.{◌≡◌, ◌≢◌, ◌⊎◌, inl, inr, ℕ, Bool, true, false, not, List, [], ◌∷◌, None, bytes_eq, slice_index, find, refl, ap, sym, ◌∙◌}
use Rattle.std.proofs.lemmas.Bool.{and_parts, cases_Bool, true≢false, not-true}
use Rattle.std.proofs.lemmas.Slice.Eq.{bytes_eq-Decides}
use Rattle.std.specs.List.{list_all}
use Rattle.text_places.specs.Landmarks.{is_program, is_sign_of, is_statement, is_table}
use Rattle.text_places.specs.declared.landmark.Landmark.{Landmark}
use Rattle.text_places.specs.declared.landmark.Landmark.TheVariants.{Table, Program, Statement, Record, Job}
use Rattle.prog_text.specs.declared.lexing.token.Token.{Token}
use Rattle.prog_text.specs.declared.lexing.token.Token.TheVariants as t
use Rattle.fault_words.specs.Beginnings.{is_first}
use Rattle.prog_text.specs.Cut.{Spells}
use Rattle.prog_text.specs.Lexing.{is_digit}
use Rattle.prog_text.specs.Spelling.{spelling, reserved_as, reserved_words}
use Rattle.prog_text.specs.Words.{begun}

-- a test that the word passes and the other fails tells them apart
apart : (test : List ℕ → Bool) (word other : List ℕ) → test word ≡ true → test other ≡ false → bytes_eq word other ≡ false
apart test word other passes fails = go (cases_Bool (bytes_eq word other))
  where
    go : (bytes_eq word other ≡ true) ⊎ (bytes_eq word other ≡ false) → bytes_eq word other ≡ false
    go (inl same) = absurd (true≢false (sym passes ∙ ap test ((bytes_eq-Decides word other).0 same) ∙ fails))
    go (inr differ) = differ

-- a word that is not reserved is not looked for
unnamed : (kind : Landmark) → kind ≢ Record → kind ≢ Job → (word : List ℕ) → reserved_as word ≡ None → is_sign_of kind word ≡ false
unnamed Table other others word none = ap (λ found. is_table (begun found)) none
unnamed Program other others word none = ap (λ found. is_program (begun found)) none
unnamed Statement other others word none = ap (λ found. is_statement (begun found)) none
unnamed Record other others word none = absurd (other refl)
unnamed Job other others word none = absurd (others refl)

abbrev begins_digits : List ℕ → Bool
begins_digits word = is_digit (slice_index word 0)

-- none of the tokens is spelled with digits at its front, so a word that has some spells none
none_of : (word : List ℕ) (tokens : List Token) → list_all (λ u. not (begins_digits (spelling u))) tokens ≡ true → begins_digits word ≡ true
    → find (λ u. bytes_eq word (spelling u)) tokens ≡ None
none_of word [] all digits = refl
none_of word (u ∷ tokens) all digits =
    let parts : (not (begins_digits (spelling u)) ≡ true) × (list_all (λ v. not (begins_digits (spelling v))) tokens ≡ true) = and_parts _ _ all in
    rw (apart begins_digits word (spelling u) digits (not-true _ parts.0)) (none_of word tokens parts.1 digits)

-- a word is looked for just where the token that it spells is
pub word_first : (kind : Landmark) → kind ≢ Record → kind ≢ Job → (u : Token) (word : List ℕ) → Spells u word → is_sign_of kind word ≡ is_first kind u
word_first kind other others (t.Name x) word spells = unnamed kind other others word spells.1.free
word_first kind other others (t.Number n) word spells = unnamed kind other others word (none_of word reserved_words refl spells.begins)
word_first kind other others (t.Sign u) word spells = ap (is_sign_of kind) spells
