-- The tokens of a text are the longest that stand where they begin.
use Rattle.std.proofs.Common.{◌≡◌, ◌∙◌, inl, inr, ℕ, zero, suc, ◌+◌, ◌<◌, ◌≤◌, ◌^◌, ◌==◌, nat_lt, nat_eq, cond, List, [], ◌∷◌, ◌++◌, length, take, drop, Bool, true, false, ◌&&◌, if◌then◌else◌, Option, Some, None, Result, Ok, Err, refl, sym, ap, subst, slice_index, bytes_eq, find, arith, true≢false, append_assoc, take-append-drop, IfOk}
use Rattle.std.specs.Prelude.{unwrap_or}
use Rattle.std.specs.Cmp.Derive.{both_true}
use Rattle.std.specs.List.{list_all, prefix_len, starts_with}
use Rattle.std.proofs.lemmas.Bool.{and_parts, ltb-true, ltb-false}
use Rattle.std.proofs.lemmas.Bool.Decides.{Decides-eqb}
use Rattle.std.proofs.lemmas.Grind.{common_steps}
use Rattle.std.proofs.lemmas.List.{length-append, length-take}
use Rattle.std.proofs.lemmas.List.Folds.{length-prefix_len}
use Rattle.std.proofs.lemmas.Slice.Eq.{bytes_eq-Decides, starts_is}
use Rattle.prog_text.specs.declared.lexing.lex_error.Flaw.{Flaw}
use Rattle.prog_text.specs.declared.lexing.lex_error.Flaw.TheVariants.{NotAscii, UnknownByte, NameTooLong, NumberOutOfRange}
use Rattle.prog_text.specs.declared.lexing.token.Sign.{Sign}
use Rattle.prog_text.specs.declared.lexing.token.Sign.TheVariants.{Table}
use Rattle.prog_text.specs.declared.lexing.token.Token.{Token}
use Rattle.prog_text.specs.declared.lexing.token.Token.TheVariants as t
use Rattle.prog_text.specs.Spelling.{spelling, reserved_words, signs}
use Rattle.prog_text.specs.Lexing.{is_letter, is_digit, is_word_byte, is_space, is_comment_byte, digits_value, word_token, Placed, Lexeme, Spot, before, ◌>>=◌, piece_at, word_at, number_at, sign_at, sign_among, flaw_at, tokens_from, tokens_of}
use Rattle.prog_text.specs.Cut.{IsName, IsNumber, Spells, IsWithinLimit, IsLongest, EndsComment, IsPiece, space, comment, token, IsCut, end, another, HasFlaw, not_ascii, unknown, too_large, too_long, no_piece, one_more, IsFirstFlaw}
use Rattle.prog_text.proofs.Spelled.{IsAmong, letters, digits, sign, kind, clash, passes_inside, letter_is_no_digit, digit_passes, among_passes, sign_begins, begins_sign, goes_on_sign}
use Rattle.prog_text.proofs.WordBytes.{front_passes, letter_passes}

-- ---- runs

-- behind the longest front whose bytes pass, the next byte doesn't
pub stops_by : (p : ℕ → Bool) (x : ℕ) (xs : List ℕ) (b : ℕ) (others : List ℕ) (passes : Bool) → p x ≡ passes
    → (drop (prefix_len p xs) xs ≡ b ∷ others → p b ≡ false) → drop (cond passes (1 + prefix_len p xs) 0) (x ∷ xs) ≡ b ∷ others → p b ≡ false
stops_by p x xs b others true is later h = let e : 1 + prefix_len p xs ≡ suc (prefix_len p xs) = omega arith in later (rw e at h)
stops_by p x xs b others false is later h = subst (λ ys. p (slice_index ys 0) ≡ false) h is

pub stops : (p : ℕ → Bool) (xs : List ℕ) (b : ℕ) (others : List ℕ) → drop (prefix_len p xs) xs ≡ b ∷ others → p b ≡ false
stops p [] b others h = absurd (grind (arith, common_steps, ap length h))
stops p (x ∷ xs) b others h = stops_by p x xs b others (p x) refl (stops p xs b others) h

-- ---- words and numbers

word_longest : (c : ℕ) (front rest : List ℕ) → is_letter c ≡ true → ((b : ℕ) (others : List ℕ) → rest ≡ b ∷ others → is_word_byte b ≡ false) → IsLongest (c ∷ front) rest
word_longest c front rest letter ends u b more others is spells =
    clash (letter_passes c letter) (sign_begins (c ∷ (front ++ b ∷ more)) (goes_on_sign u (c ∷ front) b more spells (ends b _ is)))

number_longest : (c : ℕ) (front rest : List ℕ) → is_digit c ≡ true → ((b : ℕ) (others : List ℕ) → rest ≡ b ∷ others → is_digit b ≡ false) → IsLongest (c ∷ front) rest
number_longest c front rest digit ends u b more others is spells =
    elim (kind u (c ∷ (front ++ b ∷ more)) spells) [
      | letters first all ↦ letter_is_no_digit c first digit
      | digits first all ↦ clash (passes_inside is_digit (c ∷ front) more b all) (ends b _ is)
      | sign there ↦ clash (digit_passes c digit) (sign_begins _ there)
    ]

-- ---- one piece

-- a piece stands in front of the bytes behind it
pub record IsFront (bytes : List ℕ) (found : Option Token) (behind : List ℕ) : Type 0 where
  pub word : List ℕ
  pub parts : bytes ≡ word ++ behind
  pub is_piece : IsPiece found word behind
  pub begun : 0 < length word

-- what is found at the front of the bytes is a piece, or a flaw
abbrev pub Goes : List ℕ → Lexeme → Type 0
Goes bytes (Ok piece) = IsFront bytes piece.0 piece.1
Goes bytes (Err spot) = HasFlaw spot.0 bytes × (spot.1 ≡ length bytes)

-- the bytes spell a token that is within the limits
abbrev Fits : Token → List ℕ → Type 0
Fits u word = Spells u word × IsWithinLimit u

token_goes : (c : ℕ) (rest : List ℕ) (k : ℕ) (u : Token) → Fits u (c ∷ take k rest) → IsLongest (c ∷ take k rest) (drop k rest) → Goes (c ∷ rest) (Ok (Some u, drop k rest))
token_goes c rest k u spells longest = record {
  word = c ∷ take k rest;
  parts = ap (λ bytes. c ∷ bytes) (sym (take-append-drop k rest));
  is_piece = token u (c ∷ take k rest) (drop k rest) spells.0 spells.1 longest;
  begun = omega arith;
}

abbrev pub is_sign : Token → Bool
is_sign (t.Sign s) = true
is_sign u = false

-- a sign is spelled by its spelling, which is short
pub sign_fits : (u : Token) → is_sign u ≡ true → Fits u (spelling u)
sign_fits (t.Sign s) h = (refl, tt)
sign_fits u h = absurd (true≢false (sym h))

sign_length : (s : Sign) → (nat_lt 0 (length (spelling (t.Sign s))) && nat_lt (length (spelling (t.Sign s))) 33) ≡ true
sign_length Table = refl
sign_length s = refl

sign_begun : (u : Token) → is_sign u ≡ true → 0 < length (spelling u)
sign_begun (t.Sign s) h = ltb-true _ _ (and_parts _ _ (sign_length s)).0
sign_begun u h = absurd (true≢false (sym h))

-- what is so of the sign that the bytes spell, and of a name where they spell none, is so of what the search finds
named_by : (P : Token → Type 0) (u : Token) (word : List ℕ) (same : Bool) → bytes_eq word (spelling u) ≡ same → is_sign u ≡ true → ((s : Sign) → word ≡ spelling (t.Sign s) → P (t.Sign s)) → (other : Option Token)
    → (same ≡ false → P (unwrap_or other (t.Name word))) → P (unwrap_or (cond same (Some u) other) (t.Name word))
named_by P (t.Sign s) word true is signed each other next =
    each s ((bytes_eq-Decides word (spelling (t.Sign s))).0 is)
named_by P u word true is signed each other next = absurd (true≢false (sym signed))
named_by P u word false is signed each other next = next refl

named : (P : Token → Type 0) (us : List Token) (word : List ℕ) → list_all is_sign us ≡ true → ((s : Sign) → word ≡ spelling (t.Sign s) → P (t.Sign s))
    → (find (λ u. bytes_eq word (spelling u)) us ≡ None → P (t.Name word)) → P (unwrap_or (find (λ u. bytes_eq word (spelling u)) us) (t.Name word))
named P [] word signed each name = name refl
named P (u ∷ us) word signed each name =
    let both : (is_sign u ≡ true) × (list_all is_sign us ≡ true) = and_parts _ _ signed in
    named_by P u word (bytes_eq word (spelling u)) refl both.0 each _ (λ no_it. named P us word both.1 each (λ none. name (rw no_it none)))

-- a word of any length spells its token
pub word_spelled : (word : List ℕ) → is_letter (slice_index word 0) ≡ true → list_all is_word_byte word ≡ true → Spells (word_token word) word
word_spelled word letter all = named (λ u. Spells u word) reserved_words word refl (λ s e. e) (λ unreserved. (refl, record { begins = letter; goes_on = all; free = unreserved }))

-- no reserved word is so long
long_name : (word : List ℕ) → is_letter (slice_index word 0) ≡ true → list_all is_word_byte word ≡ true → 32 < length word → IsName word
long_name word letter all =
    named (λ u. 32 < length word → IsName word) reserved_words word refl
    (λ s e long. let short : length (spelling (t.Sign s)) < 33 = ltb-true _ _ (and_parts _ _ (sign_length s)).1 in absurd (omega (arith, ap length e, long, short)))
    (λ unreserved long. record { begins = letter; goes_on = all; free = unreserved })

-- a word with k bytes behind its first is a token or too long, where it is the longest
word_goes_by : (c : ℕ) (rest : List ℕ) (k : ℕ) → length (take k rest) ≡ k → is_letter c ≡ true → list_all is_word_byte (c ∷ take k rest) ≡ true → IsLongest (c ∷ take k rest) (drop k rest) → (long : Bool) → nat_lt 32 (suc k) ≡ long
    → Goes (c ∷ rest) (if long then Err (NameTooLong, length (c ∷ rest)) else Ok (Some (word_token (c ∷ take k rest)), drop k rest))
word_goes_by c rest k within letter all longest true is =
    let long : 32 < length (c ∷ take k rest) = omega (arith, within, ltb-true _ _ is) in
    (subst (λ bytes. HasFlaw NameTooLong (c ∷ bytes)) (take-append-drop k rest) (too_long (c ∷ take k rest) (drop k rest) (long_name (c ∷ take k rest) letter all long) long longest), refl)
word_goes_by c rest k within letter all longest false is =
    let short : length (c ∷ take k rest) ≤ 32 = grind (arith, common_steps, length-take k rest, is) in
    token_goes c rest k (word_token (c ∷ take k rest))
    (named (λ u. Fits u (c ∷ take k rest)) reserved_words (c ∷ take k rest) refl (λ s e. (e, tt)) (λ unreserved. ((refl, record { begins = letter; goes_on = all; free = unreserved }), short))) longest

word_goes : (c : ℕ) (rest : List ℕ) → is_letter c ≡ true → Goes (c ∷ rest) (word_at (c ∷ rest))
unfolding word_at
word_goes c rest letter =
    let k : ℕ = prefix_len is_word_byte rest in
    let e : k + 1 ≡ suc k = omega arith in
    rw e (word_goes_by c rest k (length-prefix_len is_word_byte rest) letter (both_true (letter_passes c letter) (front_passes is_word_byte rest)) (word_longest c _ _ letter (stops is_word_byte rest)) (nat_lt 32 (suc k)) refl)

-- digits are a number or too large
number_goes_by : (c : ℕ) (rest : List ℕ) (k : ℕ) → IsNumber (c ∷ take k rest) (digits_value (c ∷ take k rest)) → IsLongest (c ∷ take k rest) (drop k rest) → (fits : Bool) → nat_lt (digits_value (c ∷ take k rest)) (2 ^ 63) ≡ fits
    → Goes (c ∷ rest) (if fits then Ok (Some (t.Number (digits_value (c ∷ take k rest))), drop k rest) else Err (NumberOutOfRange, length (c ∷ rest)))
number_goes_by c rest k h longest false is =
    (subst (λ bytes. HasFlaw NumberOutOfRange (c ∷ bytes)) (take-append-drop k rest) (too_large _ (c ∷ take k rest) (drop k rest) h (ltb-false _ _ is) longest), refl)
number_goes_by c rest k h longest true is =
    token_goes c rest k (t.Number (digits_value (c ∷ take k rest))) (h, ltb-true _ _ is) longest

number_goes : (c : ℕ) (rest : List ℕ) → is_digit c ≡ true → Goes (c ∷ rest) (number_at (c ∷ rest))
unfolding number_at
number_goes c rest digit =
    let k : ℕ = prefix_len is_digit rest in
    let e : k + 1 ≡ suc k = omega arith in
    rw e (number_goes_by c rest k (record { begins = digit; goes_on = both_true digit (front_passes is_digit rest); value = refl }) (number_longest c _ _ digit (stops is_digit rest)) _ refl)

-- ---- signs

-- a token that was found among these: none with which the bytes begin is longer
abbrev FoundToken : List Token → List ℕ → Option Token → List ℕ → Type 0
FoundToken us bytes None behind = ⊥
FoundToken us bytes (Some u) behind =
    (bytes ≡ spelling u ++ behind) × Fits u (spelling u) × (0 < length (spelling u))
    × ((word others : List ℕ) → IsAmong us word → bytes ≡ word ++ others → length word ≤ length (spelling u))

-- the bytes begin with none of these
abbrev pub BeginsNoneOf : List Token → List ℕ → Type 0
BeginsNoneOf [] bytes = Unit {0}
BeginsNoneOf (u ∷ us) bytes = (starts_with nat_eq bytes (spelling u) ≡ false) × BeginsNoneOf us bytes

abbrev Found : List Token → List ℕ → Lexeme → Type 0
Found us bytes (Ok piece) = FoundToken us bytes piece.0 piece.1
Found us bytes (Err spot) = BeginsNoneOf us bytes × (Err spot ≡ flaw_at bytes)

-- no token is longer than the one before it
abbrev are_no_longer : Token → List Token → Bool
are_no_longer u us = list_all (λ v. nat_lt (length (spelling v)) (suc (length (spelling u)))) us

abbrev longest_first : List Token → Bool
longest_first [] = true
longest_first (u ∷ us) = are_no_longer u us && longest_first us

pub starts : (bytes front rest : List ℕ) → bytes ≡ front ++ rest → starts_with nat_eq bytes front ≡ true
starts bytes front rest is = (starts_is Decides-eqb bytes front _ refl).1 rest is

no_longer : (u : Token) (us : List Token) → are_no_longer u us ≡ true → (word : List ℕ) → IsAmong (u ∷ us) word → length word ≤ length (spelling u)
no_longer u us first word (inl e) = omega (arith, ap length e)
no_longer u us first word (inr e) =
    let short : length word < suc (length (spelling u)) = ltb-true _ _ (among_passes (λ w. nat_lt (length w) (suc (length (spelling u)))) us word first e) in
    omega (arith, short)

found_by : (u : Token) (us : List Token) (bytes : List ℕ) (begins : Bool) → starts_with nat_eq bytes (spelling u) ≡ begins → is_sign u ≡ true → are_no_longer u us ≡ true → (others : Lexeme) → Found us bytes others
    → Found (u ∷ us) bytes (if begins then Ok (Some u, drop (length (spelling u)) bytes) else others)
found_by u us bytes true is signed first others h =
    ((starts_is Decides-eqb bytes (spelling u) true (sym is)).0 refl, sign_fits u signed, sign_begun u signed, λ word others there parts. no_longer u us first word there)
found_by u us bytes false is signed first (Ok (None, behind)) h = h
found_by u us bytes false is signed first (Ok (Some v, behind)) h = (
  h.0,
  h.1,
  h.2,
  λ word others there parts.
      elim there [
        | inl e ↦ absurd (clash (starts bytes (spelling u) others (parts ∙ ap (λ w. w ++ others) e)) is)
        | inr e ↦ h.3 word others e parts
      ],
)
found_by u us bytes false is signed first (Err spot) h = ((is, h.0), h.1)

found : (us : List Token) (bytes : List ℕ) → list_all is_sign us ≡ true → longest_first us ≡ true → Found us bytes (sign_among us bytes)
found [] [] signed first = (tt, refl)
found [] (b ∷ bytes) signed first = (tt, refl)
found (u ∷ us) bytes signed first =
    let sign : (is_sign u ≡ true) × (list_all is_sign us ≡ true) = and_parts _ _ signed in
    let long : (are_no_longer u us ≡ true) × (longest_first us ≡ true) = and_parts _ _ first in
    found_by u us bytes (starts_with nat_eq bytes (spelling u)) refl sign.0 long.0 (sign_among us bytes) (found us bytes sign.1 long.1)

-- where the bytes begin with one of no word, so does what stands at their front
pub front_other : (c : ℕ) (rest word behind : List ℕ) → is_word_byte c ≡ false → c ∷ rest ≡ word ++ behind → is_word_byte (slice_index word 0) ≡ false
front_other c rest [] behind other parts = refl
front_other c rest (x ∷ word) behind other parts =
    subst (λ b. is_word_byte b ≡ false) (ap (λ xs. slice_index xs 0) parts) other

-- where no word byte and no sign begins, no token does
none_among : (us : List Token) (bytes word behind : List ℕ) → BeginsNoneOf us bytes → IsAmong us word → bytes ≡ word ++ behind → ⊥
none_among [] bytes word behind free there parts = there
none_among (u ∷ us) bytes word behind free (inl e) parts = clash (starts bytes (spelling u) behind (parts ∙ ap (λ w. w ++ behind) e)) free.0
none_among (u ∷ us) bytes word behind free (inr e) parts = none_among us bytes word behind free.1 e parts

no_token : (c : ℕ) (rest : List ℕ) → is_word_byte c ≡ false → BeginsNoneOf signs (c ∷ rest) → (u : Token) (word behind : List ℕ) → Spells u word → c ∷ rest ≡ word ++ behind → ⊥
no_token c rest other free u word behind spells parts =
    none_among signs (c ∷ rest) word behind free (begins_sign u word spells (front_other c rest word behind other parts)) parts

-- a byte that begins no piece
pub record BeginsNoPiece (c : ℕ) : Type 0 where
  pub no_space : is_space c ≡ false
  pub no_comment : (c == 35) ≡ false
  pub no_word : is_word_byte c ≡ false

sign_flaw : (c : ℕ) (rest : List ℕ) (small : Bool) → nat_lt c 128 ≡ small → BeginsNoPiece c → BeginsNoneOf signs (c ∷ rest) → HasFlaw (if small then UnknownByte else NotAscii) (c ∷ rest)
sign_flaw c rest true is other free = unknown c rest (ltb-true _ _ is) other.no_space (λ e. clash ((Decides-eqb c 35).1 e) other.no_comment) (no_token c rest other.no_word free)
sign_flaw c rest false is other free = not_ascii c rest (ltb-false _ _ is)

sign_goes_piece : (c : ℕ) (rest : List ℕ) → BeginsNoPiece c → (piece : Lexeme) → Found signs (c ∷ rest) piece → Goes (c ∷ rest) piece
sign_goes_piece c rest other (Ok (None, behind)) h = absurd h
sign_goes_piece c rest other (Ok (Some u, behind)) h = record {
  word = spelling u;
  parts = h.0;
  is_piece = token u (spelling u) behind h.1.0 h.1.1 (λ v b more others is spells.
      let parts : c ∷ rest ≡ (spelling u ++ b ∷ more) ++ others = h.0 ∙ ap (λ xs. spelling u ++ xs) is ∙ sym (append_assoc (spelling u) (b ∷ more) others) in
      let there : IsAmong signs (spelling u ++ b ∷ more) = begins_sign v _ spells (front_other c rest _ others other.no_word parts) in
      omega (arith, length-append (spelling u) (b ∷ more), h.3 _ others there parts));
  begun = h.2;
}
sign_goes_piece c rest other (Err spot) h =
    subst (Goes (c ∷ rest)) (sym h.1) (sign_flaw c rest (nat_lt c 128) refl other h.0, refl)

sign_goes : (c : ℕ) (rest : List ℕ) → BeginsNoPiece c → Goes (c ∷ rest) (sign_at (c ∷ rest))
unfolding sign_at
sign_goes c rest other = sign_goes_piece c rest other (sign_among signs (c ∷ rest)) (found signs (c ∷ rest) refl refl)

-- ---- comments

ends_by : (rest : List ℕ) → ((b : ℕ) (others : List ℕ) → rest ≡ b ∷ others → is_comment_byte b ≡ false) → EndsComment rest
ends_by [] h = tt
ends_by (b ∷ rest) h = h b rest refl

comment_goes : (c : ℕ) (rest : List ℕ) → c ≡ 35 → Goes (c ∷ rest) (Ok (None, drop (prefix_len is_comment_byte rest) rest))
comment_goes c rest is =
    let k : ℕ = prefix_len is_comment_byte rest in
    record {
      word = 35 ∷ take k rest;
      parts = ap (λ b. b ∷ rest) is ∙ ap (λ bytes. 35 ∷ bytes) (sym (take-append-drop k rest));
      is_piece = comment (take k rest) (drop k rest) (front_passes is_comment_byte rest) (ends_by _ (stops is_comment_byte rest));
      begun = omega arith;
    }

-- ---- the whole text

goes_by : (c : ℕ) (rest : List ℕ) (spaces comments letter digit : Bool) → is_space c ≡ spaces → (c == 35) ≡ comments → is_letter c ≡ letter → is_digit c ≡ digit
    → Goes (c ∷ rest) (if spaces then Ok (None, rest) else if comments then Ok (None, drop (prefix_len is_comment_byte rest) rest) else if letter then word_at (c ∷ rest) else if digit then number_at (c ∷ rest) else sign_at (c ∷ rest))
goes_by c rest true comments letter digit s k l d = record { word = c ∷ []; parts = refl; is_piece = space c rest s; begun = omega arith }
goes_by c rest false true letter digit s k l d = comment_goes c rest ((Decides-eqb c 35).0 k)
goes_by c rest false false true digit s k l d = word_goes c rest l
goes_by c rest false false false true s k l d = number_goes c rest d
goes_by c rest false false false false s k l d = sign_goes c rest (record { no_space = s; no_comment = k; no_word = rw (l, d) refl })

pub goes : (c : ℕ) (rest : List ℕ) → Goes (c ∷ rest) (piece_at (c ∷ rest))
unfolding piece_at
goes c rest = goes_by c rest (is_space c) (c == 35) (is_letter c) (is_digit c) refl refl refl refl

-- what is told of bytes are their tokens, or their first flaw and how many bytes are left there
abbrev pub Told : List ℕ → Result Placed Spot → Type 0
Told bytes (Ok placed) = IsCut bytes placed
Told bytes (Err spot) = (place : ℕ) × IsFirstFlaw bytes spot.0 place × (length bytes ≡ place + spot.1)

one_further : (bytes behind : List ℕ) (found : Option Token) (flaw : Flaw) (place : ℕ) → (h : IsFront bytes found behind) → IsFirstFlaw behind flaw place → IsFirstFlaw bytes flaw (length h.word + place)
one_further bytes behind found flaw place h first = record {
  front = h.word ++ first.front;
  rest = first.rest;
  parts = h.parts ∙ ap (λ xs. h.word ++ xs) first.parts ∙ sym (append_assoc h.word first.front first.rest);
  pieces = one_more found h.word first.front first.rest (subst (IsPiece found h.word) first.parts h.is_piece) first.pieces;
  flawed = first.flawed;
  at_place = length-append h.word first.front ∙ ap (λ n. length h.word + n) first.at_place;
}

behind_told : (bytes behind : List ℕ) (found : Option Token) → IsFront bytes found behind → (read : Result Placed Spot) → Told behind read → Told bytes (read >>= (λ others. Ok (before found (length bytes) others)))
behind_told bytes behind found h (Ok others) cut =
    subst (λ xs. IsCut xs (before found (length xs) others)) (sym h.parts) (another found h.word behind others h.is_piece cut)
behind_told bytes behind found h (Err spot) later =
    (length h.word + later.0, one_further bytes behind found spot.0 later.0 h later.1, omega (arith, ap length h.parts, length-append h.word behind, later.2))

piece_told : (n : ℕ) (bytes : List ℕ) (piece : Lexeme) → Goes bytes piece → ((behind : List ℕ) → length behind < length bytes → Told behind (tokens_from n behind))
    → Told bytes (piece >>= (λ p. tokens_from n p.1 >>= (λ others. Ok (before p.0 (length bytes) others))))
piece_told n bytes (Ok piece) h later =
    behind_told bytes piece.1 piece.0 h (tokens_from n piece.1) (later piece.1 (omega (arith, ap length h.parts, length-append h.word piece.1, h.begun)))
piece_told n bytes (Err spot) h later =
    (0, record { front = []; rest = bytes; parts = refl; pieces = no_piece bytes; flawed = h.0; at_place = refl }, omega (arith, h.1))

told_from : (n : ℕ) (bytes : List ℕ) → length bytes ≤ n → Told bytes (tokens_from n bytes)
unfolding tokens_from
told_from n [] enough = end
told_from zero (b ∷ rest) enough = absurd (omega (arith, enough))
told_from (suc n) (b ∷ rest) enough =
    piece_told n (b ∷ rest) (piece_at (b ∷ rest)) (goes b rest) (λ behind shorter. told_from n behind (omega (arith, shorter, enough)))

pub told : (bytes : List ℕ) → Told bytes (tokens_of bytes)
told bytes = told_from (length bytes) bytes (omega arith)

cut_if : (bytes : List ℕ) (read : Result Placed Spot) → Told bytes read → IfOk read (λ placed. IsCut bytes placed)
cut_if bytes (Ok placed) h = h
cut_if bytes (Err spot) h = tt

-- a text that has tokens is cut into them
pub cut_of_tokens : (bytes : List ℕ) → IfOk (tokens_of bytes) (λ placed. IsCut bytes placed)
cut_of_tokens bytes = cut_if bytes (tokens_of bytes) (told bytes)
