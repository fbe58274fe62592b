-- The first flaw of a text, by the relation and by the function.
use Rattle.std.proofs.Common.{◌≡◌, ◌↔◌, ◌∙◌, ℕ, suc, ◌+◌, ◌-◌, ◌<◌, ◌≤◌, ◌^◌, ◌==◌, ◌&&◌, nat_lt, List, [], ◌∷◌, ◌++◌, length, true, false, Err, refl, sym, ap, subst, slice_index, append_assoc, arith, true≢false}
use Rattle.std.specs.List.{list_all, prefix_len}
use Rattle.std.proofs.Math.Seq.{take-append_seam}
use Rattle.std.proofs.lemmas.Bool.{and_parts, ltb-true, lt-ltb, le-ltb, false_from_ne_true}
use Rattle.std.proofs.lemmas.Bool.Decides.{Decides-eqb}
use Rattle.std.proofs.lemmas.Grind.{common_steps}
use Rattle.std.proofs.lemmas.List.{length-append}
use Rattle.std.proofs.lemmas.Slice.Eq.{starts_is}
use Rattle.prog_text.specs.declared.lexing.lex_error.Flaw.{Flaw}
use Rattle.prog_text.specs.declared.lexing.lex_error.Flaw.TheVariants.{NumberOutOfRange, NameTooLong}
use Rattle.prog_text.specs.declared.lexing.token.Token.{Token}
use Rattle.prog_text.specs.declared.lexing.token.Token.TheVariants as t
use Rattle.prog_text.specs.Spelling.{spelling, signs}
use Rattle.prog_text.specs.Lexing.{is_letter, is_digit, is_word_byte, is_space, digits_value, piece_at, word_at, number_at, sign_at, sign_among, flaw_at, tokens_from, tokens_of}
use Rattle.prog_text.specs.Cut.{IsName, IsNumber, Spells, IsLongest, ArePieces, no_piece, one_more, HasFlaw, not_ascii, unknown, too_large, too_long, IsFirstFlaw}
use Rattle.prog_text.proofs.Spelled.{IsAmong, among_passes, begins_sign}
use Rattle.prog_text.proofs.Cutting.{one_piece}
use Rattle.prog_text.proofs.Longest.{Told, told, is_sign, sign_fits, BeginsNoneOf, front_other, word_spelled}
use Rattle.prog_text.proofs.Converse.{Stops, prefix_run, letter_begins, digit_begins, letters_stop, digits_stop, is_begun, behind_is_shorter, piece_begun, piece_is}

-- ---- the function finds each flaw

-- where no token begins, no sign does
no_sign : (us : List Token) (bytes : List ℕ) → list_all is_sign us ≡ true → ((u : Token) (word behind : List ℕ) → Spells u word → bytes ≡ word ++ behind → ⊥) → BeginsNoneOf us bytes
no_sign [] bytes signed none = tt
no_sign (u ∷ us) bytes signed none =
    let both : (is_sign u ≡ true) × (list_all is_sign us ≡ true) = and_parts _ _ signed in (
      false_from_ne_true _ (λ e. none u (spelling u) _ (sign_fits u both.0).0 ((starts_is Decides-eqb bytes (spelling u) true (sym e)).0 refl)),
      no_sign us bytes both.1 none,
    )

no_sign_there : (us : List Token) (bytes : List ℕ) → BeginsNoneOf us bytes → sign_among us bytes ≡ flaw_at bytes
no_sign_there [] bytes none = refl
no_sign_there (u ∷ us) bytes none = rw none.0 (no_sign_there us bytes none.1)

-- where no piece begins, the function has a flaw
lone_flaw : (b : ℕ) (rest : List ℕ) → is_space b ≡ false → (b ≡ 35 → ⊥) → ((u : Token) (word behind : List ℕ) → Spells u word → b ∷ rest ≡ word ++ behind → ⊥) → piece_at (b ∷ rest) ≡ flaw_at (b ∷ rest)
unfolding piece_at sign_at
lone_flaw b rest no_space no_comment none =
    let comment : (b == 35) ≡ false = false_from_ne_true _ (λ e. no_comment ((Decides-eqb b 35).0 e)) in
    let letter : is_letter b ≡ false = false_from_ne_true _ (λ e. none _ (b ∷ []) rest (word_spelled (b ∷ []) e (rw e refl)) refl) in
    let digit : is_digit b ≡ false = false_from_ne_true _ (λ e. none (t.Number (digits_value (b ∷ []))) (b ∷ []) rest (record { begins = e; goes_on = rw e refl; value = refl }) refl) in
    rw (no_space, comment, letter, digit) (no_sign_there signs (b ∷ rest) (no_sign signs (b ∷ rest) refl none))

-- a token begins with a byte below 128
begins_past : (b : ℕ) (rest word behind : List ℕ) → 128 ≤ b → b ∷ rest ≡ word ++ behind → (nat_lt 0 (length word) && nat_lt (slice_index word 0) 128) ≡ true → ⊥
begins_past b rest [] behind large parts h = true≢false (sym h)
begins_past b rest (x ∷ word) behind large parts h =
    let first : b ≡ x = ap (λ xs. slice_index xs 0) parts in
    let small : x < 128 = ltb-true _ _ (and_parts _ _ h).1 in
    omega (arith, first, small, large)

none_past : (b : ℕ) (rest : List ℕ) → 128 ≤ b → (u : Token) (word behind : List ℕ) → Spells u word → b ∷ rest ≡ word ++ behind → ⊥
none_past b rest large u word behind spells parts =
    let other : is_word_byte b ≡ false = false_from_ne_true _ (λ e. grind (arith, common_steps, e, large)) in
    let there : IsAmong signs word = begins_sign u word spells (front_other b rest word behind other parts) in
    begins_past b rest word behind large parts (among_passes (λ w. nat_lt 0 (length w) && nat_lt (slice_index w 0) 128) signs word refl there)

long_word : (c : ℕ) (front behind : List ℕ) → list_all is_word_byte (c ∷ front) ≡ true → 32 < length (c ∷ front) → Stops is_word_byte behind → word_at (c ∷ (front ++ behind)) ≡ Err (NameTooLong, length (c ∷ (front ++ behind)))
unfolding word_at
long_word c front behind all long stop =
    let run : prefix_len is_word_byte (front ++ behind) ≡ length front = prefix_run is_word_byte front behind (and_parts _ _ all).1 stop in
    let e : length front + 1 ≡ suc (length front) = omega arith in
    let past : nat_lt 32 (suc (length front)) ≡ true = lt-ltb _ _ long in
    rw (run, e, past) refl

large_number : (c : ℕ) (front behind : List ℕ) → list_all is_digit (c ∷ front) ≡ true → 2 ^ 63 ≤ digits_value (c ∷ front) → Stops is_digit behind → number_at (c ∷ (front ++ behind)) ≡ Err (NumberOutOfRange, length (c ∷ (front ++ behind)))
unfolding number_at
large_number c front behind all large stop =
    let run : prefix_len is_digit (front ++ behind) ≡ length front = prefix_run is_digit front behind (and_parts _ _ all).1 stop in
    let e : length front + 1 ≡ suc (length front) = omega arith in
    let past : nat_lt (digits_value (c ∷ front)) (2 ^ 63) ≡ false = le-ltb _ _ large in
    rw (run, e, take-append_seam front behind, past) refl

long_piece : (word behind : List ℕ) → IsName word → 32 < length word → IsLongest word behind → piece_at (word ++ behind) ≡ Err (NameTooLong, length (word ++ behind))
unfolding piece_at
long_piece [] behind h long longest = absurd (omega (arith, long))
long_piece (c ∷ front) behind h long longest =
    let begins : (is_space c ≡ false) × ((c == 35) ≡ false) = letter_begins c h.begins in
    rw (begins.0, begins.1, h.begins) (long_word c front behind h.goes_on long (letters_stop c front behind h.begins h.goes_on longest))

large_piece : (n : ℕ) (word behind : List ℕ) → IsNumber word n → 2 ^ 63 ≤ n → IsLongest word behind → piece_at (word ++ behind) ≡ Err (NumberOutOfRange, length (word ++ behind))
unfolding piece_at
large_piece n [] behind h large longest = absurd (true≢false (sym h.begins))
large_piece n (c ∷ front) behind h large longest =
    let begins : (is_space c ≡ false) × ((c == 35) ≡ false) × (is_letter c ≡ false) = digit_begins c h.begins in
    let past : 2 ^ 63 ≤ digits_value (c ∷ front) = rw h.value large in
    rw (begins.0, begins.1, begins.2, h.begins) (large_number c front behind h.goes_on past (digits_stop c front behind h.begins h.goes_on longest))

flaw_piece : (flaw : Flaw) (bytes : List ℕ) → HasFlaw flaw bytes → piece_at bytes ≡ Err (flaw, length bytes)
flaw_piece _ _ (not_ascii b rest large) =
    let space : is_space b ≡ false = false_from_ne_true _ (λ e. grind (arith, common_steps, e, large)) in
    let big : nat_lt b 128 ≡ false = le-ltb _ _ large in
    lone_flaw b rest space (λ e. omega (arith, e, large)) (none_past b rest large) ∙ rw big refl
flaw_piece _ _ (unknown b rest small no_space no_comment none) =
    let is_small : nat_lt b 128 ≡ true = lt-ltb _ _ small in
    lone_flaw b rest no_space no_comment none ∙ rw is_small refl
flaw_piece _ _ (too_large n word behind h large longest) = large_piece n word behind h large longest
flaw_piece _ _ (too_long word behind h long longest) = long_piece word behind h long longest

-- a flaw stands at a byte
flaw_begun : (flaw : Flaw) (bytes : List ℕ) → HasFlaw flaw bytes → 0 < length bytes
flaw_begun _ _ (not_ascii b rest large) = omega arith
flaw_begun _ _ (unknown b rest small no_space no_comment none) = omega arith
flaw_begun _ _ (too_large n word behind h large longest) = omega (arith, length-append word behind, is_begun (t.Number n) word h)
flaw_begun _ _ (too_long word behind h long longest) = omega (arith, length-append word behind, long)

flaw_behind : (front rest : List ℕ) → ArePieces front rest → (flaw : Flaw) → HasFlaw flaw rest → (n : ℕ) → length (front ++ rest) ≤ n → tokens_from n (front ++ rest) ≡ Err (flaw, length rest)
flaw_behind _ _ (no_piece rest) flaw h n enough = one_piece rest n (flaw_begun flaw rest h) enough ∙ rw (flaw_piece flaw rest h) refl
flaw_behind _ _ (one_more found piece front rest is pieces) flaw h n enough =
    let parts = append_assoc piece front rest in
    let shorter = behind_is_shorter piece (front ++ rest) (piece_begun found piece (front ++ rest) is) in
    let enough_here : length (piece ++ (front ++ rest)) ≤ n = subst (λ (xs : List ℕ). length xs ≤ n) parts enough in
    let read : tokens_from (n - 1) (front ++ rest) ≡ Err (flaw, length rest) = flaw_behind front rest pieces flaw h (n - 1) (omega (arith, shorter, enough_here)) in
    rw parts (one_piece (piece ++ (front ++ rest)) n (omega (arith, shorter)) enough_here ∙ rw (piece_is found piece (front ++ rest) is, read) refl)

first_flaw_found : (bytes : List ℕ) (flaw : Flaw) (left place : ℕ) → IsFirstFlaw bytes flaw place → length bytes ≡ place + left → tokens_of bytes ≡ Err (flaw, left)
first_flaw_found bytes flaw left place h parts =
    let is : length h.rest ≡ left = omega (arith, ap length h.parts, length-append h.front h.rest, h.at_place, parts) in
    rw h.parts (flaw_behind h.front h.rest h.pieces flaw h.flawed (length (h.front ++ h.rest)) (omega arith) ∙ ap (λ n. Err (flaw, n)) is)

-- a text has exactly the first flaw that it is found to have
pub flaws_exactly : (bytes : List ℕ) (flaw : Flaw) (left : ℕ) → (tokens_of bytes ≡ Err (flaw, left)) ↔ ((place : ℕ) × IsFirstFlaw bytes flaw place × (length bytes ≡ place + left))
flaws_exactly bytes flaw left = (
  λ h. subst (Told bytes) h (told bytes),
  λ h. first_flaw_found bytes flaw left h.0 h.1 h.2,
)
