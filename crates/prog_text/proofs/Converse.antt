-- A text that is cut into tokens has them.
use Rattle.std.proofs.Common.{◌≡◌, ◌↔◌, ◌∙◌, ℕ, zero, suc, ◌+◌, ◌<◌, ◌≤◌, ◌^◌, ◌==◌, nat_lt, nat_eq, List, [], ◌∷◌, ◌++◌, length, Bool, true, false, Option, Some, None, Ok, refl, sym, ap, subst, slice_index, codes, arith, true≢false}
use Rattle.std.specs.List.{list_all, prefix_len}
use Rattle.std.proofs.Math.Seq.{drop-append_seam, take-append_seam}
use Rattle.std.proofs.lemmas.Bool.{and_parts, ltb-true, lt-ltb, false_from_ne_true}
use Rattle.std.proofs.lemmas.Bool.Decides.{Decides-eqb}
use Rattle.std.proofs.lemmas.Grind.{common_steps}
use Rattle.std.proofs.lemmas.List.{length-append}
use Rattle.std.proofs.lemmas.List.Folds.{list_all-append}
use Rattle.std.proofs.lemmas.Result.{IfOk-at_ok}
use Rattle.prog_text.specs.declared.lexing.token.Token.{Token}
use Rattle.prog_text.specs.declared.lexing.token.Sign.TheVariants as sign
use Rattle.prog_text.specs.declared.lexing.token.Token.TheVariants as t
use Rattle.prog_text.specs.Spelling.{spelling}
use Rattle.prog_text.specs.Lexing.{is_letter, is_digit, is_word_byte, is_space, is_comment_byte, digits_value, word_token, Placed, before, piece_at, word_at, number_at, sign_at, tokens_from, tokens_of}
use Rattle.prog_text.specs.Cut.{IsNumber, Spells, IsWithinLimit, IsLongest, EndsComment, IsPiece, space, comment, token, IsCut, end, another}
use Rattle.prog_text.proofs.Spelled.{letter_is_no_digit}
use Rattle.prog_text.proofs.Longest.{word_spelled, cut_of_tokens}

-- ---- runs

-- the bytes go on with none that passes
abbrev pub Stops : (ℕ → Bool) → List ℕ → Type 0
Stops p [] = Unit {0}
Stops p (b ∷ rest) = p b ≡ false

pub prefix_run : (p : ℕ → Bool) (line rest : List ℕ) → list_all p line ≡ true → Stops p rest → prefix_len p (line ++ rest) ≡ length line
prefix_run p [] [] all stop = refl
prefix_run p [] (b ∷ rest) all stop = rw stop refl
prefix_run p (x ∷ line) rest all stop =
    let first : p x ≡ true = (and_parts _ _ all).0 in
    let others : prefix_len p (line ++ rest) ≡ length line = prefix_run p line rest (and_parts _ _ all).1 stop in
    rw (first, others) (omega arith)

-- a letter or a digit begins no space and no comment
pub letter_begins : (c : ℕ) → is_letter c ≡ true → (is_space c ≡ false) × ((c == 35) ≡ false)
letter_begins c h = (false_from_ne_true _ (λ e. grind (arith, h, e)), false_from_ne_true _ (λ e. grind (arith, h, e)))

pub digit_begins : (c : ℕ) → is_digit c ≡ true → (is_space c ≡ false) × ((c == 35) ≡ false) × (is_letter c ≡ false)
digit_begins c h = (false_from_ne_true _ (λ e. grind (arith, h, e)), false_from_ne_true _ (λ e. grind (arith, h, e)), false_from_ne_true _ (λ e. letter_is_no_digit c e h))

passes_push : (p : ℕ → Bool) (word : List ℕ) (b : ℕ) → list_all p word ≡ true → p b ≡ true → list_all p (word ++ b ∷ []) ≡ true
passes_push p word b all last = rw (list_all-append p word (b ∷ []), all, last) refl

-- ---- words

pub letters_stop : (c : ℕ) (front rest : List ℕ) → is_letter c ≡ true → list_all is_word_byte (c ∷ front) ≡ true → IsLongest (c ∷ front) rest → Stops is_word_byte rest
letters_stop c front [] letter all longest = tt
letters_stop c front (b ∷ rest) letter all longest =
    false_from_ne_true _ (λ e. longest _ b [] rest refl (word_spelled (c ∷ (front ++ b ∷ [])) letter (passes_push is_word_byte (c ∷ front) b all e)))

pub letters_at : (c : ℕ) (front rest : List ℕ) → list_all is_word_byte (c ∷ front) ≡ true → length (c ∷ front) ≤ 32 → Stops is_word_byte rest → word_at (c ∷ (front ++ rest)) ≡ Ok (Some (word_token (c ∷ front)), rest)
unfolding word_at
letters_at c front rest all short stop =
    let run : prefix_len is_word_byte (front ++ rest) ≡ length front = prefix_run is_word_byte front rest (and_parts _ _ all).1 stop in
    let e : length front + 1 ≡ suc (length front) = omega arith in
    let small : nat_lt 32 (suc (length front)) ≡ false = grind (arith, common_steps, short) in
    rw (run, e, small, take-append_seam front rest, drop-append_seam front rest) refl

letters_piece : (u : Token) (word rest : List ℕ) → is_letter (slice_index word 0) ≡ true → list_all is_word_byte word ≡ true → word_token word ≡ u → length word ≤ 32 → IsLongest word rest → piece_at (word ++ rest) ≡ Ok (Some u, rest)
unfolding piece_at
letters_piece u [] rest letter all same short longest = absurd (true≢false (sym letter))
letters_piece u (c ∷ front) rest letter all same short longest =
    let begins : (is_space c ≡ false) × ((c == 35) ≡ false) = letter_begins c letter in
    rw (begins.0, begins.1, letter) (letters_at c front rest all short (letters_stop c front rest letter all longest) ∙ ap (λ v. Ok (Some v, rest)) same)

reserved_piece : (u : Token) (word rest : List ℕ) → word ≡ spelling u → is_letter (slice_index (spelling u) 0) ≡ true → list_all is_word_byte (spelling u) ≡ true → word_token (spelling u) ≡ u → nat_lt (length (spelling u)) 33 ≡ true
    → IsLongest word rest → piece_at (word ++ rest) ≡ Ok (Some u, rest)
reserved_piece u word rest h letter all same short longest =
    let few : length (spelling u) < 33 = ltb-true _ _ short in
    letters_piece u word rest (rw h letter) (rw h all) (rw h same) (rw h (omega arith)) longest

-- ---- numbers

pub digits_stop : (c : ℕ) (front rest : List ℕ) → is_digit c ≡ true → list_all is_digit (c ∷ front) ≡ true → IsLongest (c ∷ front) rest → Stops is_digit rest
digits_stop c front [] digit all longest = tt
digits_stop c front (b ∷ rest) digit all longest =
    false_from_ne_true _ (λ e. longest (t.Number (digits_value (c ∷ (front ++ b ∷ [])))) b [] rest refl (record { begins = digit; goes_on = passes_push is_digit (c ∷ front) b all e; value = refl }))

pub digits_at : (c : ℕ) (front rest : List ℕ) → list_all is_digit (c ∷ front) ≡ true → digits_value (c ∷ front) < 2 ^ 63 → Stops is_digit rest → number_at (c ∷ (front ++ rest)) ≡ Ok (Some (t.Number (digits_value (c ∷ front))), rest)
unfolding number_at
digits_at c front rest all within stop =
    let run : prefix_len is_digit (front ++ rest) ≡ length front = prefix_run is_digit front rest (and_parts _ _ all).1 stop in
    let e : length front + 1 ≡ suc (length front) = omega arith in
    let small : nat_lt (digits_value (c ∷ front)) (2 ^ 63) ≡ true = lt-ltb _ _ within in
    rw (run, e, take-append_seam front rest, drop-append_seam front rest, small) refl

digits_piece : (n : ℕ) (word rest : List ℕ) → IsNumber word n → n < 2 ^ 63 → IsLongest word rest → piece_at (word ++ rest) ≡ Ok (Some (t.Number n), rest)
unfolding piece_at
digits_piece n [] rest h within longest = absurd (true≢false (sym h.begins))
digits_piece n (c ∷ front) rest h within longest =
    let begins : (is_space c ≡ false) × ((c == 35) ≡ false) × (is_letter c ≡ false) = digit_begins c h.begins in
    let fits : digits_value (c ∷ front) < 2 ^ 63 = rw h.value within in
    rw (begins.0, begins.1, begins.2, h.begins) (digits_at c front rest h.goes_on fits (digits_stop c front rest h.begins h.goes_on longest) ∙ ap (λ m. Ok (Some (t.Number m), rest)) h.value)

-- ---- signs that another sign begins with

less_piece : (rest : List ℕ) → IsLongest (codes "<") rest → piece_at (60 ∷ rest) ≡ Ok (Some (t.Sign sign.Less), rest)
unfolding piece_at sign_at
less_piece [] longest = refl
less_piece (b ∷ rest) longest =
    let other : (61 == b) ≡ false = false_from_ne_true _ (λ e. longest (t.Sign sign.LessEqual) b [] rest refl (ap (λ x. 60 ∷ x ∷ []) (sym ((Decides-eqb 61 b).0 e)))) in
    rw other refl

greater_piece : (rest : List ℕ) → IsLongest (codes ">") rest → piece_at (62 ∷ rest) ≡ Ok (Some (t.Sign sign.Greater), rest)
unfolding piece_at sign_at
greater_piece [] longest = refl
greater_piece (b ∷ rest) longest =
    let other : (61 == b) ≡ false = false_from_ne_true _ (λ e. longest (t.Sign sign.GreaterEqual) b [] rest refl (ap (λ x. 62 ∷ x ∷ []) (sym ((Decides-eqb 61 b).0 e)))) in
    rw other refl

equals_piece : (rest : List ℕ) → IsLongest (codes "=") rest → piece_at (61 ∷ rest) ≡ Ok (Some (t.Sign sign.Equals), rest)
unfolding piece_at sign_at
equals_piece [] longest = refl
equals_piece (b ∷ rest) longest =
    let other : (61 == b) ≡ false = false_from_ne_true _ (λ e. longest (t.Sign sign.EqualEqual) b [] rest refl (ap (λ x. 61 ∷ x ∷ []) (sym ((Decides-eqb 61 b).0 e)))) in
    rw other refl

-- ---- each token

token_piece : (u : Token) (word rest : List ℕ) → Spells u word → IsWithinLimit u → IsLongest word rest → piece_at (word ++ rest) ≡ Ok (Some u, rest)
unfolding piece_at sign_at
token_piece (t.Name x) word rest h within longest =
    letters_piece (t.Name x) word rest h.1.begins h.1.goes_on (rw h.1.free (ap t.Name h.0)) (rw h.0 within) longest
token_piece (t.Number n) word rest h within longest = digits_piece n word rest h within longest
token_piece (t.Sign sign.Table) word rest h within longest = reserved_piece (t.Sign sign.Table) word rest h refl refl refl refl longest
token_piece (t.Sign sign.Grow) word rest h within longest = reserved_piece (t.Sign sign.Grow) word rest h refl refl refl refl longest
token_piece (t.Sign sign.Program) word rest h within longest = reserved_piece (t.Sign sign.Program) word rest h refl refl refl refl longest
token_piece (t.Sign sign.Let) word rest h within longest = reserved_piece (t.Sign sign.Let) word rest h refl refl refl refl longest
token_piece (t.Sign sign.Get) word rest h within longest = reserved_piece (t.Sign sign.Get) word rest h refl refl refl refl longest
token_piece (t.Sign sign.Need) word rest h within longest = reserved_piece (t.Sign sign.Need) word rest h refl refl refl refl longest
token_piece (t.Sign sign.Count) word rest h within longest = reserved_piece (t.Sign sign.Count) word rest h refl refl refl refl longest
token_piece (t.Sign sign.Sum) word rest h within longest = reserved_piece (t.Sign sign.Sum) word rest h refl refl refl refl longest
token_piece (t.Sign sign.Lacks) word rest h within longest = reserved_piece (t.Sign sign.Lacks) word rest h refl refl refl refl longest
token_piece (t.Sign sign.Put) word rest h within longest = reserved_piece (t.Sign sign.Put) word rest h refl refl refl refl longest
token_piece (t.Sign sign.Insert) word rest h within longest = reserved_piece (t.Sign sign.Insert) word rest h refl refl refl refl longest
token_piece (t.Sign sign.Delete) word rest h within longest = reserved_piece (t.Sign sign.Delete) word rest h refl refl refl refl longest
token_piece (t.Sign sign.Keep) word rest h within longest = reserved_piece (t.Sign sign.Keep) word rest h refl refl refl refl longest
token_piece (t.Sign sign.If) word rest h within longest = reserved_piece (t.Sign sign.If) word rest h refl refl refl refl longest
token_piece (t.Sign sign.Else) word rest h within longest = reserved_piece (t.Sign sign.Else) word rest h refl refl refl refl longest
token_piece (t.Sign sign.Reply) word rest h within longest = reserved_piece (t.Sign sign.Reply) word rest h refl refl refl refl longest
token_piece (t.Sign sign.Abort) word rest h within longest = reserved_piece (t.Sign sign.Abort) word rest h refl refl refl refl longest
token_piece (t.Sign sign.Or) word rest h within longest = reserved_piece (t.Sign sign.Or) word rest h refl refl refl refl longest
token_piece (t.Sign sign.And) word rest h within longest = reserved_piece (t.Sign sign.And) word rest h refl refl refl refl longest
token_piece (t.Sign sign.Not) word rest h within longest = reserved_piece (t.Sign sign.Not) word rest h refl refl refl refl longest
token_piece (t.Sign sign.Least) word rest h within longest = reserved_piece (t.Sign sign.Least) word rest h refl refl refl refl longest
token_piece (t.Sign sign.Greatest) word rest h within longest = reserved_piece (t.Sign sign.Greatest) word rest h refl refl refl refl longest
token_piece (t.Sign sign.Each) word rest h within longest = reserved_piece (t.Sign sign.Each) word rest h refl refl refl refl longest
token_piece (t.Sign sign.In) word rest h within longest = reserved_piece (t.Sign sign.In) word rest h refl refl refl refl longest
token_piece (t.Sign sign.Less) word rest h within longest = rw h (less_piece rest (subst (λ w. IsLongest w rest) h longest))
token_piece (t.Sign sign.Greater) word rest h within longest = rw h (greater_piece rest (subst (λ w. IsLongest w rest) h longest))
token_piece (t.Sign sign.Equals) word rest h within longest = rw h (equals_piece rest (subst (λ w. IsLongest w rest) h longest))
token_piece u word rest h within longest = rw h refl

-- ---- the whole text

ends_stop : (rest : List ℕ) → EndsComment rest → Stops is_comment_byte rest
ends_stop [] h = tt
ends_stop (b ∷ rest) h = h

space_piece : (b : ℕ) (rest : List ℕ) → is_space b ≡ true → piece_at (b ∷ rest) ≡ Ok (None, rest)
unfolding piece_at
space_piece b rest h = rw h refl

comment_piece : (line rest : List ℕ) → list_all is_comment_byte line ≡ true → EndsComment rest → piece_at (35 ∷ (line ++ rest)) ≡ Ok (None, rest)
unfolding piece_at
comment_piece line rest all ends =
    let run : prefix_len is_comment_byte (line ++ rest) ≡ length line = prefix_run is_comment_byte line rest all (ends_stop rest ends) in
    rw (run, drop-append_seam line rest) refl

nothing_left : (n : ℕ) → tokens_from n [] ≡ Ok []
unfolding tokens_from
nothing_left zero = refl
nothing_left (suc n) = refl

step : (bytes behind : List ℕ) (found : Option Token) (placed : Placed) (n : ℕ) → piece_at bytes ≡ Ok (found, behind) → length behind < length bytes
    → ((m : ℕ) → length behind ≤ m → tokens_from m behind ≡ Ok placed) → length bytes ≤ n → tokens_from n bytes ≡ Ok (before found (length bytes) placed)
unfolding tokens_from
step [] behind found placed n is shorter next enough = absurd (omega (arith, shorter))
step (b ∷ bytes) behind found placed zero is shorter next enough = absurd (omega (arith, enough))
step (b ∷ bytes) behind found placed (suc n) is shorter next enough = let read : tokens_from n behind ≡ Ok placed = next n (omega (arith, shorter, enough)) in rw (is, read) refl

pub is_begun : (u : Token) (word : List ℕ) → Spells u word → 0 < length word
is_begun (t.Name x) [] h = absurd (true≢false (sym h.1.begins))
is_begun (t.Number n) [] h = absurd (true≢false (sym h.begins))
is_begun (t.Sign sign.Table) [] h = absurd (true≢false (ap (λ w. nat_eq (length w) 0) h))
is_begun u [] h = absurd (true≢false (ap (λ w. nat_eq (length w) 0) h))
is_begun u (b ∷ word) h = omega arith

pub behind_is_shorter : (word rest : List ℕ) → 0 < length word → length rest < length (word ++ rest)
behind_is_shorter word rest begun = rw (length-append word rest) (omega arith)

-- a piece is no empty one
pub piece_begun : (found : Option Token) (word rest : List ℕ) → IsPiece found word rest → 0 < length word
piece_begun _ _ _ (space b rest h) = omega arith
piece_begun _ _ _ (comment line rest all ends) = omega arith
piece_begun _ _ _ (token u word rest h within longest) = is_begun u word h

-- what stands at the front is a piece
pub piece_is : (found : Option Token) (word rest : List ℕ) → IsPiece found word rest → piece_at (word ++ rest) ≡ Ok (found, rest)
piece_is _ _ _ (space b rest h) = space_piece b rest h
piece_is _ _ _ (comment line rest all ends) = comment_piece line rest all ends
piece_is _ _ _ (token u word rest h within longest) = token_piece u word rest h within longest

tokens_from_cut : (bytes : List ℕ) (placed : Placed) → IsCut bytes placed → (n : ℕ) → length bytes ≤ n → tokens_from n bytes ≡ Ok placed
tokens_from_cut _ _ end n enough = nothing_left n
tokens_from_cut _ _ (another found word rest placed h cut) n enough =
    step (word ++ rest) rest found placed n (piece_is found word rest h) (behind_is_shorter word rest (piece_begun found word rest h)) (tokens_from_cut rest placed cut) enough

-- a text that is cut into tokens has these tokens
pub tokens_of_cut : (bytes : List ℕ) (placed : Placed) → IsCut bytes placed → tokens_of bytes ≡ Ok placed
tokens_of_cut bytes placed cut = tokens_from_cut bytes placed cut (length bytes) (omega arith)

-- a text has exactly the tokens that it is cut into
pub tokens_exactly : (bytes : List ℕ) (placed : Placed) → (tokens_of bytes ≡ Ok placed) ↔ IsCut bytes placed
tokens_exactly bytes placed = ((λ h. IfOk-at_ok (λ found. IsCut bytes found) h (cut_of_tokens bytes)), tokens_of_cut bytes placed)
