-- Texts that are refused for a flaw, for a token that is too deep, and for their length.
use Rattle.std.proofs.Common.{◌≡◌, ℕ, ◌+◌, ◌<◌, ◌≤◌, List, [], ◌∷◌, ◌++◌, length, Result, Ok, Err, refl, sym, ap, subst, ◌∙◌, codes, replicate, arith}
use Rattle.std.proofs.lemmas.List.{length-replicate}
use Rattle.prog_text.specs.declared.fault.TextFault.TheVariants as f
use Rattle.prog_text.specs.declared.lexing.lex_error.Flaw.{Flaw}
use Rattle.prog_text.specs.declared.lexing.lex_error.Flaw.TheVariants.{NotAscii, UnknownByte, NumberOutOfRange, NameTooLong}
use Rattle.prog_text.specs.Answer.{IsFlawed, Refuses}
use Rattle.prog_text.specs.Limits.{text_limit}
use Rattle.prog_text.specs.Cut.{IsFirstFlaw}
use Rattle.prog_text.specs.Lexing.{Placed, Spot, tokens_of, tokens_from, piece_at, word_at, number_at, sign_at}
use Rattle.prog_text.proofs.Flaws.{flaws_exactly}
use Rattle.prog_text.proofs.Examples.{cut_of, has_tokens}

-- ---- flaws

flawed : (bytes : List ℕ) (flaw : Flaw) (left : ℕ) → length bytes ≤ text_limit → tokens_of bytes ≡ Err (flaw, left) → (place : ℕ) → length bytes ≡ place + left → IsFlawed bytes flaw place
flawed bytes flaw left short is place parts =
    let found = (flaws_exactly bytes flaw left).0 is in
    (short, subst (IsFirstFlaw bytes flaw) (omega (arith, found.2, parts)) found.1)

past_ascii : Refuses (codes "let " ++ 195 ∷ 169 ∷ []) (f.NotAscii 4)
unfolding tokens_from piece_at word_at number_at sign_at
past_ascii = flawed (codes "let " ++ 195 ∷ 169 ∷ []) NotAscii 2 (omega arith) refl 4 refl

-- no comment goes on with such a byte
past_ascii_in_a_comment : Refuses (35 ∷ 65 ∷ 200 ∷ []) (f.NotAscii 2)
unfolding tokens_from piece_at word_at number_at sign_at
past_ascii_in_a_comment = flawed (35 ∷ 65 ∷ 200 ∷ []) NotAscii 1 (omega arith) refl 2 refl

unknown_sign : Refuses (codes "table t 1; @") (f.UnknownByte 11)
unfolding tokens_from piece_at word_at number_at sign_at
unknown_sign = flawed (codes "table t 1; @") UnknownByte 1 (omega arith) refl 11 refl

lone_dot : Refuses (codes "a . b") (f.UnknownByte 2)
unfolding tokens_from piece_at word_at number_at sign_at
lone_dot = flawed (codes "a . b") UnknownByte 3 (omega arith) refl 2 refl

too_large : Refuses (codes "a 9223372036854775808") (f.NumberOutOfRange 2)
unfolding tokens_from piece_at word_at number_at sign_at
too_large = flawed (codes "a 9223372036854775808") NumberOutOfRange 19 (omega arith) refl 2 refl

too_long_name : Refuses (codes "put " ++ replicate 33 97) (f.NameTooLong 4)
unfolding tokens_from piece_at word_at number_at sign_at
too_long_name = flawed (codes "put " ++ replicate 33 97) NameTooLong 33 (omega arith) refl 4 refl

abbrev flaw_of : Result Placed Spot → Flaw
flaw_of (Ok placed) = UnknownByte
flaw_of (Err spot) = spot.0

same_flaw : (bytes : List ℕ) (flaw other : Flaw) (left more : ℕ) → tokens_of bytes ≡ Err (flaw, left) → tokens_of bytes ≡ Err (other, more) → flaw ≡ other
same_flaw bytes flaw other left more h k = ap flaw_of (sym h ∙ k)

apart : UnknownByte ≡ NumberOutOfRange → ⊥
apart e = absurd (cc e)

-- a flaw behind an earlier one is no refusal
only_the_first : Refuses (codes "9223372036854775808 ?") (f.UnknownByte 20) → ⊥
unfolding tokens_from piece_at word_at number_at sign_at
only_the_first h =
    apart (same_flaw (codes "9223372036854775808 ?") UnknownByte NumberOutOfRange 1 21 ((flaws_exactly _ UnknownByte 1).1 (20, h.1, refl)) refl)

-- ---- depth

seventeen_brackets : Refuses (replicate 17 40) (f.TooDeep 16)
unfolding tokens_from piece_at word_at number_at sign_at
seventeen_brackets = (cut_of (replicate 17 40), 16, has_tokens (replicate 17 40) (cut_of (replicate 17 40)) (omega arith) refl, refl, refl)

thirty_three_operators : Refuses (replicate 33 43) (f.TooDeep 32)
unfolding tokens_from piece_at word_at number_at sign_at
thirty_three_operators = (cut_of (replicate 33 43), 32, has_tokens (replicate 33 43) (cut_of (replicate 33 43)) (omega arith) refl, refl, refl)

-- ---- length

too_many_bytes : (n : ℕ) → text_limit < n → Refuses (replicate n 32) (f.TooLong text_limit)
too_many_bytes n long = (rw (length-replicate {A = ℕ} n 32) long, refl)

one_byte_too_many : Refuses (replicate (text_limit + 1) 32) (f.TooLong 1048576)
one_byte_too_many = too_many_bytes (text_limit + 1) (omega arith)
