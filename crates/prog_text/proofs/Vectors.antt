-- Short texts and their tokens, and token lists at the limits.
use Rattle.std.proofs.Common.{◌≡◌, [], ◌∷◌, ◌++◌, Some, None, Ok, refl, codes, replicate}
use Rattle.prog_text.specs.declared.lexing.token.Sign.TheVariants as sign
use Rattle.prog_text.specs.declared.lexing.token.Token.TheVariants as t
use Rattle.prog_text.specs.Lexing.{tokens_of, tokens_from, piece_at, word_at, number_at, sign_at}
use Rattle.prog_text.specs.Limits.{too_deep}

cut : tokens_of (codes "let x<=07 # a\nin..") ≡ Ok ((t.Sign sign.Let, 18) ∷ (t.Name (codes "x"), 14) ∷ (t.Sign sign.LessEqual, 13) ∷ (t.Number 7, 11) ∷ (t.Sign sign.In, 4) ∷ (t.Sign sign.Dots, 2) ∷ [])
unfolding tokens_from piece_at word_at number_at sign_at
cut = refl

greatest : tokens_of (codes "9223372036854775807") ≡ Ok ((t.Number 9223372036854775807, 19) ∷ [])
unfolding tokens_from piece_at word_at number_at sign_at
greatest = refl

long_enough : tokens_of (replicate 32 97) ≡ Ok ((t.Name (replicate 32 97), 32) ∷ [])
unfolding tokens_from piece_at word_at number_at sign_at
long_enough = refl

sixteen_open : too_deep (replicate 16 (t.Sign sign.Open)) ≡ None
sixteen_open = refl

thirty_two : too_deep (replicate 32 (t.Sign sign.Plus)) ≡ None
thirty_two = refl

thirty_three : too_deep (replicate 32 (t.Sign sign.Plus) ++ t.Sign sign.Semicolon ∷ replicate 33 (t.Sign sign.Minus)) ≡ Some 65
thirty_three = refl
