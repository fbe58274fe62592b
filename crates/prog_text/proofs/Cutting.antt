-- The tokens of a text, as far as they are cut.
use Rattle.std.proofs.Common.{◌≡◌, ℕ, zero, suc, ◌-◌, ◌<◌, ◌≤◌, List, [], ◌∷◌, ◌++◌, length, zip, Option, Some, None, Result, Ok, Err, refl, ap, sym, arith, append_assoc}
use Rattle.std.proofs.lemmas.List.{append-nil}
use Rattle.prog_text.specs.declared.lexing.token.Token.{Token}
use Rattle.prog_text.specs.Lexing.{Placed, Spot, before, ◌>>=◌, piece_at, tokens_from}

-- the piece at the front, and the tokens behind it
pub one_piece : (bytes : List ℕ) (n : ℕ) → 0 < length bytes → length bytes ≤ n → tokens_from n bytes ≡ (piece_at bytes >>= λ piece. tokens_from (n - 1) piece.1 >>= λ others. Ok (before piece.0 (length bytes) others))
unfolding tokens_from
one_piece [] n begins enough = absurd (omega (arith, begins))
one_piece (b ∷ rest) zero begins enough = absurd (omega (arith, enough))
one_piece (b ∷ rest) (suc n) begins enough = let e : suc n - 1 ≡ n = omega arith in rw e refl

-- the tokens that are done, and the others behind them
abbrev pub joined : Placed → Result Placed Spot → Result Placed Spot
joined done (Ok others) = Ok (done ++ others)
joined done (Err e) = Err e

joined_before : (done : Placed) (token : Option Token) (left : ℕ) (read : Result Placed Spot) → joined done (read >>= (λ others. Ok (before token left others))) ≡ joined (done ++ before token left []) read
joined_before done None left (Ok others) = ap (λ front. Ok (front ++ others)) (sym (append-nil done))
joined_before done (Some u) left (Ok others) = ap Ok (sym (append_assoc done ((u, left) ∷ []) others))
joined_before done token left (Err e) = refl

-- one piece further
pub joined_further : (done : Placed) (n : ℕ) (rest behind : List ℕ) (token : Option Token) → 0 < length rest → length rest ≤ n → piece_at rest ≡ Ok (token, behind) → joined done (tokens_from n rest) ≡ joined (done ++ before token (length rest) []) (tokens_from (n - 1) behind)
joined_further done n rest behind token begins enough is =
    rw (one_piece rest n begins enough, is) (joined_before done token _ (tokens_from (n - 1) behind))

-- two columns, one row longer
pub zip_push : {A B : Type 0} (xs : List A) (ys : List B) (x : A) (y : B) → length xs ≡ length ys → zip (xs ++ x ∷ []) (ys ++ y ∷ []) ≡ zip xs ys ++ (x, y) ∷ []
zip_push [] [] x y same = refl
zip_push [] (b ∷ ys) x y same = absurd (omega (arith, same))
zip_push (a ∷ xs) [] x y same = absurd (omega (arith, same))
zip_push (a ∷ xs) (b ∷ ys) x y same = ap (λ rows. (a, b) ∷ rows) (zip_push xs ys x y (omega (arith, same)))
