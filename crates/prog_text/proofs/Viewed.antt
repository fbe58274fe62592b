-- Lists that are read item by item, of which a view is what is read.
use Rattle.std.proofs.Common.{◌≡◌, ℕ, zero, suc, ◌-◌, ◌<◌, List, [], ◌∷◌, ◌++◌, map, Option, Some, None, Ok, refl, arith}
use Rattle.std.proofs.lemmas.List.{map_push}
use Rattle.prog_text.specs.declared.lexing.token.Token.{Token}
use Rattle.prog_text.specs.Reading.{Reading, many_from}

-- one item further
pub one_further : {X A : Type 0} (view : X → A) (after : List Token → Option (List Token)) (read : List Token → Reading A) (n : ℕ) (done : List X) (x : X) (ts us rest : List Token)
    → 0 < n → after ts ≡ Some us → read us ≡ Ok (view x, rest) → many_from after read (n - 1) (map view (done ++ x ∷ [])) rest ≡ many_from after read n (map view done) ts
unfolding many_from
one_further view after read zero done x ts us rest some begins reads = absurd (omega arith)
one_further view after read (suc n) done x ts us rest some begins reads = let e : suc n - 1 ≡ n = omega arith in rw (e, begins, reads, map_push view done x) refl

-- no item further
pub none_further : {A : Type 0} (after : List Token → Option (List Token)) (read : List Token → Reading A) (n : ℕ) (done : List A) (ts : List Token) → after ts ≡ None → many_from after read n done ts ≡ Ok (done, ts)
unfolding many_from
none_further after read zero done ts none = refl
none_further after read (suc n) done ts none = rw none refl
