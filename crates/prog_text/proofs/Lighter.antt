-- Tokens that are nowhere deeper than others.
use Rattle.std.proofs.Common.{◌≡◌, ◌∙◌, ℕ, suc, ◌≤◌, nat_lt, List, [], ◌∷◌, ◌++◌, Bool, true, false, ◌||◌, if◌then◌else◌, Option, Some, None, option_map, refl, ap, arith}
use Rattle.std.proofs.lemmas.Bool.{ltb-false, le-ltb}
use Rattle.prog_text.specs.declared.lexing.token.Token.{Token}
use Rattle.prog_text.specs.declared.lexing.token.Sign.TheVariants as sign
use Rattle.prog_text.specs.declared.lexing.token.Token.TheVariants as t
use Rattle.prog_text.specs.Limits.{brackets_after, operators_after, too_deep_from, too_deep}

-- ---- brackets and operators

-- how many brackets are open or operators counted behind tokens, where there are n before them
abbrev pub behind_by : (after : Token → ℕ → ℕ) → ℕ → List Token → ℕ
behind_by after n [] = n
behind_by after n (u ∷ ts) = behind_by after (after u n) ts

-- no token is too deep, where so many brackets and operators stand before it
abbrev pub Fits : (brackets operators : ℕ) → List Token → Type 0
Fits brackets operators [] = Unit {0}
Fits brackets operators (u ∷ ts) = (brackets_after u brackets ≤ 16) × (operators_after u operators ≤ 32) × Fits (brackets_after u brackets) (operators_after u operators) ts

-- a first test, and the others
both_pass : (x y : Bool) (read : Option ℕ) → (if x || y then Some 0 else option_map suc read) ≡ None → (x ≡ false) × (y ≡ false) × (read ≡ None)
both_pass false false None h = (refl, refl, refl)
both_pass false false (Some n) h = cc
both_pass false true read h = cc
both_pass true y read h = cc

fits_of : (b o : ℕ) (ts : List Token) → too_deep_from b o ts ≡ None → Fits b o ts
fits_of b o [] h = tt
fits_of b o (u ∷ ts) h =
    let p : (nat_lt 16 (brackets_after u b) ≡ false) × (nat_lt 32 (operators_after u o) ≡ false) × (too_deep_from (brackets_after u b) (operators_after u o) ts ≡ None) = both_pass _ _ _ h in
    (ltb-false _ _ p.0, ltb-false _ _ p.1, fits_of (brackets_after u b) (operators_after u o) ts p.2)

none_deep : (b o : ℕ) (ts : List Token) → Fits b o ts → too_deep_from b o ts ≡ None
none_deep b o [] h = refl
none_deep b o (u ∷ ts) h = rw (le-ltb _ _ h.0, le-ltb _ _ h.1, none_deep (brackets_after u b) (operators_after u o) ts h.2) refl

behind_append : (after : Token → ℕ → ℕ) (n : ℕ) (ts us : List Token) → behind_by after n (ts ++ us) ≡ behind_by after (behind_by after n ts) us
behind_append after n [] us = refl
behind_append after n (u ∷ ts) us = behind_append after (after u n) ts us

fits_parts : (b o : ℕ) (ts us : List Token) → Fits b o (ts ++ us) → Fits b o ts × Fits (behind_by brackets_after b ts) (behind_by operators_after o ts) us
fits_parts b o [] us h = (tt, h)
fits_parts b o (u ∷ ts) us h = let others : Fits _ _ ts × Fits _ _ us = fits_parts (brackets_after u b) (operators_after u o) ts us h.2 in ((h.0, h.1, others.0), others.1)

fits_append : (b o : ℕ) (ts us : List Token) → Fits b o ts → Fits (behind_by brackets_after b ts) (behind_by operators_after o ts) us → Fits b o (ts ++ us)
fits_append b o [] us first second = second
fits_append b o (u ∷ ts) us first second = (first.0, first.1, fits_append (brackets_after u b) (operators_after u o) ts us first.2 second)

-- ---- fewer brackets and operators before a token, fewer behind it

brackets_rise : (u : Token) (m n : ℕ) → m ≤ n → brackets_after u m ≤ brackets_after u n
brackets_rise (t.Sign sign.Open) m n h = omega arith
brackets_rise u m n h = omega arith

operators_rise : (u : Token) (m n : ℕ) → m ≤ n → operators_after u m ≤ operators_after u n
operators_rise (t.Sign sign.Plus) m n h = omega arith
operators_rise u m n h = omega arith

-- the tokens are nowhere deeper than the others, and leave no more open, also where fewer stand before them
pub record Lighter (us ts : List Token) : Type 0 where
  pub fits : (m n j k : ℕ) → m ≤ n → j ≤ k → Fits n k ts → Fits m j us
  pub brackets : (m n : ℕ) → m ≤ n → behind_by brackets_after m us ≤ behind_by brackets_after n ts
  pub operators : (j k : ℕ) → j ≤ k → behind_by operators_after j us ≤ behind_by operators_after k ts

pub nothing_lighter : Lighter [] []
nothing_lighter = record { fits = λ m n j k a b h. tt; brackets = λ m n a. a; operators = λ j k a. a }

-- behind the same token
pub behind_lighter : (u : Token) {us ts : List Token} → Lighter us ts → Lighter (u ∷ us) (u ∷ ts)
behind_lighter u h = record {
  fits = λ m n j k a b fits.
      let fewer : brackets_after u m ≤ brackets_after u n = brackets_rise u m n a in
      let less : operators_after u j ≤ operators_after u k = operators_rise u j k b in
      (omega (arith, fits.0), omega (arith, fits.1), h.fits _ _ _ _ fewer less fits.2);
  brackets = λ m n a. h.brackets _ _ (brackets_rise u m n a);
  operators = λ j k a. h.operators _ _ (operators_rise u j k a);
}

pub same_lighter : (ts : List Token) → Lighter ts ts
same_lighter [] = nothing_lighter
same_lighter (u ∷ ts) = behind_lighter u (same_lighter ts)

pub lighter_trans : {us vs ts : List Token} → Lighter us vs → Lighter vs ts → Lighter us ts
lighter_trans first second = record {
  fits = λ m n j k a b h. first.fits m n j k a b (second.fits n n k k (omega arith) (omega arith) h);
  brackets = λ m n a. let x : _ ≤ _ = first.brackets m n a in let y : _ ≤ _ = second.brackets n n (omega arith) in omega (arith, x, y);
  operators = λ j k a. let x : _ ≤ _ = first.operators j k a in let y : _ ≤ _ = second.operators k k (omega arith) in omega (arith, x, y);
}

pub lighter_append : {us vs ts ws : List Token} → Lighter us ts → Lighter vs ws → Lighter (us ++ vs) (ts ++ ws)
lighter_append {us = us} {vs = vs} {ts = ts} {ws = ws} first second = record {
  fits = λ m n j k a b h.
      let both : Fits n k ts × Fits (behind_by brackets_after n ts) (behind_by operators_after k ts) ws = fits_parts n k ts ws h in
      fits_append m j us vs (first.fits m n j k a b both.0) (second.fits _ _ _ _ (first.brackets m n a) (first.operators j k b) both.1);
  brackets = λ m n a. rw (behind_append brackets_after m us vs, behind_append brackets_after n ts ws) (second.brackets _ _ (first.brackets m n a));
  operators = λ j k a. rw (behind_append operators_after j us vs, behind_append operators_after k ts ws) (second.operators _ _ (first.operators j k a));
}

-- with the same token between two parts
pub sides_lighter : (u : Token) {us vs ts ws : List Token} → Lighter us ts → Lighter vs ws → Lighter (us ++ u ∷ vs) (ts ++ u ∷ ws)
sides_lighter u first second = lighter_append first (behind_lighter u second)

-- before the same last token
pub ended_lighter : (u : Token) {us ts : List Token} → Lighter us ts → Lighter (us ++ u ∷ []) (ts ++ u ∷ [])
ended_lighter u h = sides_lighter u h nothing_lighter

-- ---- brackets that are left out

-- as many are open behind the tokens as before them
pub record Balanced (ts : List Token) : Type 0 where
  pub same : (n : ℕ) → behind_by brackets_after n ts ≡ n

pub balanced_append : {ts us : List Token} → Balanced ts → Balanced us → Balanced (ts ++ us)
balanced_append {ts = ts} {us = us} first second = record { same = λ n. behind_append brackets_after n ts us ∙ ap (λ m. behind_by brackets_after m us) (first.same n) ∙ second.same n }

pub balanced_brackets : (ts : List Token) → Balanced ts → Balanced (t.Sign sign.Open ∷ (ts ++ t.Sign sign.Close ∷ []))
balanced_brackets ts h = record { same = λ n. rw (behind_append brackets_after (suc n) ts (t.Sign sign.Close ∷ []), h.same (suc n)) (omega arith) }

pub bare_lighter : (ts : List Token) → Balanced ts → Lighter ts (t.Sign sign.Open ∷ (ts ++ t.Sign sign.Close ∷ []))
bare_lighter ts h = record {
  fits = λ m n j k a b fits. (same_lighter ts).fits m (suc n) j k (omega arith) b (fits_parts (suc n) k ts (t.Sign sign.Close ∷ []) fits.2).0;
  brackets = λ m n a. rw ((balanced_brackets ts h).same n, h.same m) a;
  operators = λ j k a. rw (behind_append operators_after k ts (t.Sign sign.Close ∷ [])) ((same_lighter ts).operators j k a);
}

-- tokens of which none is too deep
pub lighter_shallow : (us ts : List Token) → Lighter us ts → too_deep ts ≡ None → too_deep us ≡ None
lighter_shallow us ts h shallow = none_deep 0 0 us (h.fits 0 0 0 0 (omega arith) (omega arith) (fits_of 0 0 ts shallow))
