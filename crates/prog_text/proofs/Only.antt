-- What is spelled so is read so: how readings are put together.
use Rattle.std.proofs.Common.{◌≡◌, ℕ, zero, suc, ◌≤◌, List, [], ◌∷◌, ◌++◌, length, length-append, Option, Some, None, Ok, Err, refl, ap, sym, ◌∙◌, subst, append_assoc, arith}
use Rattle.std.proofs.lemmas.List.{append-nil}
use Rattle.prog_text.specs.declared.lexing.token.Token.{Token}
use Rattle.prog_text.specs.Grammar.{Many, Led, led, Separated, separated}
use Rattle.prog_text.specs.Grammar as g
use Rattle.prog_text.specs.Reading.{Unexpected, Reading, ◌>>=◌, many_from, separated_at}
use Rattle.prog_text.proofs.Sound.{Phrase}

-- it is read so
abbrev pub Reads : {A : Type 0} → A × List Token → Reading A → Type 0
Reads y (Ok x) = x ≡ y
Reads y (Err (Unexpected left)) = ⊥

-- ---- one reading after another

pub then_reads : {A B : Type 0} (x : A × List Token) (y : B × List Token) (r : Reading A) (f : A × List Token → Reading B) → Reads x r → Reads y (f x) → Reads y (r >>= f)
then_reads {A = A} x y (Ok z) f h k = subst (λ (w : A × List Token). Reads y (f w)) (sym h) k
then_reads x y (Err (Unexpected left)) f h k = absurd h

-- a reading whose value is built into another
pub mapped_reads : {A B : Type 0} (x : A) (rest : List Token) (r : Reading A) (g : A → B) → Reads (x, rest) r → Reads (g x, rest) (r >>= λ x. Ok (g x.0, x.1))
mapped_reads x rest r g h = then_reads (x, rest) (g x, rest) r (λ x. Ok (g x.0, x.1)) h refl

-- the same tokens, grouped otherwise
pub regrouped : {A : Type 0} (y : A × List Token) (read : List Token → Reading A) (a b c : List Token) → Reads y (read (a ++ (b ++ c))) → Reads y (read ((a ++ b) ++ c))
regrouped y read a b c h = subst (λ (ts : List Token). Reads y (read ts)) (sym (append_assoc a b c)) h

-- ---- lists

-- a phrase that begins with the token u and is read behind it, where what follows ends it
pub record IsReadBehind {A : Type 0} (u : Token) (Ends : List Token → Type 0) (read : List Token → Reading A) (ts : List Token) (x : A) : Type 0 where
  pub others : List Token
  pub parts : ts ≡ u ∷ others
  pub reads : (rest : List Token) → Ends rest → Reads (x, rest) (read (others ++ rest))

many_ends : {A : Type 0} (after : List Token → Option (List Token)) (read : List Token → Reading A) (n : ℕ) (done : List A) (rest : List Token) → after rest ≡ None → Reads (done, rest) (many_from after read n done rest)
unfolding many_from
many_ends after read zero done rest e = refl
many_ends after read (suc n) done rest e = rw e refl

many_further : {A : Type 0} (after : List Token → Option (List Token)) (read : List Token → Reading A) (n : ℕ) (done : List A) (x : A) (ts us rest : List Token) (y : List A × List Token)
    → after ts ≡ Some us → Reads (x, rest) (read us) → Reads y (many_from after read n (done ++ x ∷ []) rest) → Reads y (many_from after read (suc n) done ts)
unfolding many_from
many_further after read n done x ts us rest y e h k = rw e (then_reads (x, rest) y (read us) (λ x. many_from after read n (done ++ x.0 ∷ []) x.1) h k)

module _ {A : Type 0} (P : Phrase A) (u : Token) (Ends : List Token → Type 0) (after : List Token → Option (List Token)) (read : List Token → Reading A)
    (takes : (ts : List Token) → after (u ∷ ts) ≡ Some ts) (ends : (ts : List Token) → Ends (u ∷ ts)) (item : (ts : List Token) (x : A) → P ts x → IsReadBehind u Ends read ts x) where
  -- an item ends before others, and before what ends them
  many_follows : (ts : List Token) (xs : List A) → Many P ts xs → (rest : List Token) → Ends rest → Ends (ts ++ rest)
  many_follows _ _ g.Many.none rest stop = stop
  many_follows _ _ (g.Many.more ts us x xs p m) rest stop =
      let r = item ts x p in
      subst Ends (sym (append_assoc ts us rest ∙ ap (λ vs. vs ++ (us ++ rest)) r.parts)) (ends (r.others ++ (us ++ rest)))

  -- Items that each begin with the token u, where no such token follows.
  pub many_only : (ts : List Token) (xs : List A) → Many P ts xs → (n : ℕ) (done : List A) (rest : List Token) → Ends rest → after rest ≡ None → length ts ≤ n → Reads (done ++ xs, rest) (many_from after read n done (ts ++ rest))
  many_only _ _ g.Many.none n done rest stop stops enough =
      subst (λ (xs : List A). Reads (xs, rest) (many_from after read n done rest)) (sym (append-nil done)) (many_ends after read n done rest stops)
  many_only _ _ (g.Many.more ts us x xs p m) zero done rest stop stops enough =
      let r = item ts x p in
      absurd (omega (arith, length-append ts us, ap length r.parts, enough))
  many_only _ _ (g.Many.more ts us x xs p m) (suc n) done rest stop stops enough =
      let r = item ts x p in
      let short : length us ≤ n = omega (arith, length-append ts us, ap length r.parts, enough) in
      let begins : after ((ts ++ us) ++ rest) ≡ Some (r.others ++ (us ++ rest)) = ap after (ap (λ vs. (vs ++ us) ++ rest) r.parts ∙ ap (λ vs. u ∷ vs) (append_assoc r.others us rest)) ∙ takes (r.others ++ (us ++ rest)) in
      let others : Reads ((done ++ x ∷ []) ++ xs, rest) (many_from after read n (done ++ x ∷ []) (us ++ rest)) = many_only us xs m n (done ++ x ∷ []) rest stop stops short in
      many_further after read n done x ((ts ++ us) ++ rest) (r.others ++ (us ++ rest)) (us ++ rest) (done ++ x ∷ xs, rest) begins (r.reads (us ++ rest) (many_follows us xs m rest stop))
      (subst (λ (ys : List A). Reads (ys, rest) (many_from after read n (done ++ x ∷ []) (us ++ rest))) (append_assoc done (x ∷ []) xs) others)

-- Items with the token u between them, where what follows ends an item and is no such token.
module _ {A : Type 0} (P : Phrase A) (u : Token) (Ends : List Token → Type 0) (after : List Token → Option (List Token)) (read : List Token → Reading A)
    (takes : (ts : List Token) → after (u ∷ ts) ≡ Some ts) (ends : (ts : List Token) → Ends (u ∷ ts)) (item : (ts : List Token) (x : A) → P ts x → (rest : List Token) → Ends rest → Reads (x, rest) (read (ts ++ rest))) where
  led_item : (ts : List Token) (x : A) → Led u P ts x → IsReadBehind u Ends read ts x
  led_item _ _ (led ts x p) = record { others = ts; parts = refl; reads = item ts x p }

  pub separated_only : (ts : List Token) (xs : List A) → Separated u P ts xs → (rest : List Token) → Ends rest → after rest ≡ None → Reads (xs, rest) (separated_at after read (ts ++ rest))
  unfolding separated_at
  separated_only _ _ (separated ts us x xs p m) rest stop stops =
      let behind : List Token = us ++ rest in
      regrouped (x ∷ xs, rest) (separated_at after read) ts us rest
      (then_reads (x, behind) (x ∷ xs, rest) (read (ts ++ behind)) (λ first. many_from after read (length first.1) (first.0 ∷ []) first.1)
      (item ts x p behind (many_follows (Led u P) u Ends after read takes ends led_item us xs m rest stop))
      (many_only (Led u P) u Ends after read takes ends led_item us xs m (length behind) (x ∷ []) rest stop stops (omega (arith, length-append us rest))))
