-- Reading looks no further than where it stops: of two lists that begin alike up to a token,
-- one is read as the other, or reading goes past that token.
use Rattle.std.proofs.Common.{◌≡◌, ℕ, zero, suc, ◌+◌, ◌≤◌, List, [], ◌∷◌, ◌++◌, length, ◌⊎◌, inl, inr, Bool, true, false, if◌then◌else◌, Some, None, Ok, Err, refl, ap, arith}
use Rattle.prog_text.specs.declared.lexing.token.Sign.{Sign}
use Rattle.prog_text.specs.declared.lexing.token.Token.{Token}
use Rattle.prog_text.specs.declared.lexing.token.Token.TheVariants as t
use Rattle.prog_text.specs.Reading.{Unexpected, Reading, ◌>>=◌, unexpected, same_sign, after_sign, behind_sign, many_from, separated_at}

-- the lists begin alike and are read up to the same place, before the last token that they share
pub record Same (shared : Token) (rest other a b : List Token) : Type 0 where
  pub front : List Token
  pub first : a ≡ front ++ shared ∷ rest
  pub second : b ≡ front ++ shared ∷ other

-- so it is, or reading has gone past that token
pub data Near (shared : Token) (rest other : List Token) (a b : List Token) : Type 0 where
  same : Same shared rest other a b → Near shared rest other a b
  over : length a ≤ length rest → Near shared rest other a b

module _ (shared : Token) (rest other : List Token) where
  abbrev pub IsPast : {A : Type 0} → Reading A → Type 0
  IsPast (Ok x) = length x.1 ≤ length rest
  IsPast (Err (Unexpected left)) = left ≤ length rest

pub data Alike {A : Type 0} (shared : Token) (rest other : List Token) (r s : Reading A) : Type 0 where
  both_read : (x : A) (a b : List Token) → Same shared rest other a b → r ≡ Ok (x, a) → s ≡ Ok (x, b) → Alike shared rest other r s
  both_stop : (a b : List Token) → Same shared rest other a b → r ≡ Err (Unexpected (length a)) → s ≡ Err (Unexpected (length b)) → Alike shared rest other r s
  past : IsPast shared rest other r → Alike shared rest other r s

module _ (shared : Token) (rest other : List Token) where
  abbrev pub AlikeFrom : {A : Type 0} {a b : List Token} → Near shared rest other a b → Reading A → Reading A → Type 0
  AlikeFrom (same w) r s = Alike shared rest other r s
  AlikeFrom (over h) r s = IsPast shared rest other r

-- a reader that looks no further than where it stops, whichever token the lists share and whatever follows it
pub record Local {A : Type 0} (p : List Token → Reading A) : Type 0 where
  pub alike : (shared : Token) (rest other a b : List Token) (w : Near shared rest other a b) → AlikeFrom shared rest other w (p a) (p b)

-- a reader is such a one where the token u comes first and it reads what follows as `p`
pub record LocalAt {A : Type 0} (u : Token) (p : List Token → Reading A) : Type 0 where
  pub alike : (shared : Token) (rest other a b : List Token) (w : Near shared rest other (u ∷ a) (u ∷ b)) → AlikeFrom shared rest other w (p a) (p b)

-- ---- one reading after another

module _ (shared : Token) (rest other : List Token) where
  past_then : {A B : Type 0} (r : Reading A) (f : A × List Token → Reading B) → IsPast shared rest other r → ((x : A) (a : List Token) → length a ≤ length rest → IsPast shared rest other (f (x, a))) → IsPast shared rest other (r >>= f)
  past_then (Ok x) f h k = k x.0 x.1 h
  past_then (Err (Unexpected left)) f h k = h

  then_alike : {A B : Type 0} {a b : List Token} (w : Near shared rest other a b) (r s : Reading A) (f : A × List Token → Reading B)
      → AlikeFrom shared rest other w r s
      → ((x : A) → Local (λ a. f (x, a)))
      → AlikeFrom shared rest other w (r >>= f) (s >>= f)
  then_alike (same w) r s f (both_read x a b v p q) k = rw (p, q) ((k x).alike shared rest other a b (same v))
  then_alike (same w) r s f (both_stop a b v p q) k = rw (p, q) (both_stop a b v refl refl)
  then_alike (same w) r s f (past h) k = past (past_then r f h (λ x a le. (k x).alike shared rest other a a (over le)))
  then_alike (over le) r s f h k = past_then r f h (λ x a le. (k x).alike shared rest other a a (over le))

pub then_local : {A B : Type 0} {p : List Token → Reading A} (f : A × List Token → Reading B) → Local p → ((x : A) → Local (λ ts. f (x, ts))) → Local (λ ts. p ts >>= f)
then_local {p = p} f h k = record { alike = λ shared rest other a b w. then_alike shared rest other w (p a) (p b) f (h.alike shared rest other a b w) k }

-- ---- ends of a reading

module _ (shared : Token) (rest other : List Token) where
  done_alike : {A : Type 0} (x : A) (a b : List Token) (w : Near shared rest other a b) → AlikeFrom shared rest other w (Ok (x, a)) (Ok (x, b))
  done_alike x a b (same v) = both_read x a b v refl refl
  done_alike x a b (over h) = h

  fault_alike : (A : Type 0) (a b : List Token) (w : Near shared rest other a b) → AlikeFrom shared rest other w (unexpected {A = A × List Token} a) (unexpected b)
  fault_alike A a b (same v) = both_stop a b v refl refl
  fault_alike A a b (over h) = h

pub done_local : {A : Type 0} (x : A) → Local (λ ts. Ok (x, ts))
done_local x = record { alike = λ shared rest other. done_alike shared rest other x }

pub fault_local : {A : Type 0} → Local {A = A} unexpected
fault_local {A = A} = record { alike = λ shared rest other. fault_alike shared rest other A }

-- ---- by the first token

module _ (shared : Token) (rest other : List Token) {A : Type 0} (p : List Token → Reading A) where
  token_near : (u : Token) (front a b : List Token) → u ∷ a ≡ front ++ shared ∷ rest → u ∷ b ≡ front ++ shared ∷ other → Local p → Alike shared rest other (p a) (p b)
  token_near u [] a b e f k = past (k.alike shared rest other a b (over (omega (arith, ap length e))))
  token_near u (y ∷ front) a b e f k =
      let first : a ≡ front ++ shared ∷ rest = cc in
      let second : b ≡ front ++ shared ∷ other = cc in
      k.alike shared rest other a b (same (record { front = front; first = first; second = second }))

  token_alike : (u : Token) (a b : List Token) (w : Near shared rest other (u ∷ a) (u ∷ b)) → Local p → AlikeFrom shared rest other w (p a) (p b)
  token_alike u a b (same v) k = token_near u v.front a b v.first v.second k
  token_alike u a b (over h) k = k.alike shared rest other a b (over (omega (arith, h)))

  first_near : (front a b : List Token) → a ≡ front ++ shared ∷ rest → b ≡ front ++ shared ∷ other → ((u : Token) → LocalAt u (λ ts. p (u ∷ ts))) → Alike shared rest other (p a) (p b)
  first_near [] a b e f k = rw (e, f) ((k shared).alike shared rest other rest other (same (record { front = []; first = refl; second = refl })))
  first_near (y ∷ front) a b e f k =
      rw (e, f) ((k y).alike shared rest other (front ++ shared ∷ rest) (front ++ shared ∷ other) (same (record { front = y ∷ front; first = refl; second = refl })))

  first_alike : IsPast shared rest other (p []) → ((u : Token) → LocalAt u (λ ts. p (u ∷ ts))) → (a b : List Token) (w : Near shared rest other a b) → AlikeFrom shared rest other w (p a) (p b)
  first_alike e k a b (same v) = first_near v.front a b v.first v.second k
  first_alike e k [] b (over h) = e
  first_alike e k (u ∷ a) b (over h) = (k u).alike shared rest other a a (over h)

-- the token is matched, and reading goes on behind it
pub matched : {A : Type 0} {u : Token} {p : List Token → Reading A} → Local p → LocalAt u p
matched {u = u} {p = p} h = record { alike = λ shared rest other a b w. token_alike shared rest other p u a b w h }

-- the token is left to another reader
pub left_to : {A : Type 0} {u : Token} (p : List Token → Reading A) → Local p → LocalAt u (λ ts. p (u ∷ ts))
left_to {u = u} p h = record { alike = λ shared rest other a b w. h.alike shared rest other (u ∷ a) (u ∷ b) w }

-- the token doesn't fit
pub unfit : {A : Type 0} {u : Token} → LocalAt {A = A} u (λ ts. unexpected (u ∷ ts))
unfit = left_to unexpected fault_local

-- a reader with a case for each first token
pub by_first : {A : Type 0} (p : List Token → Reading A) → ((shared : Token) (rest other : List Token) → IsPast shared rest other (p [])) → ((u : Token) → LocalAt u (λ ts. p (u ∷ ts))) → Local p
by_first p e k = record { alike = λ shared rest other. first_alike shared rest other p (e shared rest other) k }

-- ---- signs that may come next

-- the sign that is sought begins a list or doesn't, by its first token alone
abbrev IsSought : Sign → Token → Type 0
IsSought v u = ((ts : List Token) → after_sign v (u ∷ ts) ≡ Some ts) ⊎ ((ts : List Token) → after_sign v (u ∷ ts) ≡ None)

seek_if : (b : Bool) → ((ts : List Token) → (if b then Some ts else None) ≡ Some ts) ⊎ ((ts : List Token) → (if b then Some ts else None) ≡ None)
seek_if true = inl (λ ts. refl)
seek_if false = inr (λ ts. refl)

seek_sign : (v : Sign) (u : Token) → IsSought v u
seek_sign v (t.Sign w) = seek_if (same_sign w v)
seek_sign v u = inr (λ ts. refl)

sought_local : {A : Type 0} (v : Sign) (p q : List Token → Reading A) → Local p → Local q → (u : Token) → IsSought v u → LocalAt u (λ ts. behind_sign (after_sign v (u ∷ ts)) p (q (u ∷ ts)))
sought_local v p q h k u (inl takes) = record { alike = λ shared rest other a b w. rw (takes a, takes b) (token_alike shared rest other p u a b w h) }
sought_local v p q h k u (inr leaves) = record { alike = λ shared rest other a b w. rw (leaves a, leaves b) (k.alike shared rest other (u ∷ a) (u ∷ b) w) }

pub behind_sign_local : {A : Type 0} (v : Sign) (p q : List Token → Reading A) → Local p → Local q → Local (λ ts. behind_sign (after_sign v ts) p (q ts))
behind_sign_local v p q h k =
    by_first (λ ts. behind_sign (after_sign v ts) p (q ts)) (λ shared rest other. k.alike shared rest other [] [] (over (omega arith))) (λ u. sought_local v p q h k u (seek_sign v u))

-- ---- lists

many_local : {A : Type 0} (v : Sign) (read : List Token → Reading A) → Local read → (n : ℕ) (done : List A) → Local (many_from (after_sign v) read n done)
unfolding many_from
many_local v read h zero done = done_local done
many_local v read h (suc n) done =
    behind_sign_local v (λ ts. read ts >>= λ x. many_from (after_sign v) read n (done ++ x.0 ∷ []) x.1) (λ ts. Ok (done, ts)) (then_local _ h (λ x. many_local v read h n (done ++ x ∷ []))) (done_local done)

-- as many turns as there are tokens are taken, where enough turns are enough
pub turns_local : {A : Type 0} (read : ℕ → List Token → Reading A) → ((n m : ℕ) (ts : List Token) → length ts ≤ n → length ts ≤ m → read n ts ≡ read m ts)
    → ((n : ℕ) → Local (read n)) → Local (λ ts. read (length ts) ts)
turns_local read enough h = record {
  alike = λ shared rest other a b w.
      let n = length a + length b in
      let first : read (length a) a ≡ read n a = enough (length a) n a (omega arith) (omega arith) in
      let second : read (length b) b ≡ read n b = enough (length b) n b (omega arith) (omega arith) in
      rw (first, second) ((h n).alike shared rest other a b w);
}

-- items behind such a sign, where enough turns are enough
pub items_local : {A : Type 0} (v : Sign) (read : List Token → Reading A)
    → ((done : List A) (n m : ℕ) (ts : List Token) → length ts ≤ n → length ts ≤ m → many_from (after_sign v) read n done ts ≡ many_from (after_sign v) read m done ts)
    → Local read → (done : List A) → Local (λ ts. many_from (after_sign v) read (length ts) done ts)
items_local v read enough h done = turns_local (λ n. many_from (after_sign v) read n done) (enough done) (λ n. many_local v read h n done)

pub separated_local : {A : Type 0} (v : Sign) (read : List Token → Reading A)
    → ((done : List A) (n m : ℕ) (ts : List Token) → length ts ≤ n → length ts ≤ m → many_from (after_sign v) read n done ts ≡ many_from (after_sign v) read m done ts)
    → Local read → Local (separated_at (after_sign v) read)
unfolding separated_at
separated_local v read enough h = then_local _ h (λ x. items_local v read enough h (x ∷ []))
