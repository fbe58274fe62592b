-- What a reading says: what was read is spelled so, and what stands before a fault can be completed.
use Rattle.std.proofs.Common.{◌≡◌, ℕ, zero, suc, ◌≤◌, List, [], ◌∷◌, ◌++◌, length, length-append, Option, Some, None, Ok, Err, refl, ap, sym, ◌∙◌, subst, append_assoc, arith}
use Rattle.std.proofs.lemmas.List.{append-nil}
use Rattle.prog_text.specs.declared.lexing.token.Token.{Token}
use Rattle.prog_text.specs.Reading.{Unexpected, Reading, ◌>>=◌, behind_sign, many_from}

-- a kind of phrase: which tokens stand for which value
abbrev pub Phrase : Type 0 → Type 1
Phrase A = List Token → A → Type 0

-- the phrase that is left where its front was read
abbrev pub behind : {A : Type 0} → List Token → Phrase A → Phrase A
behind front D = λ us x. D (front ++ us) x

pub record Found {A : Type 0} (D : Phrase A) (ts : List Token) (x : A) (rest : List Token) : Type 0 where
  pub front : List Token
  pub parts : ts ≡ front ++ rest
  pub phrase : D front x

-- what stands before the fault can be completed
pub record Viable {A : Type 0} (D : Phrase A) (ts : List Token) (left : ℕ) : Type 0 where
  pub front : List Token
  pub rest : List Token
  pub more : List Token
  pub value : A
  pub parts : ts ≡ front ++ rest
  pub place : length rest ≡ left
  pub phrase : D (front ++ more) value

abbrev pub Sound : {A : Type 0} → Phrase A → List Token → Reading A → Type 0
Sound D ts (Ok x) = Found D ts x.0 x.1
Sound D ts (Err (Unexpected left)) = Viable D ts left

-- ---- one reading after another

-- behind a front that was read
pub moved : {A : Type 0} (D : Phrase A) (front ts rest : List Token) (r : Reading A) → ts ≡ front ++ rest → Sound (behind front D) rest r → Sound D ts r
moved D front ts rest (Ok x) e h = record {
  front = front ++ h.front;
  parts = e ∙ ap (λ us. front ++ us) h.parts ∙ sym (append_assoc front h.front x.1);
  phrase = h.phrase;
}
moved D front ts rest (Err (Unexpected left)) e h = record {
  front = front ++ h.front;
  rest = h.rest;
  more = h.more;
  value = h.value;
  parts = e ∙ ap (λ us. front ++ us) h.parts ∙ sym (append_assoc front h.front h.rest);
  place = h.place;
  phrase = subst (λ (us : List Token). D us h.value) (sym (append_assoc front h.front h.more)) h.phrase;
}

-- what is read at no tokens completes what stands before
completed : {A : Type 0} (D : Phrase A) (front : List Token) (r : Reading A) → Sound (behind front D) [] r → (more : List Token) × (x : A) × D (front ++ more) x
completed D front (Ok x) h = (h.front, x.0, h.phrase)
completed D front (Err (Unexpected left)) h = (h.front ++ h.more, h.value, h.phrase)

pub then_sound : {A B : Type 0} (D : Phrase A) (E : Phrase B) (ts : List Token) (r : Reading A) (f : A × List Token → Reading B)
    → Sound D ts r
    → ((front rest : List Token) (x : A) → D front x → Sound (behind front E) rest (f (x, rest)))
    → Sound E ts (r >>= f)
then_sound D E ts (Ok x) f h k = moved E h.front ts x.1 (f x) h.parts (k h.front x.1 x.0 h.phrase)
then_sound {B = B} D E ts (Err (Unexpected left)) f h k =
    let c : (more : List Token) × (y : B) × E ((h.front ++ h.more) ++ more) y = completed E (h.front ++ h.more) (f (h.value, [])) (k (h.front ++ h.more) [] h.value h.phrase) in
    record {
      front = h.front;
      rest = h.rest;
      more = h.more ++ c.0;
      value = c.1;
      parts = h.parts;
      place = h.place;
      phrase = subst (λ (us : List Token). E us c.1) (append_assoc h.front h.more c.0) c.2;
    }

-- ---- single tokens

-- a token that was matched, and a reading behind it
pub token_sound : {A : Type 0} (E : Phrase A) (u : Token) (ts : List Token) (r : Reading A) → Sound (behind (u ∷ []) E) ts r → Sound E (u ∷ ts) r
token_sound E u ts r h = moved E (u ∷ []) (u ∷ ts) ts r refl h

-- a reading of one token, which the value determines
abbrev pub IsOne : {A : Type 0} → (A → Token) → List Token → Reading A → Type 0
IsOne token ts (Ok x) = ts ≡ token x.0 ∷ x.1
IsOne token ts (Err (Unexpected left)) = left ≡ length ts

-- one token, of which there is some, and a reading behind it
pub one_sound : {A B : Type 0} (E : Phrase B) (token : A → Token) (some : A) (ts : List Token) (r : Reading A) (f : A × List Token → Reading B)
    → IsOne token ts r
    → ((rest : List Token) (x : A) → Sound (behind (token x ∷ []) E) rest (f (x, rest)))
    → Sound E ts (r >>= f)
one_sound E token some ts (Ok x) f h k = moved E (token x.0 ∷ []) ts x.1 (f x) h (k x.1 x.0)
one_sound {B = B} E token some ts (Err (Unexpected left)) f h k =
    let c : (more : List Token) × (y : B) × E (token some ∷ more) y = completed E (token some ∷ []) (f (some, [])) (k [] some) in
    record { front = []; rest = ts; more = token some ∷ c.0; value = c.1; parts = refl; place = sym h; phrase = c.2 }

-- ---- ends of a reading

-- nothing more is read
pub done_sound : {A : Type 0} (E : Phrase A) (x : A) (ts : List Token) → E [] x → Sound E ts (Ok (x, ts))
done_sound E x ts h = record { front = []; parts = refl; phrase = h }

-- the first token doesn't fit, where the phrase may be these tokens
pub fault_sound : {A : Type 0} (E : Phrase A) (ts more : List Token) (x : A) → E more x → Sound E ts (Err (Unexpected (length ts)))
fault_sound E ts more x h = record { front = []; rest = ts; more = more; value = x; parts = refl; place = refl; phrase = h }

-- a weaker phrase
pub sound_map : {A : Type 0} (D E : Phrase A) (ts : List Token) (r : Reading A) → ((us : List Token) (x : A) → D us x → E us x) → Sound D ts r → Sound E ts r
sound_map D E ts (Ok x) k h = record { front = h.front; parts = h.parts; phrase = k h.front x.0 h.phrase }
sound_map D E ts (Err (Unexpected left)) k h =
    record { front = h.front; rest = h.rest; more = h.more; value = h.value; parts = h.parts; place = h.place; phrase = k (h.front ++ h.more) h.value h.phrase }

-- a reading whose value is built into another
pub mapped_sound : {A B : Type 0} (D : Phrase A) (E : Phrase B) (ts : List Token) (r : Reading A) (g : A → B)
    → ((us : List Token) (x : A) → D us x → E us (g x))
    → Sound D ts r
    → Sound E ts (r >>= λ x. Ok (g x.0, x.1))
mapped_sound D E ts (Ok x) g k h = record { front = h.front; parts = h.parts; phrase = k h.front x.0 h.phrase }
mapped_sound D E ts (Err (Unexpected left)) g k h =
    record { front = h.front; rest = h.rest; more = h.more; value = g h.value; parts = h.parts; place = h.place; phrase = k (h.front ++ h.more) h.value h.phrase }

-- ---- signs that may come next

-- these are the tokens behind the sign, where it is found
abbrev pub IsBehind : Token → List Token → Option (List Token) → Type 0
IsBehind u ts (Some us) = ts ≡ u ∷ us
IsBehind u ts None = Unit {0}

pub behind_sign_sound : {A : Type 0} (E : Phrase A) (u : Token) (ts : List Token) (o : Option (List Token)) (read : List Token → Reading A) (other : Reading A)
    → IsBehind u ts o
    → ((us : List Token) → Sound (behind (u ∷ []) E) us (read us))
    → Sound E ts other
    → Sound E ts (behind_sign o read other)
behind_sign_sound E u ts (Some us) read other e h k = moved E (u ∷ []) ts us (read us) e (h us)
behind_sign_sound E u ts None read other e h k = k

-- what follows a phrase for `done`, so that all is one phrase
abbrev pub IsMore : {A : Type 0} → Phrase A → A → Phrase A
IsMore W done us x = (ts : List Token) → W ts done → W (ts ++ us) x

-- nothing follows
pub more_ends : {A : Type 0} (W : Phrase A) (done : A) (ts : List Token) → Sound (IsMore W done) ts (Ok (done, ts))
more_ends W done ts = done_sound (IsMore W done) done ts (λ us w. subst (λ (vs : List Token). W vs done) (sym (append-nil us)) w)

-- an item follows behind the token u, and more behind it
pub more_follows : {A B : Type 0} (W : Phrase A) (Item : Phrase B) (u : Token) (done : A) (f : B → A) (us : List Token) (r : Reading B) (from : A → List Token → Reading A)
    → ((ts us : List Token) (x : B) → W ts done → Item us x → W (ts ++ u ∷ us) (f x))
    → Sound Item us r
    → ((x : B) (rest : List Token) → Sound (IsMore W (f x)) rest (from (f x) rest))
    → Sound (behind (u ∷ []) (IsMore W done)) us (r >>= λ x. from (f x.0) x.1)
more_follows W Item u done f us r from push item others =
    then_sound Item (behind (u ∷ []) (IsMore W done)) us r (λ x. from (f x.0) x.1) item
    (λ front rest x d. sound_map (IsMore W (f x)) (behind front (behind (u ∷ []) (IsMore W done))) rest (from (f x) rest)
    (λ vs y goes_on ts w. subst (λ (ws : List Token). W ws y) (append_assoc ts (u ∷ front) vs) (goes_on (ts ++ u ∷ front) (push ts front x w d)))
    (others x rest))

-- Items that each stand behind a sign, where the list may go on with one.
pub many_sound : {A : Type 0} (W : Phrase (List A)) (Item : Phrase A) (u : Token) (after : List Token → Option (List Token)) (read : List Token → Reading A)
    → ((ts us : List Token) (xs : List A) (x : A) → W ts xs → Item us x → W (ts ++ us) (xs ++ x ∷ []))
    → ((ts : List Token) → IsBehind u ts (after ts))
    → ((us : List Token) → Sound (behind (u ∷ []) Item) us (read us))
    → (n : ℕ) (done : List A) (ts : List Token) → Sound (IsMore W done) ts (many_from after read n done ts)
unfolding many_from
many_sound W Item u after read push finds item zero done ts = more_ends W done ts
many_sound W Item u after read push finds item (suc n) done ts =
    behind_sign_sound (IsMore W done) u ts (after ts) (λ us. read us >>= λ x. many_from after read n (done ++ x.0 ∷ []) x.1) (Ok (done, ts)) (finds ts)
    (λ us. more_follows W (behind (u ∷ []) Item) u done (λ x. done ++ x ∷ []) us (read us) (many_from after read n) (λ ts us x w d. push ts (u ∷ us) done x w d) (item us)
    (λ x rest. many_sound W Item u after read push finds item n (done ++ x ∷ []) rest))
    (more_ends W done ts)

-- ---- lengths

-- no more is left than there was
abbrev pub IsShorter : {A : Type 0} → List Token → Reading A → Type 0
IsShorter ts (Ok x) = length x.1 ≤ length ts
IsShorter ts (Err e) = Unit {0}

pub sound_shorter : {A : Type 0} (D : Phrase A) (ts : List Token) (r : Reading A) → Sound D ts r → IsShorter ts r
sound_shorter D ts (Ok x) h = omega (arith, ap length h.parts, length-append h.front x.1)
sound_shorter D ts (Err e) h = tt
