-- Parts of lists, and what parts of lists of accesses ask.
use Rattle.std.proofs.Common.{◌⊎◌, inl, inr, Bool, true, false, List, [], ◌∷◌, ◌++◌, refl, sym, subst, ap}
use Rattle.std.specs.Prelude.{if◌then◌else◌, Contains}
use Rattle.std.proofs.lemmas.List.Elements.{Contains-append_left, Contains-append_right, Contains-append_cases}
use Rattle.prog_paths.specs.declared.accesses.places.Placed.{Placed}
use Rattle.prog_paths.specs.declared.accesses.questions.Question.{Question}
use Rattle.prog_paths.specs.Questions.{asks, question_between, asked_by, asked_among}
use Rattle.si_repair.specs.Exposed.{IsPart}

pub part-none : {A : Type 0} (xs : List A) → IsPart xs []
part-none [] = refl
part-none (x ∷ xs) = inl (part-none xs)

pub part-whole : {A : Type 0} (xs : List A) → IsPart xs xs
part-whole [] = refl
part-whole (x ∷ xs) = inr (xs, refl, part-whole xs)

pub part-append : {A : Type 0} (xs ys ps qs : List A) → IsPart xs ps → IsPart ys qs → IsPart (xs ++ ys) (ps ++ qs)
part-append {A = A} [] ys ps qs h k = subst (λ (l : List A). IsPart ys (l ++ qs)) (sym h) k
part-append (x ∷ xs) ys ps qs (inl h) k = inl (part-append xs ys ps qs h k)
part-append {A = A} (x ∷ xs) ys ps qs (inr (tail, e, h)) k = inr (tail ++ qs, ap (λ (l : List A). l ++ qs) e, part-append xs ys tail qs h k)

pub part-contains : {A : Type 0} (xs ps : List A) (p : A) → IsPart xs ps → Contains ps p → Contains xs p
part-contains {A = A} [] ps p h c = subst (λ (l : List A). Contains l p) h c
part-contains (x ∷ xs) ps p (inl h) c = Contains-append_right (x ∷ []) xs p (part-contains xs ps p h c)
part-contains {A = A} (x ∷ xs) ps p (inr (tail, e, h)) c = go (Contains-append_cases (x ∷ []) tail p (subst (λ (l : List A). Contains l p) e c)) (λ i. part-contains xs tail p h i)
  where
    go : Contains (x ∷ []) p ⊎ Contains tail p → (Contains tail p → Contains xs p) → Contains (x ∷ xs) p
    go (inl i) later = Contains-append_left (x ∷ []) xs p i
    go (inr i) later = Contains-append_right (x ∷ []) xs p (later i)

pub part-trans : {A : Type 0} (xs ys zs : List A) → IsPart xs ys → IsPart ys zs → IsPart xs zs
part-trans {A = A} [] ys zs h k = subst (λ (l : List A). IsPart l zs) h k
part-trans (x ∷ xs) ys zs (inl h) k = inl (part-trans xs ys zs h k)
part-trans {A = A} (x ∷ xs) ys zs (inr (tail, e, h)) k = go (subst (λ (l : List A). IsPart l zs) e k) (λ part m. part-trans xs tail part h m)
  where
    go : IsPart (x ∷ tail) zs → ((part : List A) → IsPart tail part → IsPart xs part) → IsPart (x ∷ xs) zs
    go (inl m) later = inl (later zs m)
    go (inr (rest, f, m)) later = inr (rest, f, later rest m)

-- ---- questions

skipped : (b : Bool) (q : Question) (whole part : List Question) → IsPart whole part → IsPart (if b then q ∷ whole else whole) part
skipped true q whole part h = inl h
skipped false q whole part h = h

taken : (b : Bool) (q : Question) (whole part : List Question) → IsPart whole part → IsPart (if b then q ∷ whole else whole) (if b then q ∷ part else part)
taken true q whole part h = inr (part, refl, h)
taken false q whole part h = h

-- an access asks of some a part of what it asks of all
pub part-by : (first : Placed) (ys zs : List Placed) → IsPart ys zs → IsPart (asked_by first ys) (asked_by first zs)
part-by first [] zs h = subst (λ (l : List Placed). IsPart [] (asked_by first l)) (sym h) refl
part-by first (y ∷ ys) zs (inl h) = skipped (asks first y) (question_between first y) (asked_by first ys) (asked_by first zs) (part-by first ys zs h)
part-by first (y ∷ ys) zs (inr (tail, e, h)) =
    subst (λ (l : List Placed). IsPart (asked_by first (y ∷ ys)) (asked_by first l)) (sym e)
    (taken (asks first y) (question_between first y) (asked_by first ys) (asked_by first tail) (part-by first ys tail h))

part-seconds : (xs ys zs : List Placed) → IsPart ys zs → IsPart (asked_among xs ys) (asked_among xs zs)
part-seconds [] ys zs h = refl
part-seconds (x ∷ xs) ys zs h =
    part-append (asked_by x ys) (asked_among xs ys) (asked_by x zs) (asked_among xs zs) (part-by x ys zs h) (part-seconds xs ys zs h)

part-firsts : (xs ys zs : List Placed) → IsPart xs ys → IsPart (asked_among xs zs) (asked_among ys zs)
part-firsts [] ys zs h = subst (λ (l : List Placed). IsPart [] (asked_among l zs)) (sym h) refl
part-firsts (x ∷ xs) ys zs (inl h) =
    part-append (asked_by x zs) (asked_among xs zs) [] (asked_among ys zs) (part-none (asked_by x zs)) (part-firsts xs ys zs h)
part-firsts (x ∷ xs) ys zs (inr (tail, e, h)) =
    subst (λ (l : List Placed). IsPart (asked_among (x ∷ xs) zs) (asked_among l zs)) (sym e)
    (part-append (asked_by x zs) (asked_among xs zs) (asked_by x zs) (asked_among tail zs) (part-whole (asked_by x zs)) (part-firsts xs tail zs h))

-- some accesses ask of others a part of what all ask of all
pub part-among : (all firsts seconds : List Placed) → IsPart all firsts → IsPart all seconds → IsPart (asked_among all all) (asked_among firsts seconds)
part-among all firsts seconds h k =
    part-trans (asked_among all all) (asked_among firsts all) (asked_among firsts seconds) (part-firsts all firsts all h) (part-seconds firsts all seconds k)
