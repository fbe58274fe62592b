-- The first exposed question of a pair of programs.
use Rattle.std.proofs.Common.{◌≡◌, ℕ, ◌+◌, ◌<◌, ◌⊎◌, inl, inr, true, false, List, [], ◌∷◌, ◌++◌, length, take, drop, get_or, refl, sym, subst, ap, ◌∙◌, Contains}
use Rattle.std.specs.Prelude.{Option, Some, None, is_some, slice_get, All}
use Rattle.std.proofs.lemmas.Bool.{false≢true}
use Rattle.std.proofs.lemmas.List.{append-nil, drop_more, take-append-drop}
use Rattle.std.proofs.lemmas.List.Elements.{Contains-append_left, Contains-append_right, Contains-append_cases, Contains-get_or, All-contains}
use Rattle.prog_check.specs.declared.path.Path.{Path}
use Rattle.prog_paths.specs.declared.accesses.places.Placed.{Placed}
use Rattle.prog_paths.specs.declared.accesses.questions.Question.{Question}
use Rattle.prog_paths.specs.Places.{all_from}
use Rattle.prog_paths.specs.Questions.{asks, numbers_of, question_between, asked_by, asked_among, questions_of}
use Rattle.prog_paths.specs.Listing.{IsBefore, RiseBy}
use Rattle.prog_paths.proofs.Questions.{if_yes, asked_by-append, asked_among-append}
use Rattle.prog_paths.proofs.Order.{law_of_order}
use Rattle.prog_paths.proofs.Rising.{rises-across}
use Rattle.repair_laws.specs.declared.plan.Pair.{Pair}
use Rattle.repair_laws.specs.Keys.{ExposedOf}
use Rattle.si_repair.specs.Exposed.{IsPart, IsFirstOfExposed, IsFirstExposed, ArePlacesOf, IsExposedTo, AreExposedAmong}
use Rattle.si_repair.proofs.Exposed.{asks-from_misses, read_of, change_of, misses_of, first_moved, more-firsts, in_firsts, in_seconds, of_pair-exposed, AreExposed-from_places}
use Rattle.si_repair.proofs.Parts.{part-none, part-whole, part-append, part-contains, part-among}
use Rattle.prog_tree.proofs.Elements.{contains_only, contains_itself, contains_nothing}

-- ---- what rises

all-part : (P : Question → Type 0) (xs ps : List Question) → All P xs → IsPart xs ps → All P ps
all-part P xs ps all h k d lt = All-contains P xs (get_or ps k d) all (part-contains xs ps (get_or ps k d) h (Contains-get_or ps k d lt))

-- a part of what rises does
rises-part : (xs ps : List Question) → RiseBy numbers_of xs → IsPart xs ps → RiseBy numbers_of ps
rises-part [] ps r h = subst (λ (l : List Question). RiseBy numbers_of l) (sym h) tt
rises-part (x ∷ xs) ps r (inl h) = rises-part xs ps r.1 h
rises-part (x ∷ xs) ps r (inr (tail, e, h)) =
    subst (λ (l : List Question). RiseBy numbers_of l) (sym e)
    (all-part (λ (later : Question). IsBefore (numbers_of x) (numbers_of later)) xs tail r.0 h, rises-part xs tail r.1 h)

-- ---- what is asked

-- a list is what stands before one of its elements, this one, and what stands behind it
parted : {A : Type 0} (xs : List A) (x : A) (c : Contains xs x) → xs ≡ take c.0 xs ++ x ∷ drop (c.0 + 1) xs
parted {A = A} xs x c =
    sym (take-append-drop c.0 xs)
    ∙ ap (λ (l : List A). take c.0 xs ++ l) (drop_more xs c.0 x c.1 ∙ ap (λ (y : A). y ∷ drop (c.0 + 1) xs) c.2)

in_by : (first second : Placed) (seconds : List Placed) → asks first second ≡ true → Contains seconds second → Contains (asked_by first seconds) (question_between first second)
in_by first second seconds yes_asks c =
    let q : Question = question_between first second in
    let before : List Placed = take c.0 seconds in
    let after : List Placed = drop (c.0 + 1) seconds in
    subst (λ (l : List Placed). Contains (asked_by first l) q) (sym (parted seconds second c))
    (subst (λ (l : List Question). Contains l q) (sym (asked_by-append first before (second ∷ after)))
    (Contains-append_right (asked_by first before) (asked_by first (second ∷ after)) q
    (subst (λ (l : List Question). Contains l q) (sym (if_yes (asks first second) q (asked_by first after) yes_asks))
    (Contains-append_left (q ∷ []) (asked_by first after) q (contains_itself q)))))

in_among : (firsts seconds : List Placed) (first second : Placed) → asks first second ≡ true → Contains firsts first → Contains seconds second → Contains (asked_among firsts seconds) (question_between first second)
in_among firsts seconds first second yes_asks c d =
    let q : Question = question_between first second in
    let before : List Placed = take c.0 firsts in
    let after : List Placed = drop (c.0 + 1) firsts in
    subst (λ (l : List Placed). Contains (asked_among l seconds) q) (sym (parted firsts first c))
    (subst (λ (l : List Question). Contains l q) (sym (asked_among-append before (first ∷ after) seconds))
    (Contains-append_right (asked_among before seconds) (asked_among (first ∷ after) seconds) q
    (Contains-append_left (asked_by first seconds) (asked_among after seconds) q (in_by first second seconds yes_asks d))))

-- ---- one first access after the other

-- the first such question, or that there is none: no first access ahead of its own has any
abbrev pub IsFirstAmong : List Path → List Placed → List Placed → Option Question → Type 0
IsFirstAmong nodes firsts seconds None = AreExposedAmong nodes firsts seconds []
IsFirstAmong nodes firsts seconds (Some q) =
    (n : ℕ) × (rest : List Question) × AreExposedAmong nodes (take n firsts) seconds (q ∷ rest)

module _ (nodes : List Path) (n : ℕ) (xs ys : List Placed) (d : Placed) (lt : n < length xs) (before : AreExposedAmong nodes (take n xs) ys []) where
  -- what the next one has first is the first of all
  pub found_next : (qs : List Question) (o : Option Question) → o ≡ slice_get qs 0 → is_some o ≡ true → AreExposedAmong nodes (get_or xs n d ∷ []) ys qs → IsFirstAmong nodes xs ys o
  found_next [] o is some own = absurd (false≢true (sym (ap is_some is) ∙ some))
  found_next (q ∷ rest) o is some own =
      subst (λ (p : Option Question). IsFirstAmong nodes xs ys p) (sym is) (n + 1, rest, more-firsts nodes n xs ys d [] (q ∷ rest) (q ∷ rest) lt own refl before)

  -- the next one has none either
  pub none_next : (qs : List Question) (o : Option Question) → o ≡ slice_get qs 0 → is_some o ≡ false → AreExposedAmong nodes (get_or xs n d ∷ []) ys qs → AreExposedAmong nodes (take (n + 1) xs) ys []
  none_next [] o is none own = more-firsts nodes n xs ys d [] [] [] lt own refl before
  none_next (q ∷ rest) o is none own = absurd (false≢true (sym none ∙ ap is_some is))

-- ---- the first of a pair

module _ (nodes : List Path) (pair : Pair) (xs ys : List Placed) (firsts : ArePlacesOf nodes pair.from xs) (seconds : ArePlacesOf nodes pair.to ys) where
  least-among : (n : ℕ) (q : Question) (rest : List Question) → AreExposedAmong nodes (take n xs) ys (q ∷ rest) → IsFirstOfExposed nodes pair q
  least-among n q rest h = record { listed = listed; exposed = exposed; first = first }
    where
      early : List Question
      early = asked_among (take n xs) ys

      late : List Question
      late = asked_among (drop n xs) ys

      whole : asked_among xs ys ≡ early ++ late
      whole = ap (λ (l : List Placed). asked_among l ys) (sym (take-append-drop n xs)) ∙ asked_among-append (take n xs) (drop n xs) ys

      part : IsPart (questions_of nodes) (early ++ late)
      part = subst (λ (l : List Question). IsPart (questions_of nodes) l) whole (part-among (all_from 0 nodes) xs ys firsts.part seconds.part)

      rises : RiseBy numbers_of (early ++ late)
      rises = rises-part (questions_of nodes) (early ++ late) (law_of_order nodes) part

      early_part : IsPart (early ++ late) early
      early_part = subst (λ (l : List Question). IsPart (early ++ late) l) (append-nil early) (part-append early late early [] (part-whole early) (part-none late))

      own_rises : RiseBy numbers_of (q ∷ rest)
      own_rises = rises-part early (q ∷ rest) (rises-part (early ++ late) early rises early_part) h.part

      own : Contains (q ∷ rest) q
      own = Contains-append_left (q ∷ []) rest q (contains_itself q)

      q_early : Contains early q
      q_early = part-contains early (q ∷ rest) q h.part own

      listed : Contains (questions_of nodes) q
      listed = part-contains (questions_of nodes) (early ++ late) q part (Contains-append_left early late q q_early)

      of_all : (x : Placed) → Contains (take n xs) x → Contains xs x
      of_all x c = subst (λ (l : List Placed). Contains l x) (take-append-drop n xs) (Contains-append_left (take n xs) (drop n xs) x c)

      exposed : (e : ExposedOf nodes pair) × (e.question.question ≡ numbers_of q)
      exposed = of_pair-exposed nodes pair xs ys firsts seconds q (first_moved nodes (take n xs) xs ys q of_all (h.only q own))

      first : (e : ExposedOf nodes pair) → (e.question.question ≡ numbers_of q) ⊎ IsBefore (numbers_of q) e.question.question
      first e = go (Contains-append_cases (take n xs) (drop n xs) x (subst (λ (l : List Placed). Contains l x) (sym (take-append-drop n xs)) (in_firsts nodes pair xs ys firsts seconds e)))
        where
          x : Placed
          x = read_of nodes pair e

          y : Placed
          y = change_of nodes pair e

          missed : IsExposedTo nodes x y
          missed = misses_of nodes pair e

          in_ys : Contains ys y
          in_ys = in_seconds nodes pair xs ys firsts seconds e

          among : Contains (q ∷ []) (question_between x y) ⊎ Contains rest (question_between x y) → (e.question.question ≡ numbers_of q) ⊎ IsBefore (numbers_of q) e.question.question
          among (inl k) = inl (sym (ap numbers_of (contains_only q (question_between x y) k)))
          among (inr k) = inr (All-contains (λ (later : Question). IsBefore (numbers_of q) (numbers_of later)) rest (question_between x y) own_rises.0 k)

          go : Contains (take n xs) x ⊎ Contains (drop n xs) x → (e.question.question ≡ numbers_of q) ⊎ IsBefore (numbers_of q) e.question.question
          go (inl i) = among (Contains-append_cases (q ∷ []) rest (question_between x y) (h.each x y i in_ys missed))
          go (inr i) = inr (rises-across (λ (s later : Question). IsBefore (numbers_of s) (numbers_of later)) early late q (question_between x y) rises q_early (in_among (drop n xs) ys x y (asks-from_misses x y missed.misses) i in_ys))

  pub first-from_places : (o : Option Question) → IsFirstAmong nodes xs ys o → IsFirstExposed nodes pair o
  first-from_places None h = λ e. let one = (AreExposed-from_places nodes pair xs ys firsts seconds [] h).each e in contains_nothing one.0 one.1
  first-from_places (Some q) h = least-among h.0 q h.1 h.2
