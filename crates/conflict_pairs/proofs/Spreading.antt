-- Answers that stand under the classes of accesses: how they come there from the pairs of a row, and what they say.
use Rattle.std.proofs.Common.{◌≡◌, ℕ, ◌<◌, ◌≤◌, ◌+◌, ◌⊎◌, inl, inr, List, length, get_or, set, sym, subst, ap, ◌∙◌, arith, refl}
use Rattle.std.specs.Prelude.{All, slice_get}
use Rattle.std.proofs.lemmas.Bool.{cases_eq}
use Rattle.std.proofs.lemmas.List.{get_or-set_same, get_or-set_other}
use Rattle.std.proofs.lemmas.Option.{get_or_from_slice_get, slice_get_within}
use Rattle.prog_check.specs.declared.path.Path.{Path}
use Rattle.prog_paths.specs.declared.accesses.places.Placed.{Placed}
use Rattle.prog_paths.specs.declared.accesses.questions.Question.{Question}
use Rattle.prog_paths.specs.Questions.{question_between}
use Rattle.conflict_pairs.specs.declared.class_pairs.ClassPairs.{ClassPairs}
use Rattle.conflict_pairs.specs.declared.class_pairs.Row.{Row}
use Rattle.conflict_pairs.specs.declared.classes.AccessClasses.{AccessClasses}
use Rattle.conflict_pairs.specs.declared.interning.Interned.{Interned}
use Rattle.conflict_pairs.specs.declared.pairing.PlacePair.{PlacePair}
use Rattle.conflict_pairs.specs.declared.verdicts.Verdict.{Verdict}
use Rattle.conflict_pairs.specs.Alike.{IsLike}
use Rattle.conflict_pairs.specs.ClassPairs.{HasPairIn, IsInRow, IsPairOf, row_at}
use Rattle.conflict_pairs.specs.Classed.{AreClassesJudged}
use Rattle.prog_paths.specs.Places.{IsAt}
use Rattle.conflict_pairs.specs.Classes.{AreClassesOf, AreLikePlaces, class_at, starts_from}
use Rattle.conflict_pairs.specs.Interning.{IsServed}
use Rattle.conflict_pairs.specs.Listed.{AnswersOf, IsSpread, SpreadsRow, second_class}
use Rattle.conflict_pairs.specs.Pairing.{IsAskedBetween, StandsAt, place_at, question_at}
use Rattle.conflict_pairs.specs.Sharing.{IsOnPair}
use Rattle.conflict_pairs.proofs.Likeness.{judged-like}
use Rattle.conflict_pairs.proofs.Paired.{all-stand, stand-one}
use Rattle.conflict_pairs.proofs.Serving.{served-at}
use Rattle.conflict_pairs.proofs.Zipped.{AllZip-lengths}

-- ---- the pairs of a row, one more at a time

-- those before this place are entered
abbrev pub SpreadsUpTo : AccessClasses → List PlacePair → List ℕ → Row → List ℕ → ℕ → Type 0
SpreadsUpTo k pairs of_pairs row answers n = (j : ℕ) → row.start ≤ j → j < n → IsSpread k pairs of_pairs row answers j

module _ (k : AccessClasses) (pairs : List PlacePair) (of_pairs : List ℕ) (row : Row) where
  -- one pair more
  pub spread-more : (old : List ℕ) (n m : ℕ) → IsInRow row n → second_class k pairs n < length old → m ≡ get_or of_pairs n 0 → SpreadsUpTo k pairs of_pairs row old n → SpreadsUpTo k pairs of_pairs row (set old (second_class k pairs n) m) (n + 1)
  spread-more old n m in_row lt is h j from upto = at (cases_eq (second_class k pairs j) (second_class k pairs n)) (cases_eq j n)
    where
      c : ℕ
      c = second_class k pairs n

      at : (second_class k pairs j ≡ c) ⊎ (second_class k pairs j ≡ c → ⊥) → (j ≡ n) ⊎ (j ≡ n → ⊥) → IsSpread k pairs of_pairs row (set old c m) j
      at (inl e) _ = record {
        place = n;
        in_row = in_row;
        same = sym e;
        is = ap (λ (d : ℕ). get_or (set old c m) d 0) e ∙ get_or-set_same old c m 0 lt ∙ is;
      }
      at (inr other) (inl e) = absurd (other (ap (second_class k pairs) e))
      at (inr other) (inr behind) =
          let before = h j from (omega (arith, upto, behind)) in
          record {
            place = before.place;
            in_row = before.in_row;
            same = before.same;
            is = get_or-set_other old c (second_class k pairs j) m 0 other ∙ before.is;
          }

-- ---- what is known of the classes and their rows

-- an access of the paths has its number
pub place-stands-at : (paths : List Path) (k : AccessClasses) → AreClassesOf paths k → (p : Placed) → IsAt paths p → StandsAt k.starts.items k.places.items p
place-stands-at paths k h p at =
    subst (λ (l : List ℕ). StandsAt l k.places.items p) (sym h.starts_are)
    (subst (λ (l : List Placed). StandsAt (starts_from 0 paths) l p) (sym h.places_are) (stand-one paths p at))

-- each access has its number
pub places-stand : (paths : List Path) (k : AccessClasses) → AreClassesOf paths k → All (StandsAt k.starts.items k.places.items) k.places.items
places-stand paths k h =
    subst (λ (l : List ℕ). All (StandsAt l k.places.items) k.places.items) (sym h.starts_are)
    (subst (λ (l : List Placed). All (StandsAt (starts_from 0 paths) l) l) (sym h.places_are) (all-stand paths))

module _ (paths : List Path) (k : AccessClasses) (ps : ClassPairs) (judged : Interned Verdict) (h : AreClassesJudged paths k ps judged) where
  pub same-length : length k.numbers.items ≡ length k.places.items
  same-length = h.classes.classed.one_each ∙ sym (ap (λ (l : List Placed). length l) h.classes.places_are)

  pub class-within : (n : ℕ) → n < length k.numbers.items → class_at k n < length ps.rows.items
  class-within n lt = subst (λ (z : ℕ). class_at k n < z) (sym h.pairs.sized) (h.classes.firsts n lt).class_within

  pub verdict-each : length judged.numbers.items ≡ length ps.pairs.items
  verdict-each = sym (AllZip-lengths (IsServed (IsOnPair paths k.places.items) judged.values.items) ps.pairs.items judged.numbers.items h.on_pairs.served)

  -- the class of the second access of the pair at a place
  second-is : (c d j : ℕ) (its : IsPairOf k ps.pairs.items c d j) → second_class k ps.pairs.items j ≡ d
  second-is c d j its =
      ap (λ (p : PlacePair). class_at k p.second) (get_or_from_slice_get ps.pairs.items j its.pair (record { first = 0; second = 0 }) its.at) ∙ its.second

  -- ---- what stands under the class of an access that is asked

  alike : (m n : ℕ) → m < length k.places.items → n < length k.places.items → class_at k m ≡ class_at k n → AreLikePlaces paths m n
  alike m n lt le same =
      let is = ap (λ (l : List Placed). length l) h.classes.places_are in
      h.classes.classed.alike m n (subst (λ (z : ℕ). m < z) is lt) (subst (λ (z : ℕ). n < z) is le) same

  like : (m n : ℕ) (pair : PlacePair) → m < length k.places.items → n < length k.places.items → IsAskedBetween paths k.places.items pair → class_at k pair.first ≡ class_at k m → class_at k pair.second ≡ class_at k n → IsLike paths (question_between (place_at k.places.items m) (place_at k.places.items n)) (question_at k.places.items pair)
  like m n pair lt le asked first second =
      subst (λ (l : List Placed). IsLike paths (question_between (place_at l m) (place_at l n)) (question_at l pair)) (sym h.classes.places_are)
      (alike m pair.first lt asked.within.first_within (sym first), alike n pair.second le asked.within.second_within (sym second))

  pub answers-from_row : (m : ℕ) (row : Row) (answers : List ℕ) → m < length k.places.items → row ≡ row_at ps.rows.items (class_at k m) → SpreadsRow k ps.pairs.items judged.numbers.items row answers → AnswersOf paths judged.values.items k m answers
  answers-from_row m row answers lt is spread n le asks_it = record {
    value = served.value;
    at = ap (λ (z : ℕ). slice_get judged.values.items z) number_is ∙ served.at;
    serves = judged-like paths question (question_at places its.1.pair) served.value (like m n its.1.pair lt le asked its.1.first second) served.serves;
  }
    where
      places : List Placed
      places = k.places.items

      question : Question
      question = question_between (place_at places m) (place_at places n)

      -- the row has a pair of these two classes
      there : HasPairIn k ps (class_at k m) (class_at k n)
      there = h.pairs.whole m n lt le asks_it

      -- and under the second of them stands the number of one
      here : IsSpread k ps.pairs.items judged.numbers.items row answers there.0
      here = spread there.0 (subst (λ (r : Row). IsInRow r there.0) (sym is) there.1)

      its : (d : ℕ) × IsPairOf k ps.pairs.items (class_at k m) d here.place
      its = h.pairs.own (class_at k m) here.place (subst (λ (r : Row). IsInRow r here.place) is here.in_row)

      asked : IsAskedBetween paths places its.1.pair
      asked =
          subst (λ (p : PlacePair). IsAskedBetween paths places p) (get_or_from_slice_get ps.pairs.items here.place its.1.pair its.1.pair its.1.at)
          (h.pairs.asked here.place its.1.pair (slice_get_within ps.pairs.items here.place its.1.pair its.1.at))

      class_is : second_class k ps.pairs.items there.0 ≡ class_at k n
      class_is = second-is (class_at k m) (class_at k n) there.0 there.2

      second : class_at k its.1.pair.second ≡ class_at k n
      second = its.1.second ∙ sym (second-is (class_at k m) its.0 here.place its.1) ∙ here.same ∙ class_is

      number_is : get_or answers (class_at k n) 0 ≡ get_or judged.numbers.items here.place 0
      number_is = ap (λ (c : ℕ). get_or answers c 0) (sym class_is) ∙ here.is

      served : IsServed (IsOnPair paths places) judged.values.items its.1.pair (get_or judged.numbers.items here.place 0)
      served = served-at (IsOnPair paths places) judged.values.items ps.pairs.items judged.numbers.items here.place its.1.pair (get_or judged.numbers.items here.place 0) 0 h.on_pairs.served its.1.at refl
