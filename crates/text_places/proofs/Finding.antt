-- The places of landmarks as a list.
use Rattle.std.proofs.Common.{◌≡◌, ◌≤◌, ◌⊎◌, ◌++◌, ◌∷◌, [], inl, inr, ℕ, zero, suc, ◌+◌, List, Option, Some, None, IfNone, IfSome, true, false, length, map, refl, slice_get, subst, sym, if◌then◌else◌, arith}
use Rattle.std.proofs.lemmas.Bool.{cases_Bool}
use Rattle.std.proofs.lemmas.List.{append-nil, length-append, length-map, map-append}
use Rattle.std.proofs.lemmas.Option.{none-some, same_Some}
use Rattle.text_places.specs.declared.landmark.Landmark.{Landmark}
use Rattle.text_places.specs.declared.landmark.Landmark.TheVariants.{Program, Statement}
use Rattle.text_places.specs.Reading.{without_comments}
use Rattle.text_places.specs.Landmarks.{is_landmark, landmarks_before, places_before, statements_ahead, FewBehind, HasFewer, HasNoStatement, IsNumbered, IsStatementPlace, NoProgram}
use Rattle.prog_tree.proofs.Elements.{get_push_cases}

-- each landmark has a place
pub counted : (kind : Landmark) (text : List ℕ) (place : ℕ) → length (places_before kind text place) ≡ landmarks_before kind text place
counted kind text zero = refl
counted kind text (suc place) = go (cases_Bool (is_landmark kind text place)) (counted kind text place)
  where
    go : (is_landmark kind text place ≡ true) ⊎ (is_landmark kind text place ≡ false)
        → length (places_before kind text place) ≡ landmarks_before kind text place
        → length (places_before kind text (suc place)) ≡ landmarks_before kind text (suc place)
    go (inl is) so_far = rw is (omega (arith, length-append (places_before kind text place) (place ∷ []), so_far))
    go (inr other) so_far = rw other (omega (arith, length-append (places_before kind text place) [], so_far))

-- the place of a number in the list is that of the landmark of the number
pub numbered : (kind : Landmark) (text : List ℕ) (end number place : ℕ) → slice_get (places_before kind text end) number ≡ Some place
    → IsNumbered kind text 0 number place
numbered kind text zero number place got = absurd (none-some place got)
numbered kind text (suc end) number place got = go (cases_Bool (is_landmark kind text end)) (numbered kind text end number place) got
  where
    last : is_landmark kind text end ≡ true
        → (slice_get (places_before kind text end) number ≡ Some place → IsNumbered kind text 0 number place)
        → (slice_get (places_before kind text end) number ≡ Some place) ⊎ ((number ≡ length (places_before kind text end)) × (end ≡ place))
        → IsNumbered kind text 0 number place
    last is earlier (inl got) = earlier got
    last is earlier (inr (at, same_place)) =
        let count : landmarks_before kind text end ≡ 0 + number = omega (arith, counted kind text end, at) in
        let at_end : IsNumbered kind text 0 number end = record { begins = is; numbered = count } in
        subst (λ p. IsNumbered kind text 0 number p) same_place at_end

    go : (is_landmark kind text end ≡ true) ⊎ (is_landmark kind text end ≡ false)
        → (slice_get (places_before kind text end) number ≡ Some place → IsNumbered kind text 0 number place)
        → slice_get (places_before kind text (suc end)) number ≡ Some place
        → IsNumbered kind text 0 number place
    go (inl is) earlier got = last is earlier (get_push_cases (places_before kind text end) end place number (rw is at got))
    go (inr other) earlier got = earlier (rw (other, append-nil (places_before kind text end)) at got)

-- a list without a number at an index is no longer than that
past : (numbers : List ℕ) (index : ℕ) → slice_get numbers index ≡ None → length numbers ≤ index
past [] index none = omega arith
past (first ∷ numbers) zero none = absurd (none-some first (sym none))
past (first ∷ numbers) (suc index) none = omega (arith, past numbers index none)

-- what a list of values has at an index is the value of what the list of their numbers has there
valued : (value : ℕ → ℕ) (numbers : List ℕ) (index number : ℕ) → slice_get (map value numbers) index ≡ Some number
    → (origin : ℕ) × (slice_get numbers index ≡ Some origin) × (value origin ≡ number)
valued value [] index number got = absurd (none-some number got)
valued value (first ∷ numbers) zero number got = (first, refl, same_Some (value first) number got)
valued value (first ∷ numbers) (suc index) number got = valued value numbers index number got

-- a further place
pub one_more_ahead : (text : List ℕ) (place count : ℕ) → count ≡ length (places_before Statement text place)
    → statements_ahead text place ++ (if is_landmark Program text place then count ∷ [] else []) ≡ statements_ahead text (suc place)
one_more_ahead text place count so_many = go (cases_Bool (is_landmark Program text place))
  where
    go : (is_landmark Program text place ≡ true) ⊎ (is_landmark Program text place ≡ false)
        → statements_ahead text place ++ (if is_landmark Program text place then count ∷ [] else []) ≡ statements_ahead text (suc place)
    go (inl is) = rw (is, so_many, counted Statement text place) (sym (map-append (landmarks_before Statement text) (places_before Program text place) (place ∷ [])))
    go (inr other) = rw other (sym (map-append (landmarks_before Statement text) (places_before Program text place) []))

-- a place of the list of statements behind those ahead of a program is that of a statement of the program
pub is_place : (text : List ℕ) (program statement ahead end : ℕ) (place : Option ℕ)
    → slice_get (statements_ahead (without_comments text) end) program ≡ Some ahead
    → place ≡ slice_get (places_before Statement (without_comments text) end) (ahead + statement)
    → IfSome place (IsStatementPlace text program statement)
is_place text program statement ahead end None got is = tt
is_place text program statement ahead end (Some place) got is = (
  start,
  numbered Program plain end program start origin.1,
  record {
    begins = at.begins;
    numbered = count;
  },
)
  where
    plain : List ℕ
    plain = without_comments text

    origin : (origin : ℕ) × (slice_get (places_before Program plain end) program ≡ Some origin) × (landmarks_before Statement plain origin ≡ ahead)
    origin = valued (landmarks_before Statement plain) (places_before Program plain end) program ahead got

    start : ℕ
    start = origin.0

    at : IsNumbered Statement plain 0 (ahead + statement) place
    at = numbered Statement plain end (ahead + statement) place (sym is)

    count : landmarks_before Statement plain place ≡ landmarks_before Statement plain start + statement
    count = omega (arith, at.numbered, origin.2)

-- where the list of statements ends before, there is no such statement of the program
pub has_none : (text : List ℕ) (program statement ahead : ℕ) (place : Option ℕ)
    → slice_get (statements_ahead (without_comments text) (length (without_comments text))) program ≡ Some ahead
    → place ≡ slice_get (places_before Statement (without_comments text) (length (without_comments text))) (ahead + statement)
    → IfNone place (HasNoStatement text program statement)
has_none text program statement ahead (Some place) got is = tt
has_none text program statement ahead None got is = FewBehind start (numbered Program plain end program start origin.1) few
  where
    plain : List ℕ
    plain = without_comments text

    end : ℕ
    end = length plain

    origin : (origin : ℕ) × (slice_get (places_before Program plain end) program ≡ Some origin) × (landmarks_before Statement plain origin ≡ ahead)
    origin = valued (landmarks_before Statement plain) (places_before Program plain end) program ahead got

    start : ℕ
    start = origin.0

    few : HasFewer Statement plain start statement
    few = omega (arith, past (places_before Statement plain end) (ahead + statement) (sym is), counted Statement plain end, origin.2)

-- where the list of programs ends before, there is no such program
pub has_no_program : (text : List ℕ) (program statement : ℕ)
    → slice_get (statements_ahead (without_comments text) (length (without_comments text))) program ≡ None
    → HasNoStatement text program statement
has_no_program text program statement none = NoProgram (few (without_comments text) none)
  where
    few : (plain : List ℕ) → slice_get (statements_ahead plain (length plain)) program ≡ None → HasFewer Program plain 0 program
    few plain got =
        let places = places_before Program plain (length plain) in
        omega (arith, past (statements_ahead plain (length plain)) program got, length-map places (landmarks_before Statement plain), counted Program plain (length plain))
