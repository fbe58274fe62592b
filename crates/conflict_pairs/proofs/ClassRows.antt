-- Rows of pairs of classes, one class more at a time.
use Rattle.std.proofs.Common.{◌≡◌, ℕ, ◌<◌, ◌≤◌, ◌+◌, ◌⊎◌, inl, inr, Bool, true, false, ◌&&◌, cond, List, [], ◌∷◌, ◌++◌, length, length-append, append-nil, append_assoc, get_or, set, ◌-◌, take, refl, sym, subst, ap, ◌∙◌, arith, zero, suc, Some, Contains}
use Rattle.std.specs.Prelude.{All, slice_get, ◌==◌}
use Rattle.std.specs.List.{filter}
use Rattle.std.proofs.lemmas.Bool.{cases_lt, cases_eq, false≢true, and_from, eq-eqb}
use Rattle.std.proofs.lemmas.List.{length-set, get_or-set_same, get_or-set_other, take_more}
use Rattle.std.proofs.lemmas.List.Elements.{All-nil, All-append, All-push, All-weaker, All-contains, Contains-push, Contains-push_cases, Contains-append_left}
use Rattle.std.proofs.lemmas.Option.{slice_get-get_or, slice_get_within}
use Rattle.prog_tree.proofs.Elements.{get_left, at-right, contains_at, place_of}
use Rattle.prog_check.specs.declared.path.Kind.{Kind}
use Rattle.prog_check.specs.declared.path.Access.{Access}
use Rattle.prog_check.specs.declared.path.Path.{Path}
use Rattle.prog_paths.specs.StaticGraph.{QuestionNumbers, IsAccessOf}
use Rattle.prog_paths.specs.declared.accesses.places.Placed.{Placed}
use Rattle.prog_paths.specs.declared.accesses.questions.Question.{Question}
use Rattle.prog_paths.specs.Changers.{changes, changers_of}
use Rattle.prog_paths.specs.Tally.{of_table}
use Rattle.prog_paths.specs.Places.{AreAlike, IsAt, all_from}
use Rattle.prog_paths.specs.Questions.{Asks, asks}
use Rattle.prog_paths.proofs.Questions.{all_places_stand}
use Rattle.prog_paths.proofs.Membership.{Asks-from_asks}
use Rattle.prog_paths.proofs.Marked.{same_access}
use Rattle.conflict_pairs.specs.declared.classes.AccessClasses.{AccessClasses}
use Rattle.conflict_pairs.specs.declared.class_pairs.ClassPairs.{ClassPairs}
use Rattle.conflict_pairs.specs.declared.class_pairs.Row.{Row}
use Rattle.conflict_pairs.specs.declared.pairing.PlacePair.{PlacePair}
use Rattle.conflict_pairs.specs.Alike.{IsLikeAt}
use Rattle.conflict_pairs.specs.Classes.{AreClassesOf, class_at, starts_from}
use Rattle.conflict_pairs.specs.ClassPairs.{IsInRow, IsPairOf, row_at, AreClassPairs, HaveLastPlaces, AsksOneOf, HasPairWith, AddsRow}
use Rattle.conflict_pairs.specs.Pairing.{IsAskedBetween, StandsAt, no_place, place_at}
use Rattle.conflict_pairs.proofs.OneClass.{place-stands}
use Rattle.conflict_pairs.proofs.Paired.{all-stand, place-any}
use Rattle.conflict_pairs.proofs.PlaceOrder.{number-once, asks-wider}

-- ---- accesses that change a table

changes-asked : (q : QuestionNumbers) (a b : Kind) → Asks q a b → changes b ≡ true
changes-asked q a b (inl (inl (_, inl w))) = ap changes w
changes-asked q a b (inl (inl (_, inr w))) = ap changes w
changes-asked q a b (inl (inr (_, w))) = ap changes w
changes-asked q a b (inr (inl (inl (_, inl w)))) = ap changes w
changes-asked q a b (inr (inl (inl (_, inr w)))) = ap changes w
changes-asked q a b (inr (inl (inr (_, w)))) = ap changes w
changes-asked q a b (inr (inr (_, w, _))) = ap changes w

-- what passes a test is among those that pass it
kept-cons : {A : Type 0} (b : Bool) (y x : A) (l : List A) → Contains l x → Contains (cond b (y ∷ l) l) x
kept-cons true y x l (k, lt, is) = (suc k, omega (arith, lt), is)
kept-cons false y x l h = h

kept-head : {A : Type 0} (b : Bool) (x : A) (l : List A) → b ≡ true → Contains (cond b (x ∷ l) l) x
kept-head true x l e = (zero, omega arith, refl)
kept-head false x l e = absurd (false≢true e)

kept-passing : {A : Type 0} (p : A → Bool) (xs : List A) (x : A) → Contains xs x → p x ≡ true → Contains (filter p xs) x
kept-passing p [] x (k, lt, is) e = absurd (omega (arith, lt))
kept-passing {A = A} p (y ∷ xs) x (zero, lt, is) e = subst (λ (z : A). Contains (cond (p y) (y ∷ filter p xs) (filter p xs)) z) is (kept-head (p y) y (filter p xs) (ap p is ∙ e))
kept-passing p (y ∷ xs) x (suc k, lt, is) e = kept-cons (p y) y x (filter p xs) (kept-passing p xs x (k, omega (arith, lt), is) e)

-- an access of which another asks something is among the changers of that one's table
pub asked-changer : (first second : Placed) (places changers seconds : List Placed) → seconds ≡ of_table first.access.table changers → ((table : ℕ) → of_table table changers ≡ changers_of table places)
    → Contains places second → asks first second ≡ true → Contains seconds second
asked-changer first second places changers seconds is all there asked =
    let told = Asks-from_asks first second asked in
    subst (λ (l : List Placed). Contains l second) (sym (is ∙ all first.access.table))
    (kept-passing (λ (p : Placed). (p.access.table == first.access.table) && changes p.access.kind) places second there
    (and_from _ _ (eq-eqb second.access.table first.access.table (sym told.0)) (changes-asked _ first.access.kind second.access.kind told.1)))

-- ---- the last accesses of classes

-- all are places of accesses, and those of the last ones before the next one are among them
pub record AreLastsSoFar (k : AccessClasses) (places : List Placed) (n : ℕ) : Type 0 where
  pub there : All (Contains k.places.items) places
  pub whole : (m : ℕ) → m < n → m < length k.places.items → get_or k.lasts.items (class_at k m) 0 ≡ m → Contains places (place_at k.places.items m)

module _ (k : AccessClasses) (old : List Placed) (n : ℕ) (h : AreLastsSoFar k old n) where
  pub lasts-skip : (get_or k.lasts.items (class_at k n) 0 ≡ n → ⊥) → AreLastsSoFar k old (n + 1)
  lasts-skip other = record { there = h.there; whole = λ m lt inside last. h.whole m (earlier m lt last (cases_lt m n)) inside last }
    where
      earlier : (m : ℕ) → m < n + 1 → get_or k.lasts.items (class_at k m) 0 ≡ m → (m < n) ⊎ (n ≤ m) → m < n
      earlier m lt last (inl a) = a
      earlier m lt last (inr b) = let same : m ≡ n = omega (arith, lt, b) in absurd (other (subst (λ (x : ℕ). get_or k.lasts.items (class_at k x) 0 ≡ x) same last))

  pub lasts-push : (new : List Placed) (place : Placed) → n < length k.places.items → place ≡ place_at k.places.items n → new ≡ old ++ place ∷ [] → AreLastsSoFar k new (n + 1)
  lasts-push new place within is added = subst (λ (l : List Placed). AreLastsSoFar k l (n + 1)) (sym added) (record {
    there = All-push (Contains k.places.items) old place h.there (subst (λ (p : Placed). Contains k.places.items p) (sym is) (n, within, place-any k.places.items n (place_at k.places.items n) within));
    whole = λ m lt inside last. whole m lt inside last (cases_lt m n);
  })
    where
      whole : (m : ℕ) → m < n + 1 → m < length k.places.items → get_or k.lasts.items (class_at k m) 0 ≡ m → (m < n) ⊎ (n ≤ m) → Contains (old ++ place ∷ []) (place_at k.places.items m)
      whole m lt inside last (inl a) = Contains-append_left old (place ∷ []) (place_at k.places.items m) (h.whole m a inside last)
      whole m lt inside last (inr b) =
          let same : n ≡ m = omega (arith, lt, b) in
          subst (λ (p : Placed). Contains (old ++ place ∷ []) p) (is ∙ ap (place_at k.places.items) same) (Contains-push old place)

-- ---- one row, one pair more at a time

module _ (places : List Placed) (number : ℕ) where
  pub row-none : (old : List PlacePair) → AddsRow places number [] old old
  row-none old = record {
    row = [];
    added = sym (append-nil old);
    asked = All-nil (AsksOneOf places number []);
    whole = λ second (k, lt, is) e. absurd (omega (arith, lt));
  }

  module _ (old mid : List PlacePair) (i : ℕ) (seconds : List Placed) (d : Placed) (lt : i < length seconds) (h : AddsRow places number (take i seconds) old mid) (from : Placed) (from_is : place_at places number ≡ from) where
    one_more : take (i + 1) seconds ≡ take i seconds ++ get_or seconds i d ∷ []
    one_more = take_more seconds i d lt

    asked-still : All (AsksOneOf places number (take (i + 1) seconds)) h.row
    asked-still =
        All-weaker (AsksOneOf places number (take i seconds)) (AsksOneOf places number (take (i + 1) seconds))
        (λ p a. record {
          first = a.first;
          within = a.within;
          one = subst (λ (l : List Placed). Contains l (place_at places p.second)) (sym one_more) (Contains-append_left (take i seconds) (get_or seconds i d ∷ []) (place_at places p.second) a.one);
          asks_it = a.asks_it;
        }) h.row h.asked

    asks-own : (b : Bool) → asks from (get_or seconds i d) ≡ b → asks (place_at places number) (get_or seconds i d) ≡ b
    asks-own b e = ap (λ (p : Placed). asks p (get_or seconds i d)) from_is ∙ e

    pub row-no : (new : List PlacePair) → new ≡ mid → asks from (get_or seconds i d) ≡ false → AddsRow places number (take (i + 1) seconds) old new
    row-no new is not_asked = record {
      row = h.row;
      added = is ∙ h.added;
      asked = asked-still;
      whole = λ second there e. whole second e (Contains-push_cases (take i seconds) (get_or seconds i d) second (subst (λ (l : List Placed). Contains l second) one_more there));
    }
      where
        whole : (second : Placed) → asks (place_at places number) second ≡ true → Contains (take i seconds) second ⊎ (get_or seconds i d ≡ second) → HasPairWith places h.row second
        whole second e (inl a) = h.whole second a e
        whole second e (inr b) = absurd (false≢true (sym (asks-own false not_asked) ∙ ap (asks (place_at places number)) b ∙ e))

    pub row-yes : (new : List PlacePair) (pair : PlacePair) → new ≡ mid ++ pair ∷ [] → pair.first ≡ number → pair.second < length places → place_at places pair.second ≡ get_or seconds i d
        → asks from (get_or seconds i d) ≡ true → AddsRow places number (take (i + 1) seconds) old new
    row-yes new pair added first within is asked = record {
      row = h.row ++ pair ∷ [];
      added = added ∙ ap (λ (l : List PlacePair). l ++ pair ∷ []) h.added ∙ append_assoc old h.row (pair ∷ []);
      asked = All-push (AsksOneOf places number (take (i + 1) seconds)) h.row pair asked-still (record {
        first = first;
        within = within;
        one = subst (λ (l : List Placed). Contains l (place_at places pair.second)) (sym one_more) (subst (λ (p : Placed). Contains (take i seconds ++ get_or seconds i d ∷ []) p) (sym is) (Contains-push (take i seconds) (get_or seconds i d)));
        asks_it = ap (asks (place_at places number)) is ∙ asks-own true asked;
      });
      whole = λ second there e. whole second e (Contains-push_cases (take i seconds) (get_or seconds i d) second (subst (λ (l : List Placed). Contains l second) one_more there));
    }
      where
        whole : (second : Placed) → asks (place_at places number) second ≡ true → Contains (take i seconds) second ⊎ (get_or seconds i d ≡ second) → HasPairWith places (h.row ++ pair ∷ []) second
        whole second e (inl a) =
            let its = h.whole second a e in
            record { pair = its.pair; among = Contains-append_left h.row (pair ∷ []) its.pair its.among; is = its.is }
        whole second e (inr b) = record { pair = pair; among = Contains-push h.row pair; is = is ∙ b }

-- the classes whose first access stands before the next one have their rows
pub record AreRowsSoFar (k : AccessClasses) (paths : List Path) (pairs : List PlacePair) (rows : List Row) (n : ℕ) : Type 0 where
  pub sized : length rows ≡ length k.firsts.items
  pub ends : (c : ℕ) → (row_at rows c).end ≤ length pairs
  pub asked : All (IsAskedBetween paths k.places.items) pairs
  pub own : (c j : ℕ) → IsInRow (row_at rows c) j → (d : ℕ) × IsPairOf k pairs c d j
  pub whole : (m l : ℕ) → m < n → m < length k.places.items → l < length k.places.items
      → get_or k.firsts.items (class_at k m) 0 ≡ m → get_or k.lasts.items (class_at k l) 0 ≡ l
      → asks (place_at k.places.items m) (place_at k.places.items l) ≡ true
      → (j : ℕ) × IsInRow (row_at rows (class_at k m)) j × IsPairOf k pairs (class_at k m) (class_at k l) j

-- ---- what is known of the classes of accesses

module _ (paths : List Path) (k : AccessClasses) (h : AreClassesOf paths k) where
  abbrev L : List Placed
  L = k.places.items

  abbrev first_of : ℕ → ℕ
  first_of n = get_or k.firsts.items (class_at k n) 0

  abbrev last_of : ℕ → ℕ
  last_of n = get_or k.lasts.items (class_at k n) 0

  pub one_each : length k.numbers.items ≡ length L
  one_each = h.classed.one_each ∙ ap length (sym h.places_are)

  once : (i j : ℕ) → i < length L → j < length L → place_at L i ≡ place_at L j → i ≡ j
  once = subst (λ (l : List Placed). (i j : ℕ) → i < length l → j < length l → place_at l i ≡ place_at l j → i ≡ j) (sym h.places_are) (number-once paths)

  -- accesses of one class are alike
  alike-of : (m n : ℕ) → m < length (all_from 0 paths) → n < length (all_from 0 paths) → class_at k m ≡ class_at k n → AreAlike (place_at (all_from 0 paths) m).access (place_at (all_from 0 paths) n).access
  alike-of m n lt le same =
      let like = (h.classed.alike m n lt le same).accesses in
      let p = place_at (all_from 0 paths) m in
      let q = place_at (all_from 0 paths) n in
      let one = same_access paths p.node p.number like.one p.access like.at_one (all_places_stand paths m no_place lt) in
      let other = same_access paths q.node q.number like.other q.access like.at_other (all_places_stand paths n no_place le) in
      subst (λ (b : Access). AreAlike p.access b) other (subst (λ (a : Access). AreAlike a like.other) one like.alike)

  pub alike-places : (m n : ℕ) → m < length L → n < length L → class_at k m ≡ class_at k n → AreAlike (place_at L m).access (place_at L n).access
  alike-places = subst (λ (l : List Placed). (m n : ℕ) → m < length l → n < length l → class_at k m ≡ class_at k n → AreAlike (place_at l m).access (place_at l n).access) (sym h.places_are) alike-of

  -- and so are the covers of their nodes
  pub like-places : (m n : ℕ) → m < length L → n < length L → class_at k m ≡ class_at k n → IsLikeAt paths (place_at L m).node (place_at L m).number (place_at L n).node (place_at L n).number
  like-places =
      subst (λ (l : List Placed). (m n : ℕ) → m < length l → n < length l → class_at k m ≡ class_at k n → IsLikeAt paths (place_at l m).node (place_at l m).number (place_at l n).node (place_at l n).number) (sym h.places_are)
      h.classed.alike

  pub stands-at : (i : ℕ) → i < length L → IsAt paths (place_at L i)
  stands-at i lt = subst (λ (l : List Placed). All (λ q. IsAt paths q) l) (sym h.places_are) (all_places_stand paths) i no_place lt

  -- an access of the paths has its number
  pub numbered-place : (p : Placed) → IsAt paths p → slice_get L (get_or (starts_from 0 paths) p.node 0 + p.number) ≡ Some p
  numbered-place p at =
      subst (λ (l : List Placed). slice_get l (get_or (starts_from 0 paths) p.node 0 + p.number) ≡ Some p) (sym h.places_are) (place-stands paths p.node p.number (p.access, at))

  pub all-at : All (StandsAt k.starts.items L) L
  all-at =
      subst (λ (s : List ℕ). All (StandsAt s L) L) (sym h.starts_are)
      (subst (λ (l : List Placed). All (StandsAt (starts_from 0 paths) l) l) (sym h.places_are) (all-stand paths))

  -- so have the last ones
  pub lasts-at : (places : List Placed) → HaveLastPlaces k places → All (StandsAt k.starts.items L) places
  lasts-at places last = All-weaker (Contains L) (StandsAt k.starts.items L) (λ p there. All-contains (StandsAt k.starts.items L) L p all-at there) places last.there

  -- two placed accesses of one node and one number are the same
  same-place : (p r : Placed) → IsAt paths p → IsAt paths r → p.node ≡ r.node → p.number ≡ r.number → p ≡ r
  same-place p r at_p at_r node number =
      let access = same_access paths r.node r.number p.access r.access (subst (λ (x : ℕ). IsAccessOf paths x r.number p.access) node (subst (λ (a : ℕ). IsAccessOf paths p.node a p.access) number at_p)) at_r in
      λ i. record { node = node i; number = number i; access = access i }

  -- the accesses of a pair that is asked ask each other
  pub asks-pair : (pair : PlacePair) → IsAskedBetween paths L pair → asks (place_at L pair.first) (place_at L pair.second) ≡ true
  asks-pair pair a =
      let its = a.asked in
      let first = same-place (place_at L pair.first) its.first (stands-at pair.first a.within.first_within) its.at_first (ap (λ (q : Question). q.x) its.is) (ap (λ (q : Question). q.a) its.is) in
      let second = same-place (place_at L pair.second) its.second (stands-at pair.second a.within.second_within) its.at_second (ap (λ (q : Question). q.y) its.is) (ap (λ (q : Question). q.b) its.is) in
      (λ i. asks (first i) (second i)) ∙ its.asks_it

  -- the first access of a class asks the last of another, where any two of them do
  pub asks-ends : (m n : ℕ) → m < length L → n < length L → asks (place_at L m) (place_at L n) ≡ true → asks (place_at L (first_of m)) (place_at L (last_of n)) ≡ true
  asks-ends = subst (λ (l : List Placed). (m n : ℕ) → m < length l → n < length l → asks (place_at l m) (place_at l n) ≡ true → asks (place_at l (first_of m)) (place_at l (last_of n)) ≡ true) (sym h.places_are) ends
    where
      numbered : length k.numbers.items ≡ length (all_from 0 paths)
      numbered = h.classed.one_each

      ends : (m n : ℕ) → m < length (all_from 0 paths) → n < length (all_from 0 paths) → asks (place_at (all_from 0 paths) m) (place_at (all_from 0 paths) n) ≡ true → asks (place_at (all_from 0 paths) (first_of m)) (place_at (all_from 0 paths) (last_of n)) ≡ true
      ends m n lt le e =
          let first = h.firsts m (omega (arith, lt, numbered)) in
          let last = h.lasts n (omega (arith, le, numbered)) in
          let first_in : first_of m < length (all_from 0 paths) = let w = first.within in omega (arith, w, numbered) in
          let last_in : last_of n < length (all_from 0 paths) = let w = last.within in omega (arith, w, numbered) in
          asks-wider paths (first_of m) m n (last_of n) first.stands lt last.stands last_in (alike-of (first_of m) m first_in lt first.same) (alike-of (last_of n) n last_in le last.same) e

  -- ---- rows, one more at a time

  -- an access that is not the first of its class
  pub rows-skip : (pairs : List PlacePair) (rows : List Row) (n : ℕ) → (first_of n ≡ n → ⊥) → AreRowsSoFar k paths pairs rows n → AreRowsSoFar k paths pairs rows (n + 1)
  rows-skip pairs rows n other r = record {
    sized = r.sized;
    ends = r.ends;
    asked = r.asked;
    own = r.own;
    whole = λ m l lt m_in l_in first last e. r.whole m l (earlier m first lt (cases_lt m n)) m_in l_in first last e;
  }
    where
      earlier : (m : ℕ) → first_of m ≡ m → m < n + 1 → (m < n) ⊎ (n ≤ m) → m < n
      earlier m first lt (inl a) = a
      earlier m first lt (inr b) = let same : m ≡ n = omega (arith, lt, b) in absurd (other (subst (λ (x : ℕ). first_of x ≡ x) same first))

  -- the same pair in a longer list
  longer : (old row : List PlacePair) (c d j : ℕ) → IsPairOf k old c d j → IsPairOf k (old ++ row) c d j
  longer old row c d j p = record { pair = p.pair; at = get_left old row j p.pair p.at; first = p.first; second = p.second }

  -- and one that is the first
  module _ (old new : List PlacePair) (rows : List Row) (n : ℕ) (seconds : List Placed) (r : AreRowsSoFar k paths old rows n) (inside : n < length L) (a : AddsRow L n seconds old new)
      (all : (l : ℕ) → l < length L → last_of l ≡ l → asks (place_at L n) (place_at L l) ≡ true → Contains seconds (place_at L l)) (first : first_of n ≡ n) where
    abbrev c : ℕ
    c = class_at k n

    within : c < length rows
    within = let w = (h.firsts n (omega (arith, inside, one_each))).class_within in let s = r.sized in omega (arith, w, s)

    abbrev here : Row
    here = record { start = length old; end = length new }

    abbrev after : List Row
    after = set rows c here

    row-here : row_at after c ≡ here
    row-here = get_or-set_same rows c here (record { start = 0; end = 0 }) within

    row-other : (b : ℕ) → (b ≡ c → ⊥) → row_at after b ≡ row_at rows b
    row-other b e = get_or-set_other rows c b here (record { start = 0; end = 0 }) e

    long : length new ≡ length old + length a.row
    long = ap length a.added ∙ length-append old a.row

    -- a pair of the new row
    in-row : (i : ℕ) (pair : PlacePair) → slice_get a.row i ≡ Some pair → IsPairOf k new c (class_at k pair.second) (length old + i)
    in-row i pair at =
        let asked = All-contains (AsksOneOf L n seconds) a.row pair a.asked (contains_at a.row i pair at) in
        record {
          pair = pair;
          at = ap (λ (l : List PlacePair). slice_get l (length old + i)) a.added ∙ at-right old a.row i pair at;
          first = ap (class_at k) asked.first;
          second = refl;
        }

    ends : (b : ℕ) → (b ≡ c) ⊎ (b ≡ c → ⊥) → (row_at after b).end ≤ length new
    ends b (inl e) = let is = ap (λ (x : Row). x.end) (ap (row_at after) e ∙ row-here) in omega (arith, is)
    ends b (inr e) = let is = ap (λ (x : Row). x.end) (row-other b e) in let was = r.ends b in omega (arith, is, was, long)

    own : (b j : ℕ) → IsInRow (row_at after b) j → (b ≡ c) ⊎ (b ≡ c → ⊥) → (d : ℕ) × IsPairOf k new b d j
    own b j i (inl e) =
        let row = subst (λ (x : Row). IsInRow x j) (ap (row_at after) e ∙ row-here) i in
        let behind = row.behind in
        let before = row.before in
        let at : (length old + (j - length old)) ≡ j = omega (arith, behind) in
        let inner : j - length old < length a.row = omega (arith, behind, before, long) in
        let pair = get_or a.row (j - length old) (record { first = 0; second = 0 }) in
        let p = in-row (j - length old) pair (slice_get-get_or a.row (j - length old) (record { first = 0; second = 0 }) inner) in
        (class_at k pair.second, subst (λ (x : ℕ). IsPairOf k new x (class_at k pair.second) j) (sym e) (subst (λ (x : ℕ). IsPairOf k new c (class_at k pair.second) x) at p))
    own b j i (inr e) =
        let its = r.own b j (subst (λ (x : Row). IsInRow x j) (row-other b e) i) in
        (its.0, subst (λ (l : List PlacePair). IsPairOf k l b its.0 j) (sym a.added) (longer old a.row b its.0 j its.1))

    whole-here : (l : ℕ) → l < length L → last_of l ≡ l → asks (place_at L n) (place_at L l) ≡ true → (j : ℕ) × IsInRow (row_at after c) j × IsPairOf k new c (class_at k l) j
    whole-here l l_in last e =
        let with_it = a.whole (place_at L l) (all l l_in last e) e in
        let at = place_of a.row with_it.pair with_it.among in
        let asked = All-contains (AsksOneOf L n seconds) a.row with_it.pair a.asked with_it.among in
        let same : with_it.pair.second ≡ l = once with_it.pair.second l asked.within l_in with_it.is in
        let inner = slice_get_within a.row at.0 with_it.pair at.1 in (
          length old + at.0,
          subst (λ (x : Row). IsInRow x (length old + at.0)) (sym row-here) (record { behind = omega arith; before = omega (arith, inner, long) }),
          subst (λ (x : ℕ). IsPairOf k new c x (length old + at.0)) (ap (class_at k) same) (in-row at.0 with_it.pair at.1),
        )

    whole : (m l : ℕ) → m < n + 1 → m < length L → l < length L → first_of m ≡ m → last_of l ≡ l → asks (place_at L m) (place_at L l) ≡ true
        → (m < n) ⊎ (n ≤ m) → (j : ℕ) × IsInRow (row_at after (class_at k m)) j × IsPairOf k new (class_at k m) (class_at k l) j
    whole m l lt m_in l_in is_first last e (inl b) =
        let its = r.whole m l b m_in l_in is_first last e in
        let other : class_at k m ≡ c → ⊥ = λ s. let one : m ≡ n = sym is_first ∙ ap (λ (x : ℕ). get_or k.firsts.items x 0) s ∙ first in omega (arith, b, one) in (
          its.0,
          subst (λ (x : Row). IsInRow x its.0) (sym (row-other (class_at k m) other)) its.1,
          subst (λ (q : List PlacePair). IsPairOf k q (class_at k m) (class_at k l) its.0) (sym a.added) (longer old a.row (class_at k m) (class_at k l) its.0 its.2),
        )
    whole m l lt m_in l_in is_first last e (inr b) =
        let same : m ≡ n = omega (arith, lt, b) in
        subst (λ (x : ℕ). (j : ℕ) × IsInRow (row_at after (class_at k x)) j × IsPairOf k new (class_at k x) (class_at k l) j) (sym same)
        (whole-here l l_in last (subst (λ (x : ℕ). asks (place_at L x) (place_at L l) ≡ true) same e))

    asked-pair : (p : PlacePair) → AsksOneOf L n seconds p → IsAskedBetween paths L p
    asked-pair p q =
        let first_in : p.first < length L = let e = q.first in omega (arith, e, inside) in
        record {
          within = record { first_within = first_in; second_within = q.within };
          asked = record {
            first = place_at L p.first;
            second = place_at L p.second;
            at_first = stands-at p.first first_in;
            at_second = stands-at p.second q.within;
            asks_it = ap (λ (x : ℕ). asks (place_at L x) (place_at L p.second)) q.first ∙ q.asks_it;
            is = refl;
          };
        }

    pub rows-more : (rows' : List Row) → rows' ≡ set rows (class_at k n) (record { start = length old; end = length new }) → AreRowsSoFar k paths new rows' (n + 1)
    rows-more rows' is = subst (λ (l : List Row). AreRowsSoFar k paths new l (n + 1)) (sym is) (record {
      sized = length-set rows c here ∙ r.sized;
      ends = λ b. ends b (cases_eq b c);
      asked =
          subst (λ (l : List PlacePair). All (IsAskedBetween paths L) l) (sym a.added)
          (All-append (IsAskedBetween paths L) old a.row r.asked (All-weaker (AsksOneOf L n seconds) (IsAskedBetween paths L) asked-pair a.row a.asked));
      own = λ b j i. own b j i (cases_eq b c);
      whole = λ m l lt m_in l_in is_first last e. whole m l lt m_in l_in is_first last e (cases_lt m n);
    })

  -- all rows
  pub rows-all : (ps : ClassPairs) (n : ℕ) → length L ≤ n → AreRowsSoFar k paths ps.pairs.items ps.rows.items n → AreClassPairs paths k ps
  rows-all ps n end r = record {
    sized = r.sized;
    ends = r.ends;
    asked = r.asked;
    own = r.own;
    whole = λ m l m_in l_in e.
        let first = h.firsts m (omega (arith, m_in, one_each)) in
        let last = h.lasts l (omega (arith, l_in, one_each)) in
        let first_in : first_of m < length L = let w = first.within in omega (arith, w, one_each) in
        let last_in : last_of l < length L = let w = last.within in omega (arith, w, one_each) in
        let is_first : first_of (first_of m) ≡ first_of m = ap (λ (x : ℕ). get_or k.firsts.items x 0) first.same in
        let is_last : last_of (last_of l) ≡ last_of l = ap (λ (x : ℕ). get_or k.lasts.items x 0) last.same in
        let its = r.whole (first_of m) (last_of l) (omega (arith, first_in, end)) first_in last_in is_first is_last (asks-ends m l m_in l_in e) in (
          its.0,
          subst (λ (x : ℕ). IsInRow (row_at ps.rows.items x) its.0) first.same its.1,
          subst (λ (x : ℕ). IsPairOf k ps.pairs.items x (class_at k l) its.0) first.same (subst (λ (x : ℕ). IsPairOf k ps.pairs.items (class_at k (first_of m)) x its.0) last.same its.2),
        );
  }
