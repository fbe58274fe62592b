-- The list of all questions rises.
use Rattle.std.proofs.Common.{◌≡◌, ℕ, ◌<◌, ◌+◌, ◌⊎◌, inl, inr, Bool, true, false, List, [], ◌∷◌, ◌++◌, refl, sym, subst, arith, zero, suc, Some}
use Rattle.std.specs.Prelude.{All, slice_get, if◌then◌else◌}
use Rattle.std.proofs.lemmas.List.Elements.{All-nil, All-cons, All-head, All-tail, All-append}
use Rattle.std.proofs.lemmas.Option.{none-some, same_Some, slice_get_within, get_or_from_slice_get}
use Rattle.prog_check.specs.declared.path.Access.{Access}
use Rattle.prog_check.specs.declared.path.Path.{Path}
use Rattle.prog_paths.specs.StaticGraph.{Precedes, Rises, QuestionNumbers}
use Rattle.prog_paths.specs.declared.accesses.places.Placed.{Placed}
use Rattle.prog_paths.specs.declared.accesses.questions.Question.{Question}
use Rattle.prog_paths.specs.Places.{placed_from, all_from}
use Rattle.prog_paths.specs.Questions.{asks, question_between, asked_by, asked_among, numbers_of}
use Rattle.prog_paths.specs.Listing.{IsBefore, RiseBy, LawOfOrder}
use Rattle.prog_paths.proofs.Questions.{placed, if_append}

abbrev Before : Question → Question → Type 0
Before p q = IsBefore (numbers_of p) (numbers_of q)

abbrev Rise : List Question → Type 0
Rise = RiseBy numbers_of

-- ---- places rise

abbrev pub PlaceBefore : Placed → Placed → Type 0
PlaceBefore p r = Precedes p.node p.number r.node r.number

abbrev PlacesRise : List Placed → Type 0
PlacesRise = Rises PlaceBefore

before_node : (p : Placed) (node n : ℕ) (xs : List Access) → (p.node < node) ⊎ ((p.node ≡ node) × (p.number < n)) → All (λ later. PlaceBefore p later) (placed_from node n xs)
before_node p node n [] h = All-nil (λ later. PlaceBefore p later)
before_node p node n (x ∷ xs) h = All-cons (λ later. PlaceBefore p later) (placed node n x) (placed_from node (n + 1) xs) h (before_node p node (n + 1) xs (later h))
  where
    later : (p.node < node) ⊎ ((p.node ≡ node) × (p.number < n)) → (p.node < node) ⊎ ((p.node ≡ node) × (p.number < n + 1))
    later (inl k) = inl k
    later (inr k) = inr (k.0, let l = k.1 in omega (arith, l))

before_all : (p : Placed) (n : ℕ) (paths : List Path) → p.node < n → All (λ later. PlaceBefore p later) (all_from n paths)
before_all p n [] h = All-nil (λ later. PlaceBefore p later)
before_all p n (path ∷ paths) h =
    All-append (λ later. PlaceBefore p later) (placed_from n 0 path.accesses) (all_from (n + 1) paths) (before_node p n 0 path.accesses (inl h)) (before_all p (n + 1) paths (omega (arith, h)))

node_rises : (node n : ℕ) (xs : List Access) (rest : List Placed) → PlacesRise rest → ((p : Placed) → p.node ≡ node → All (λ later. PlaceBefore p later) rest) → PlacesRise (placed_from node n xs ++ rest)
node_rises node n [] rest r h = r
node_rises node n (x ∷ xs) rest r h = (
  All-append (λ later. PlaceBefore (placed node n x) later) (placed_from node (n + 1) xs) rest (before_node (placed node n x) node (n + 1) xs (inr (refl, omega arith))) (h (placed node n x) refl),
  node_rises node (n + 1) xs rest r h,
)

pub places_rise : (n : ℕ) (paths : List Path) → Rises PlaceBefore (all_from n paths)
places_rise n [] = tt
places_rise n (path ∷ paths) = node_rises n 0 path.accesses (all_from (n + 1) paths) (places_rise (n + 1) paths) (λ p e. before_all p (n + 1) paths (omega (arith, e)))

-- ---- questions rise

all_if : (P : Question → Type 0) (b : Bool) (x : Question) (l : List Question) → P x → All P l → All P (if b then x ∷ l else l)
all_if P true x l h k = All-cons P x l h k
all_if P false x l h k = k

-- what one place is asked about stands behind a question that is before each
before_by : (q : Question) (first : Placed) (seconds : List Placed) → All (λ s. Before q (question_between first s)) seconds → All (λ later. Before q later) (asked_by first seconds)
before_by q first [] h = All-nil (λ later. Before q later)
before_by q first (s ∷ rest) h =
    all_if (λ later. Before q later) (asks first s) (question_between first s) (asked_by first rest) (All-head (λ s'. Before q (question_between first s')) s rest h) (before_by q first rest (All-tail (λ s'. Before q (question_between first s')) s rest h))

all_of : (P : Placed → Type 0) (xs : List Placed) → ((p : Placed) → P p) → All P xs
all_of P [] h = All-nil P
all_of P (x ∷ xs) h = All-cons P x xs (h x) (all_of P xs h)

all_map : (P Q : Placed → Type 0) (xs : List Placed) → ((p : Placed) → P p → Q p) → All P xs → All Q xs
all_map P Q [] f h = All-nil Q
all_map P Q (x ∷ xs) f h = All-cons Q x xs (f x (All-head P x xs h)) (all_map P Q xs f (All-tail P x xs h))

before_among : (q : Question) (firsts seconds : List Placed) → All (λ f. Precedes q.x q.a f.node f.number) firsts → All (λ later. Before q later) (asked_among firsts seconds)
before_among q [] seconds h = All-nil (λ later. Before q later)
before_among q (f ∷ firsts) seconds h =
    let head = All-head (λ g. Precedes q.x q.a g.node g.number) f firsts h in
    let tail = All-tail (λ g. Precedes q.x q.a g.node g.number) f firsts h in
    All-append (λ later. Before q later) (asked_by f seconds) (asked_among firsts seconds)
    (before_by q f seconds (all_of (λ s. Before q (question_between f s)) seconds (λ s. inl head))) (before_among q firsts seconds tail)

rising_if : (b : Bool) (x : Question) (l : List Question) → All (λ later. Before x later) l → Rise l → Rise (if b then x ∷ l else l)
rising_if true x l h r = (h, r)
rising_if false x l h r = r

by_rises : (first : Placed) (seconds : List Placed) (rest : List Question) → PlacesRise seconds → Rise rest → ((q : Question) → q.x ≡ first.node → q.a ≡ first.number → All (λ later. Before q later) rest) → Rise (asked_by first seconds ++ rest)
by_rises first [] rest p r h = r
by_rises first (s ∷ seconds) rest p r h =
    let q : Question = question_between first s in
    let behind = before_by q first seconds (all_map (λ later. PlaceBefore s later) (λ later. Before q (question_between first later)) seconds (λ later k. inr (refl, refl, k)) p.0) in
    subst (λ (l : List Question). Rise l) (sym (if_append (asks first s) q (asked_by first seconds) rest))
    (rising_if (asks first s) q (asked_by first seconds ++ rest) (All-append (λ later. Before q later) (asked_by first seconds) rest behind (h q refl refl)) (by_rises first seconds rest p.1 r h))

among_rises : (firsts seconds : List Placed) → PlacesRise firsts → PlacesRise seconds → Rise (asked_among firsts seconds)
among_rises [] seconds p s = tt
among_rises (f ∷ firsts) seconds p s =
    by_rises f seconds (asked_among firsts seconds) s (among_rises firsts seconds p.1 s)
    (λ q ex ea. before_among q firsts seconds (all_map (λ later. PlaceBefore f later) (λ later. Precedes q.x q.a later.node later.number) firsts (λ later k. subst (λ (n : ℕ). Precedes n q.a later.node later.number) (sym ex) (subst (λ (n : ℕ). Precedes f.node n later.node later.number) (sym ea) k)) p.0))

pub law_of_order : LawOfOrder
law_of_order paths = among_rises (all_from 0 paths) (all_from 0 paths) (places_rise 0 paths) (places_rise 0 paths)

-- ---- places of what rises

-- of two things in a list that rises the first stands before the second
pub rises-at : {A : Type 0} (StandsBefore : A → A → Type 0) (xs : List A) → Rises StandsBefore xs → (j k : ℕ) (x y : A) → slice_get xs j ≡ Some x → slice_get xs k ≡ Some y → j < k → StandsBefore x y
rises-at StandsBefore [] rise j k x y at_j at_k lt = absurd (none-some x at_j)
rises-at StandsBefore (d ∷ rest) rise j zero x y at_j at_k lt = absurd (omega (arith, lt))
rises-at {A = A} StandsBefore (d ∷ rest) rise zero (suc k) x y at_j at_k lt =
    let inside = slice_get_within rest k y at_k in
    let first = subst (λ (z : A). StandsBefore d z) (get_or_from_slice_get rest k y y at_k) (rise.0 k y inside) in
    subst (λ (z : A). StandsBefore z y) (same_Some d x at_j) first
rises-at StandsBefore (d ∷ rest) rise (suc j) (suc k) x y at_j at_k lt = rises-at StandsBefore rest rise.1 j k x y at_j at_k (omega (arith, lt))
