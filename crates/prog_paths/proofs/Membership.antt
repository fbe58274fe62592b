-- Which questions stand in the list of all questions.
use Rattle.std.proofs.Common.{◌≡◌, ℕ, ◌+◌, ◌⊎◌, inl, inr, Bool, true, false, ◌||◌, ◌&&◌, List, [], ◌∷◌, ◌++◌, refl, sym, subst, ap, ◌∙◌, arith, zero, suc}
use Rattle.std.specs.Prelude.{Some, slice_get, if◌then◌else◌, nat_lt, nat_le, ◌==◌}
use Rattle.std.proofs.lemmas.Bool.{false≢true, eqb-true, eq-eqb, ltb-true, lt-ltb, leb-true, le-leb, and_from, and_parts, or_cases, or_left, or_right}
use Rattle.std.proofs.lemmas.Option.{none-some, same_Some}
use Rattle.prog_check.specs.declared.path.Kind.{Kind}
use Rattle.prog_check.specs.declared.path.Kind.TheVariants.{Reads, Sees, Lacks, Writes, Adds}
use Rattle.prog_check.specs.declared.path.Access.{Access}
use Rattle.prog_check.specs.declared.path.Path.{Path}
use Rattle.prog_paths.specs.StaticGraph.{QuestionNumbers, IsInOrder}
use Rattle.prog_paths.specs.declared.accesses.places.Placed.{Placed}
use Rattle.prog_paths.specs.declared.accesses.questions.Question.{Question}
use Rattle.prog_paths.specs.Questions.{Asks, asks, kinds_depend, both_write, is_in_order, question_between, asked_by, asked_among, numbers_of, questions_of}
use Rattle.prog_paths.specs.Places.{IsAt, placed_from, all_from}
use Rattle.prog_paths.specs.Listing.{IsAskedOf, LawOfListing}
use Rattle.prog_paths.proofs.Questions.{placed, all_places_stand}
use Rattle.prog_tree.proofs.Elements.{IsMember, member_from_contains, contains_from_member, member_all, member_left, member_right, member_either}

-- ---- what is asked

into_if : (b : Bool) (q x : Question) (l : List Question) → IsMember q l → IsMember q (if b then x ∷ l else l)
into_if true q x l i = inr i
into_if false q x l i = i

first_if : (b : Bool) (q x : Question) (l : List Question) → b ≡ true → x ≡ q → IsMember q (if b then x ∷ l else l)
first_if true q x l h e = inl e
first_if false q x l h e = absurd (false≢true h)

out_of_if : (b : Bool) (q x : Question) (l : List Question) → IsMember q (if b then x ∷ l else l) → ((b ≡ true) × (x ≡ q)) ⊎ IsMember q l
out_of_if true q x l (inl e) = inl (refl, e)
out_of_if true q x l (inr i) = inr i
out_of_if false q x l i = inr i

into_by : (first second : Placed) (seconds : List Placed) → asks first second ≡ true → IsMember second seconds → IsMember (question_between first second) (asked_by first seconds)
into_by first second [] h i = absurd i
into_by first second (s ∷ rest) h (inl e) = first_if (asks first s) _ _ (asked_by first rest) (ap (asks first) e ∙ h) (ap (question_between first) e)
into_by first second (s ∷ rest) h (inr i) = into_if (asks first s) _ _ (asked_by first rest) (into_by first second rest h i)

-- one that some place of a list is asked about
abbrev IsBy : Placed → List Placed → Question → Type 0
IsBy first seconds q = (second : Placed) × IsMember second seconds × (asks first second ≡ true) × (question_between first second ≡ q)

out_of_by : (first : Placed) (seconds : List Placed) (q : Question) → IsMember q (asked_by first seconds) → IsBy first seconds q
out_of_by first [] q i = absurd i
out_of_by first (s ∷ rest) q i = go (out_of_if (asks first s) q (question_between first s) (asked_by first rest) i) (λ k. out_of_by first rest q k)
  where
    go : ((asks first s ≡ true) × (question_between first s ≡ q)) ⊎ IsMember q (asked_by first rest) → (IsMember q (asked_by first rest) → IsBy first rest q) → IsBy first (s ∷ rest) q
    go (inl h) later = (s, inl refl, h.0, h.1)
    go (inr k) later = let w = later k in (w.0, inr w.1, w.2, w.3)

into_among : (firsts seconds : List Placed) (first second : Placed) → IsMember first firsts → IsMember second seconds → asks first second ≡ true → IsMember (question_between first second) (asked_among firsts seconds)
into_among [] seconds first second i j h = absurd i
into_among (f ∷ firsts) seconds first second (inl e) j h =
    subst (λ (g : Placed). IsMember (question_between first second) (asked_by g seconds ++ asked_among firsts seconds)) (sym e)
    (member_left _ (asked_by first seconds) (asked_among firsts seconds) (into_by first second seconds h j))
into_among (f ∷ firsts) seconds first second (inr i) j h = member_right _ (asked_by f seconds) (asked_among firsts seconds) (into_among firsts seconds first second i j h)

abbrev IsAmong : List Placed → List Placed → Question → Type 0
IsAmong firsts seconds q = (first : Placed) × IsMember first firsts × IsBy first seconds q

out_of_among : (firsts seconds : List Placed) (q : Question) → IsMember q (asked_among firsts seconds) → IsAmong firsts seconds q
out_of_among [] seconds q i = absurd i
out_of_among (f ∷ firsts) seconds q i = go (member_either q (asked_by f seconds) (asked_among firsts seconds) i) (λ k. out_of_among firsts seconds q k)
  where
    go : IsMember q (asked_by f seconds) ⊎ IsMember q (asked_among firsts seconds) → (IsMember q (asked_among firsts seconds) → IsAmong firsts seconds q) → IsAmong (f ∷ firsts) seconds q
    go (inl k) later = (f, inl refl, out_of_by f seconds q k)
    go (inr k) later = let w = later k in (w.0, inr w.1, w.2)

-- ---- all places

pub in_node : (node n : ℕ) (xs : List Access) (i : ℕ) (a : Access) → slice_get xs i ≡ Some a → IsMember (placed node (n + i) a) (placed_from node n xs)
in_node node n [] i a e = absurd (none-some a e)
in_node node n (x ∷ xs) zero a e =
    let z : n ≡ n + 0 = omega arith in
    let s = same_Some x a e in
    inl (λ k. placed node (z k) (s k))
in_node node n (x ∷ xs) (suc i) a e =
    let z : n + 1 + i ≡ n + suc i = omega arith in
    inr (subst (λ (k : ℕ). IsMember (placed node k a) (placed_from node (n + 1) xs)) z (in_node node (n + 1) xs i a e))

in_all : (n : ℕ) (rest : List Path) (i : ℕ) (path : Path) (k : ℕ) (a : Access) → slice_get rest i ≡ Some path → slice_get path.accesses k ≡ Some a → IsMember (placed (n + i) k a) (all_from n rest)
in_all n [] i path k a e f = absurd (none-some path e)
in_all n (p ∷ rest) zero path k a e f =
    let z : n ≡ n + 0 = omega arith in
    let s = same_Some p path e in
    let own = in_node n 0 p.accesses k a (subst (λ (r : Path). slice_get r.accesses k ≡ Some a) (sym s) f) in
    let y : 0 + k ≡ k = omega arith in
    member_left _ (placed_from n 0 p.accesses) (all_from (n + 1) rest)
    (subst (λ (m : ℕ). IsMember (placed m k a) (placed_from n 0 p.accesses)) z (subst (λ (m : ℕ). IsMember (placed n m a) (placed_from n 0 p.accesses)) y own))
in_all n (p ∷ rest) (suc i) path k a e f =
    let z : n + 1 + i ≡ n + suc i = omega arith in
    member_right _ (placed_from n 0 p.accesses) (all_from (n + 1) rest)
    (subst (λ (m : ℕ). IsMember (placed m k a) (all_from (n + 1) rest)) z (in_all (n + 1) rest i path k a e f))

in_places : (paths : List Path) (p : Placed) → IsAt paths p → IsMember p (all_from 0 paths)
in_places paths p at =
    let z : 0 + p.node ≡ p.node = omega arith in
    subst (λ (m : ℕ). IsMember (placed m p.number p.access) (all_from 0 paths)) z (in_all 0 paths p.node at.0 p.number p.access at.1 at.2)

-- ---- the test of kinds and tables

pub depends-Asks : (q : QuestionNumbers) (mine theirs : Kind) → kinds_depend mine theirs ≡ true → Asks q mine theirs
depends-Asks q Reads Writes e = inl (inl (refl, inl refl))
depends-Asks q Reads Adds e = inl (inl (refl, inr refl))
depends-Asks q Lacks Adds e = inl (inr (refl, refl))
depends-Asks q Sees Adds e = inr (inl (inr (refl, refl)))
depends-Asks q _ _ e = absurd (false≢true e)

in_order : (first second : Placed) → is_in_order first second ≡ true → IsInOrder (numbers_of (question_between first second))
in_order first second e = go (or_cases (nat_lt first.node second.node) _ e)
  where
    go : (nat_lt first.node second.node ≡ true) ⊎ (((first.node == second.node) && nat_le first.number second.number) ≡ true) → IsInOrder (numbers_of (question_between first second))
    go (inl h) = inl (ltb-true first.node second.node h)
    go (inr h) = let p = and_parts (first.node == second.node) _ h in inr (eqb-true first.node second.node p.0, leb-true first.number second.number p.1)

pub writes_both : (mine theirs : Kind) → both_write mine theirs ≡ true → (mine ≡ Writes) × (theirs ≡ Writes)
writes_both Writes Writes e = (refl, refl)
writes_both _ _ e = absurd (false≢true e)

pub Asks-from_asks : (first second : Placed) → asks first second ≡ true → (first.access.table ≡ second.access.table) × Asks (numbers_of (question_between first second)) first.access.kind second.access.kind
Asks-from_asks first second e =
    let parts = and_parts (first.access.table == second.access.table) _ e in
    (eqb-true first.access.table second.access.table parts.0, by (or_cases (kinds_depend first.access.kind second.access.kind) _ parts.1))
  where
    by : (kinds_depend first.access.kind second.access.kind ≡ true) ⊎ ((both_write first.access.kind second.access.kind && is_in_order first second) ≡ true) → Asks (numbers_of (question_between first second)) first.access.kind second.access.kind
    by (inl d) = depends-Asks (numbers_of (question_between first second)) first.access.kind second.access.kind d
    by (inr w) =
        let p = and_parts (both_write first.access.kind second.access.kind) _ w in
        let k = writes_both first.access.kind second.access.kind p.0 in
        inr (inr (k.0, k.1, in_order first second p.1))

depends_true : (mine theirs m t : Kind) → mine ≡ m → theirs ≡ t → kinds_depend m t ≡ true → kinds_depend mine theirs ≡ true
depends_true mine theirs m t a b h = (λ i. kinds_depend (a i) (b i)) ∙ h

-- the question asks by its kinds, or both write and stand in order
abbrev IsAskedBy : Placed → Placed → Type 0
IsAskedBy first second = (kinds_depend first.access.kind second.access.kind || (both_write first.access.kind second.access.kind && is_in_order first second)) ≡ true

kinds_true : (first second : Placed) → Asks (numbers_of (question_between first second)) first.access.kind second.access.kind → IsAskedBy first second
kinds_true first second (inl (inl (m, inl t))) = or_left _ _ (depends_true first.access.kind second.access.kind Reads Writes m t refl)
kinds_true first second (inl (inl (m, inr t))) = or_left _ _ (depends_true first.access.kind second.access.kind Reads Adds m t refl)
kinds_true first second (inl (inr (m, t))) = or_left _ _ (depends_true first.access.kind second.access.kind Lacks Adds m t refl)
kinds_true first second (inr (inl (inl (m, inl t)))) = or_left _ _ (depends_true first.access.kind second.access.kind Reads Writes m t refl)
kinds_true first second (inr (inl (inl (m, inr t)))) = or_left _ _ (depends_true first.access.kind second.access.kind Reads Adds m t refl)
kinds_true first second (inr (inl (inr (m, t)))) = or_left _ _ (depends_true first.access.kind second.access.kind Sees Adds m t refl)
kinds_true first second (inr (inr (m, t, o))) = or_right (kinds_depend first.access.kind second.access.kind) _ (and_from (both_write first.access.kind second.access.kind) _ (λ i. both_write (m i) (t i)) (ordered o))
  where
    ordered : IsInOrder (numbers_of (question_between first second)) → is_in_order first second ≡ true
    ordered (inl h) = or_left (nat_lt first.node second.node) _ (lt-ltb first.node second.node h)
    ordered (inr (e, h)) = or_right (nat_lt first.node second.node) _ (and_from (first.node == second.node) _ (eq-eqb first.node second.node e) (le-leb first.number second.number h))

pub asks-from_Asks : (first second : Placed) → first.access.table ≡ second.access.table → Asks (numbers_of (question_between first second)) first.access.kind second.access.kind → asks first second ≡ true
asks-from_Asks first second table h = and_from (first.access.table == second.access.table) _ (eq-eqb first.access.table second.access.table table) (kinds_true first second h)

-- ---- the law

asked-from_in : (paths : List Path) (q : Question) → IsMember q (questions_of paths) → IsAskedOf paths q
asked-from_in paths q i =
    let w = out_of_among (all_from 0 paths) (all_from 0 paths) q i in
    let v = w.2 in
    subst (λ (r : Question). IsAskedOf paths r) v.3
    (of_places w.0 v.0 (member_all (λ p. IsAt paths p) (all_from 0 paths) w.0 (all_places_stand paths) w.1) (member_all (λ p. IsAt paths p) (all_from 0 paths) v.0 (all_places_stand paths) v.1) v.2)
  where
    of_places : (first second : Placed) → IsAt paths first → IsAt paths second → asks first second ≡ true → IsAskedOf paths (question_between first second)
    of_places first second a b e =
        let k = Asks-from_asks first second e in
        record { mine = first.access; theirs = second.access; asked = record { at_mine = a; at_theirs = b; table = k.0 }; mine_kind = refl; their_kind = refl; asks = k.1 }

in-from_asked : (paths : List Path) (q : Question) → IsAskedOf paths q → IsMember q (questions_of paths)
in-from_asked paths q h =
    let first : Placed = placed q.x q.a h.mine in
    let second : Placed = placed q.y q.b h.theirs in
    let own = into_among (all_from 0 paths) (all_from 0 paths) first second (in_places paths first h.asked.at_mine) (in_places paths second h.asked.at_theirs) (asks-from_Asks first second h.asked.table h.asks) in
    let mine = h.mine_kind in
    let theirs = h.their_kind in
    subst (λ (r : Question). IsMember r (questions_of paths)) (λ i. record { x = q.x; a = q.a; y = q.y; b = q.b; mine = sym mine i; theirs = sym theirs i }) own

pub law_of_listing : LawOfListing
law_of_listing paths q = (λ c. asked-from_in paths q (member_from_contains (questions_of paths) q c), λ h. contains_from_member (questions_of paths) q (in-from_asked paths q h))
