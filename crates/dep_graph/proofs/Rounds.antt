-- What is known after each round, and that the rounds come to an end.
use Rattle.std.proofs.Common.{◌≡◌, ℕ, zero, suc, List, [], ◌∷◌, length, get_or, ◌<◌, ◌≤◌, ◌+◌, ◌⊎◌, inl, inr, Option, Some, None, ◌++◌, replicate, set, get_or-set_same, get_or-set_other, refl, sym, ap, subst, ◌∙◌, arith}
use Rattle.std.specs.Prelude.{IsSome}
use Rattle.std.proofs.lemmas.Bool.{cases_lt, false≢true}
use Rattle.std.proofs.lemmas.List.{get_or_past, get_or_append_left, get_or-append-add, get_or-replicate, length-replicate, length-set}
use Rattle.std.proofs.lemmas.Bool.{cases_eq}
use Rattle.prog_paths.specs.StaticGraph.{Leads, here, onward}
use Rattle.order_facts.specs.Square.{Grid, Joins}
use Rattle.dep_graph.specs.Ways.{LeadsOn}
use Rattle.dep_graph.specs.Distances.{distance_at, LeadsToKnown, IsNewlyKnown, AreNextDistances, IsDistanceOfWay, KnowsWithin}

-- ---- known or not

pub known : (o : Option ℕ) → (o ≡ None) ⊎ ((steps : ℕ) × (o ≡ Some steps))
known None = inl refl
known (Some steps) = inr (steps, refl)

pub number_of : (o : Option ℕ) → IsSome o → (steps : ℕ) × (o ≡ Some steps)
number_of (Some steps) h = (steps, refl)
number_of None h = absurd (false≢true h)

pub known-inside : (distances : List (Option ℕ)) (node steps : ℕ) → distance_at distances node ≡ Some steps → node < length distances
known-inside distances node steps h = go (cases_lt node (length distances))
  where
    go : (node < length distances) ⊎ (length distances ≤ node) → node < length distances
    go (inl l) = l
    go (inr l) = let e = get_or_past distances node None l in absurd cc

-- a known distance is that of a shortest way
pub least_known : (edges : Grid) (end rounds : ℕ) (distances : List (Option ℕ)) → KnowsWithin edges end distances rounds → (node steps : ℕ) → distance_at distances node ≡ Some steps → (nodes : List ℕ) → LeadsOn (Joins edges) node nodes end → steps ≤ length nodes
least_known edges end rounds distances k node steps h nodes leads = go (cases_lt rounds (length nodes))
  where
    go : (rounds < length nodes) ⊎ (length nodes ≤ rounds) → steps ≤ length nodes
    go (inl l) = let w = (k.right node steps h).within in omega arith
    go (inr l) =
        let a = k.all node nodes leads l in
        let same : steps ≡ a.0 = let e = a.1 in cc in
        let short = a.2 in
        omega arith

-- ---- before the first round

pub KnowsWithin-first : (edges : Grid) (end : ℕ) → end < edges.size → KnowsWithin edges end (set (replicate edges.size None) end (Some 0)) 0
KnowsWithin-first edges end inside = record {
  size = length-set (replicate edges.size None) end (Some 0) ∙ length-replicate edges.size None;
  right = λ node steps h. right node steps (cases_eq node end) h;
  all = all;
}
  where
    first : List (Option ℕ)
    first = replicate edges.size None

    at : distance_at (set first end (Some 0)) end ≡ Some 0
    at = get_or-set_same first end (Some 0) None (omega (arith, length-replicate {A = Option ℕ} edges.size None))

    elsewhere : (node : ℕ) → (node ≡ end → ⊥) → distance_at (set first end (Some 0)) node ≡ None
    elsewhere node other = get_or-set_other first end node (Some 0) None other ∙ nowhere (cases_lt node edges.size)
      where
        nowhere : (node < edges.size) ⊎ (edges.size ≤ node) → get_or first node None ≡ None
        nowhere (inl l) = get_or-replicate edges.size node None None l
        nowhere (inr l) = get_or_past first node None (omega (arith, length-replicate {A = Option ℕ} edges.size None))

    right : (node steps : ℕ) → (node ≡ end) ⊎ (node ≡ end → ⊥) → distance_at (set first end (Some 0)) node ≡ Some steps → IsDistanceOfWay edges end 0 node steps
    right node steps (inl e) h =
        let zero_steps : 0 ≡ steps = let a = subst (λ n. distance_at (set first end (Some 0)) n ≡ Some 0) (sym e) at in cc in
        record { within = omega arith; nodes = []; long = omega arith; leads = e }
    right node steps (inr other) h = let e = elsewhere node other in absurd cc

    all : (node : ℕ) (nodes : List ℕ) → LeadsOn (Joins edges) node nodes end → length nodes ≤ 0 → (steps : ℕ) × (distance_at (set first end (Some 0)) node ≡ Some steps) × (steps ≤ length nodes)
    all node [] leads short = (0, subst (λ n. distance_at (set first end (Some 0)) n ≡ Some 0) (sym leads) at, omega arith)
    all node (next ∷ rest) leads short = absurd (omega arith)

-- ---- the next round

-- one more element: what held at each place still holds, and at the new one
pub each-pushed : (P : ℕ → Option ℕ → Type 0) (old new : List (Option ℕ)) (x : Option ℕ) (n : ℕ) → length old ≡ n → new ≡ old ++ x ∷ [] → ((k : ℕ) → k < n → P k (get_or old k None)) → P n x → (k : ℕ) → k < n + 1 → P k (get_or new k None)
each-pushed P old new x n full e before one k h = subst (λ (l : List (Option ℕ)). P k (get_or l k None)) (sym e) (go (cases_lt k n))
  where
    go : (k < n) ⊎ (n ≤ k) → P k (get_or (old ++ x ∷ []) k None)
    go (inl l) = subst (λ (o : Option ℕ). P k o) (sym (get_or_append_left old (x ∷ []) None k (omega arith))) (before k l)
    go (inr l) =
        let here : k ≡ length old + 0 = omega arith in
        let same : n ≡ k = omega arith in
        let last : x ≡ get_or (old ++ x ∷ []) k None = sym (ap (λ m. get_or (old ++ x ∷ []) m None) here ∙ get_or-append-add old (x ∷ []) 0 None) in
        subst (λ (o : Option ℕ). P k o) last (subst (λ m. P m x) same one)

KnowsWithin-right : (edges : Grid) (end rounds : ℕ) (old new : List (Option ℕ)) → KnowsWithin edges end old rounds → AreNextDistances edges old (rounds + 1) new → (node steps : ℕ) → distance_at new node ≡ Some steps → IsDistanceOfWay edges end (rounds + 1) node steps
KnowsWithin-right edges end rounds old new k n node steps h = go ((n.each node (omega (arith, n.size, known-inside new node steps h))).right steps h)
  where
    fresh : (next s : ℕ) → distance_at old node ≡ None → Joins edges node next → distance_at old next ≡ Some s → steps ≡ rounds + 1 → IsDistanceOfWay edges end (rounds + 1) node steps
    fresh next s was edge at e = case (cases_lt s rounds)
      where
        way : IsDistanceOfWay edges end rounds next s
        way = k.right next s at

        case : (s < rounds) ⊎ (rounds ≤ s) → IsDistanceOfWay edges end (rounds + 1) node steps
        case (inl l) =
            let short : length (next ∷ way.nodes) ≤ rounds = let o = way.long in omega arith in
            let a = k.all node (next ∷ way.nodes) (edge, way.leads) short in
            let f = a.1 in
            absurd cc
        case (inr l) = record {
          within = omega arith;
          nodes = next ∷ way.nodes;
          long = let o = way.long in let w = way.within in omega arith;
          leads = (edge, way.leads);
        }

    go : (distance_at old node ≡ Some steps) ⊎ IsNewlyKnown edges old (rounds + 1) node steps → IsDistanceOfWay edges end (rounds + 1) node steps
    go (inl e) =
        let way = k.right node steps e in
        record { within = let w = way.within in omega arith; nodes = way.nodes; long = way.long; leads = way.leads }
    go (inr f) = fresh f.leads.0 f.leads.2 f.was f.leads.1 f.leads.3 f.is_round

KnowsWithin-all : (edges : Grid) (end rounds : ℕ) (old new : List (Option ℕ)) → KnowsWithin edges end old rounds → AreNextDistances edges old (rounds + 1) new → (node : ℕ) (nodes : List ℕ) → LeadsOn (Joins edges) node nodes end → length nodes ≤ rounds + 1 → (steps : ℕ) × (distance_at new node ≡ Some steps) × (steps ≤ length nodes)
KnowsWithin-all edges end rounds old new k n node [] leads short =
    let a = k.all node [] leads (omega arith) in
    (a.0, (n.each node (known-inside old node a.0 a.1)).kept a.0 a.1, a.2)
KnowsWithin-all edges end rounds old new k n node (next ∷ rest) leads short = go (cases_lt rounds (length (next ∷ rest)))
  where
    go : (rounds < length (next ∷ rest)) ⊎ (length (next ∷ rest) ≤ rounds) → (steps : ℕ) × (distance_at new node ≡ Some steps) × (steps ≤ length (next ∷ rest))
    go (inl l) =
        let a = k.all next rest leads.1 (omega arith) in
        let inside : node < length old = let e = k.size in let j = leads.0.from_inside in omega arith in
        let s = number_of _ ((n.each node inside).all (next, leads.0, a.0, a.1)) in
        let w = (KnowsWithin-right edges end rounds old new k n node s.0 s.1).within in
        (s.0, s.1, omega arith)
    go (inr l) =
        let a = k.all node (next ∷ rest) leads l in
        (a.0, (n.each node (known-inside old node a.0 a.1)).kept a.0 a.1, a.2)

pub KnowsWithin-next : (edges : Grid) (end rounds : ℕ) (old new : List (Option ℕ)) → KnowsWithin edges end old rounds → AreNextDistances edges old (rounds + 1) new → KnowsWithin edges end new (rounds + 1)
KnowsWithin-next edges end rounds old new k n = record {
  size = n.size ∙ k.size;
  right = KnowsWithin-right edges end rounds old new k n;
  all = KnowsWithin-all edges end rounds old new k n;
}

-- ---- fewer and fewer are unknown

pub unknown : List (Option ℕ) → ℕ
unknown [] = 0
unknown (None ∷ distances) = suc (unknown distances)
unknown (Some _ ∷ distances) = unknown distances

-- what was known is known
abbrev Keeps : List (Option ℕ) → List (Option ℕ) → Type 0
Keeps old new = (k steps : ℕ) → get_or old k None ≡ Some steps → IsSome (get_or new k None)

Keeps-rest : (x y : Option ℕ) (xs ys : List (Option ℕ)) → Keeps (x ∷ xs) (y ∷ ys) → Keeps xs ys
Keeps-rest x y xs ys h k = h (suc k)

pub unknown-length : (distances : List (Option ℕ)) → unknown distances ≤ length distances
unfolding unknown
unknown-length [] = omega arith
unknown-length (None ∷ ds) = let i = unknown-length ds in omega arith
unknown-length (Some _ ∷ ds) = let i = unknown-length ds in omega arith

unknown-le : (old new : List (Option ℕ)) → length new ≡ length old → Keeps old new → unknown new ≤ unknown old
unfolding unknown
unknown-le [] [] e h = omega arith
unknown-le [] (y ∷ ys) e h = absurd (omega arith)
unknown-le (x ∷ xs) [] e h = absurd (omega arith)
unknown-le (None ∷ xs) (None ∷ ys) e h = let i = unknown-le xs ys (omega arith) (Keeps-rest None None xs ys h) in omega arith
unknown-le (None ∷ xs) (Some b ∷ ys) e h = let i = unknown-le xs ys (omega arith) (Keeps-rest None (Some b) xs ys h) in omega arith
unknown-le (Some a ∷ xs) (None ∷ ys) e h = absurd (false≢true (h zero a refl))
unknown-le (Some a ∷ xs) (Some b ∷ ys) e h = let i = unknown-le xs ys (omega arith) (Keeps-rest (Some a) (Some b) xs ys h) in omega arith

unknown-lt : (old new : List (Option ℕ)) → length new ≡ length old → Keeps old new → (k : ℕ) → k < length old → get_or old k None ≡ None → IsSome (get_or new k None) → unknown new < unknown old
unfolding unknown
unknown-lt [] new e h k l was is = absurd (omega arith)
unknown-lt (x ∷ xs) [] e h k l was is = absurd (omega arith)
unknown-lt (None ∷ xs) (None ∷ ys) e h zero l was is = absurd (false≢true is)
unknown-lt (None ∷ xs) (Some b ∷ ys) e h zero l was is = let i = unknown-le xs ys (omega arith) (Keeps-rest None (Some b) xs ys h) in omega arith
unknown-lt (Some a ∷ xs) (y ∷ ys) e h zero l was is = absurd cc
unknown-lt (None ∷ xs) (None ∷ ys) e h (suc k) l was is = let i = unknown-lt xs ys (omega arith) (Keeps-rest None None xs ys h) k (omega arith) was is in omega arith
unknown-lt (None ∷ xs) (Some b ∷ ys) e h (suc k) l was is = let i = unknown-lt xs ys (omega arith) (Keeps-rest None (Some b) xs ys h) k (omega arith) was is in omega arith
unknown-lt (Some a ∷ xs) (None ∷ ys) e h (suc k) l was is = absurd (false≢true (h zero a refl))
unknown-lt (Some a ∷ xs) (Some b ∷ ys) e h (suc k) l was is = let i = unknown-lt xs ys (omega arith) (Keeps-rest (Some a) (Some b) xs ys h) k (omega arith) was is in omega arith

-- on a walk from an unknown node to the end some edge leads from an unknown node to a known one
crossing : (edges : Grid) (end rounds : ℕ) (distances : List (Option ℕ)) → KnowsWithin edges end distances rounds → (node : ℕ) → Leads (Joins edges) node end → distance_at distances node ≡ None → (u : ℕ) × (u < length distances) × (distance_at distances u ≡ None) × LeadsToKnown edges distances u
crossing edges end rounds distances k node here none = let a = k.all node [] refl (omega arith) in let e = a.1 in absurd cc
crossing edges end rounds distances k node (onward {y = next} e walk) none = go (known (distance_at distances next)) (λ h. crossing edges end rounds distances k next walk h)
  where
    go : (distance_at distances next ≡ None) ⊎ ((steps : ℕ) × (distance_at distances next ≡ Some steps)) → (distance_at distances next ≡ None → (u : ℕ) × (u < length distances) × (distance_at distances u ≡ None) × LeadsToKnown edges distances u) → (u : ℕ) × (u < length distances) × (distance_at distances u ≡ None) × LeadsToKnown edges distances u
    go (inl h) rest = rest h
    go (inr s) rest = (node, (let a = k.size in let b = e.from_inside in omega arith), none, (next, e, s.0, s.1))

-- each round makes one more known, as long as a node that leads to the end is not
pub unknown-next : (edges : Grid) (end rounds round : ℕ) (old new : List (Option ℕ)) → KnowsWithin edges end old rounds → AreNextDistances edges old round new → (node : ℕ) → Leads (Joins edges) node end → distance_at old node ≡ None → unknown new < unknown old
unknown-next edges end rounds round old new k n node walk none =
    let c = crossing edges end rounds old k node walk none in
    unknown-lt old new n.size keeps c.0 c.1 c.2 ((n.each c.0 c.1).all c.3)
  where
    keeps : Keeps old new
    keeps u steps h = subst (λ (o : Option ℕ). IsSome o) (sym ((n.each u (known-inside old u steps h)).kept steps h)) refl
