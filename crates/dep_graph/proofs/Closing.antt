-- What is reached through all nodes is what walks lead to.
use Rattle.std.proofs.Common.{◌≡◌, ℕ, zero, suc, ◌<◌, ◌≤◌, ◌+◌, ◌⊎◌, inl, inr, Bool, true, false, ◌||◌, ◌&&◌, refl, sym, ap, subst, ◌∙◌, arith}
use Rattle.std.specs.Prelude.{◌==◌, ◌≢◌}
use Rattle.std.proofs.lemmas.Bool.{or_cases, or_left, or_right, and_parts, and_from, eqb-true, eq-eqb, cases_lt}
use Rattle.std.proofs.lemmas.Bool.Decides.{eqb_tells}
use Rattle.prog_paths.specs.StaticGraph.{Leads, here, onward}
use Rattle.order_facts.specs.Square.{Grid, entry, Joins, RaisesEntry, JoinsThrough}
use Rattle.dep_graph.specs.Reaching.{JoinsEachToItself, IsReachOf}

pub Leads-trans : {edge : ℕ → ℕ → Type 0} {x y z : ℕ} → Leads edge x y → Leads edge y z → Leads edge x z
Leads-trans here w = w
Leads-trans (onward e v) w = onward e (Leads-trans v w)

-- ---- through the nodes below a bound alone

-- the same node, or joined by an edge; one more node joins what leads to it to what it leads to
unfoldable pub leads_through : (ℕ → ℕ → Bool) → ℕ → ℕ → ℕ → Bool
leads_through edge zero x y = x == y || edge x y
leads_through edge (suc k) x y =
    leads_through edge k x y || (leads_through edge k x k && leads_through edge k k y)

through_one : (edge : ℕ → ℕ → Bool) (x y : ℕ) → edge x y ≡ true → (k : ℕ) → leads_through edge k x y ≡ true
unfolding leads_through
through_one edge x y e zero = or_right (x == y) _ e
through_one edge x y e (suc k) = or_left _ _ (through_one edge x y e k)

through_same : (edge : ℕ → ℕ → Bool) (x k : ℕ) → leads_through edge k x x ≡ true
unfolding leads_through
through_same edge x zero = or_left (x == x) _ (eq-eqb x x refl)
through_same edge x (suc k) = or_left _ _ (through_same edge x k)

through_cases : (edge : ℕ → ℕ → Bool) (k x y : ℕ) → leads_through edge (suc k) x y ≡ true → (leads_through edge k x y ≡ true) ⊎ ((leads_through edge k x k ≡ true) × (leads_through edge k k y ≡ true))
unfolding leads_through
through_cases edge k x y h = go (or_cases (leads_through edge k x y) _ h)
  where
    go : (leads_through edge k x y ≡ true) ⊎ ((leads_through edge k x k && leads_through edge k k y) ≡ true) → (leads_through edge k x y ≡ true) ⊎ ((leads_through edge k x k ≡ true) × (leads_through edge k k y ≡ true))
    go (inl a) = inl a
    go (inr b) = inr (and_parts _ _ b)

through_old : (edge : ℕ → ℕ → Bool) (k x y : ℕ) → leads_through edge k x y ≡ true → leads_through edge (suc k) x y ≡ true
unfolding leads_through
through_old edge k x y h = or_left _ _ h

through_new : (edge : ℕ → ℕ → Bool) (k x y : ℕ) → leads_through edge k x k ≡ true → leads_through edge k k y ≡ true → leads_through edge (suc k) x y ≡ true
unfolding leads_through
through_new edge k x y a b = or_right (leads_through edge k x y) _ (and_from _ _ a b)

-- two walks through nodes below the bound join at one of these nodes
abbrev Joined : (ℕ → ℕ → Bool) → ℕ → ℕ → Type 0
Joined edge k m = (x y : ℕ) → leads_through edge k x m ≡ true → leads_through edge k m y ≡ true → leads_through edge k x y ≡ true

-- the last step of a walk through one more node, if it takes it
abbrev Split : (ℕ → ℕ → Bool) → ℕ → ℕ → ℕ → Type 0
Split edge k x y = (leads_through edge k x y ≡ true) ⊎ ((leads_through edge k x k ≡ true) × (leads_through edge k k y ≡ true))

joined_below : (edge : ℕ → ℕ → Bool) (k m x y : ℕ) → Joined edge k m → Split edge k x m → Split edge k m y → leads_through edge (suc k) x y ≡ true
joined_below edge k m x y deep (inl a) (inl b) = through_old edge k x y (deep x y a b)
joined_below edge k m x y deep (inl a) (inr b) = through_new edge k x y (deep x k a b.0) b.1
joined_below edge k m x y deep (inr a) (inl b) = through_new edge k x y a.0 (deep k y a.1 b)
joined_below edge k m x y deep (inr a) (inr b) = through_new edge k x y a.0 b.1

joined_at : (edge : ℕ → ℕ → Bool) (k x y : ℕ) → Split edge k x k → Split edge k k y → leads_through edge (suc k) x y ≡ true
joined_at edge k x y (inl a) (inl b) = through_new edge k x y a b
joined_at edge k x y (inl a) (inr b) = through_new edge k x y a b.1
joined_at edge k x y (inr a) (inl b) = through_new edge k x y a.0 b
joined_at edge k x y (inr a) (inr b) = through_new edge k x y a.0 b.1

through_joined : (edge : ℕ → ℕ → Bool) (k m : ℕ) → m < k → Joined edge k m
through_joined edge zero m l x y a b = absurd (omega arith)
through_joined edge (suc k) m l x y a b = go (cases_lt m k) (λ i. through_joined edge k m i) (through_cases edge k x m a) (through_cases edge k m y b)
  where
    go : (m < k) ⊎ (k ≤ m) → (m < k → Joined edge k m) → Split edge k x m → Split edge k m y → leads_through edge (suc k) x y ≡ true
    go (inl i) deep a b = joined_below edge k m x y (deep i) a b
    go (inr i) deep a b =
        let e : m ≡ k = omega arith in
        joined_at edge k x y (subst (λ n. Split edge k x n) e a) (subst (λ n. Split edge k n y) e b)

-- ---- through all nodes, and walks

Leads-from_through : (edges : Grid) (k x y : ℕ) → k ≤ edges.size → x < edges.size → y < edges.size → leads_through (entry edges) k x y ≡ true → Leads (Joins edges) x y
unfolding leads_through
Leads-from_through edges zero x y n p q h = go (or_cases (x == y) (entry edges x y) h)
  where
    go : ((x == y) ≡ true) ⊎ (entry edges x y ≡ true) → Leads (Joins edges) x y
    go (inl e) = subst (λ n. Leads (Joins edges) x n) (eqb-true x y e) here
    go (inr e) = onward (record { from_inside = p; to_inside = q; joined = e }) here
Leads-from_through edges (suc k) x y n p q h = go (through_cases (entry edges) k x y h) (λ i j a b t. Leads-from_through edges k i j (omega arith) a b t)
  where
    inside : k < edges.size
    inside = omega arith

    go : Split (entry edges) k x y → ((i j : ℕ) → i < edges.size → j < edges.size → leads_through (entry edges) k i j ≡ true → Leads (Joins edges) i j) → Leads (Joins edges) x y
    go (inl a) walk = walk x y p q a
    go (inr b) walk = Leads-trans (walk x k p inside b.0) (walk k y inside q b.1)

through-from_Leads : (edges : Grid) (x y : ℕ) → Leads (Joins edges) x y → leads_through (entry edges) edges.size x y ≡ true
through-from_Leads edges x y here = through_same (entry edges) x edges.size
through-from_Leads edges x y (onward {y = m} e w) = through_joined (entry edges) edges.size m e.to_inside x y (through_one (entry edges) x m e.joined edges.size) (through-from_Leads edges m y w)

-- ---- the code

pub IsReachOf-from_through : (reach edges : Grid) → reach.size ≡ edges.size → ((i j : ℕ) → i < edges.size → j < edges.size → entry reach i j ≡ leads_through (entry edges) edges.size i j) → IsReachOf reach edges
IsReachOf-from_through reach edges size same = record {
  size = size;
  walks = λ x y p q. (
    λ h. Leads-from_through edges edges.size x y (omega arith) p q (sym (same x y p q) ∙ h),
    λ w. same x y p q ∙ through-from_Leads edges x y w,
  );
}

pub entries-first : (reach edges : Grid) → JoinsEachToItself reach edges → (i j : ℕ) → i < edges.size → j < edges.size → entry reach i j ≡ leads_through (entry edges) 0 i j
unfolding leads_through
entries-first reach edges j = j.entries

pub entries-next : (old new edges : Grid) (k : ℕ) → old.size ≡ edges.size → k < edges.size → ((i j : ℕ) → i < edges.size → j < edges.size → entry old i j ≡ leads_through (entry edges) k i j) → JoinsThrough old new k → (i j : ℕ) → i < edges.size → j < edges.size → entry new i j ≡ leads_through (entry edges) (k + 1) i j
unfolding leads_through
entries-next old new edges k size inside before joins i j p q =
    let joined : entry new i j ≡ (entry old i j || (entry old i k && entry old k j)) = joins.entries i j (omega arith) (omega arith) in
    joined ∙ rw (before i j p q, before i k p inside, before k j inside q) (ap (λ n. leads_through (entry edges) n i j) next)
  where
    next : suc k ≡ k + 1
    next = omega arith

-- one more node joined to itself
pub entries-itself : (old new edges : Grid) (k : ℕ) → old.size ≡ edges.size → k < edges.size
    → ((i j : ℕ) → i < k → j < edges.size → entry old i j ≡ (i == j || entry edges i j))
    → ((i j : ℕ) → i < edges.size → j < edges.size → k ≤ i → entry old i j ≡ entry edges i j)
    → RaisesEntry old new k k
    → (i j : ℕ) → i < k + 1 → j < edges.size → entry new i j ≡ (i == j || entry edges i j)
entries-itself old new edges k size inside before ahead raises i j p q = go (cases_lt i k) (eqb_tells i j)
  where
    go : (i < k) ⊎ (k ≤ i) → (((i == j) ≡ true) × (i ≡ j)) ⊎ (((i == j) ≡ false) × (i ≢ j)) → entry new i j ≡ (i == j || entry edges i j)
    go (inl l) t = raises.others i j (omega arith) (omega arith) (λ e. let f = e.0 in absurd (omega arith)) ∙ before i j l q
    go (inr l) (inl t) =
        let a : k ≡ i = omega arith in
        let b : k ≡ j = a ∙ t.1 in
        rw t.0 (subst (λ n. entry new n j ≡ true) a (subst (λ n. entry new k n ≡ true) b raises.here))
    go (inr l) (inr t) = raises.others i j (omega arith) (omega arith) (λ e. t.1 (e.0 ∙ sym e.1)) ∙ ahead i j (omega arith) q l ∙ rw t.0 refl
