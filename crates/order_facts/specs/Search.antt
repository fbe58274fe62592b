-- What a search for a chain, backward from its end and level by level, has reached.
use Rattle.std.specs.Prelude.{◌≡◌, ℕ, ◌<◌, List, [], ◌∷◌, ◌++◌, length, slice_index_or, ◌⊎◌, Contains}
use Rattle.order_facts.specs.declared.steps.Node.{Node}
use Rattle.order_facts.specs.declared.steps.Node.TheVariants.{Mine}
use Rattle.order_facts.specs.declared.steps.Fact.{Fact}
use Rattle.order_facts.specs.declared.search.Reached.{Reached}
use Rattle.order_facts.specs.Chain.{IsStep}

-- a lower or an upper node of a fact
abbrev pub IsEnd : List Fact → Node → Type 0
IsEnd facts node = (f : Fact) × Contains facts f × ((f.lo ≡ node) ⊎ (f.hi ≡ node))

-- what was reached at a place
abbrev pub reached_at : List Reached → ℕ → Reached
reached_at reached k = slice_index_or reached k (record { node = Mine 0; steps = 0; next = 0 })

-- the node was reached
abbrev pub HasReached : List Reached → Node → Type 0
HasReached reached node = (k : ℕ) × (k < length reached) × ((reached_at reached k).node ≡ node)

-- it leads to one that was reached in fewer steps
abbrev pub LeadsNearer : List Reached → Reached → Type 0
LeadsNearer reached r = (r.next < length reached) × ((reached_at reached r.next).steps < r.steps)

-- each was reached in no step, or leads to one that was reached in fewer
abbrev pub IsDescending : List Reached → Type 0
IsDescending reached =
    (k : ℕ) → k < length reached → ((reached_at reached k).steps ≡ 0) ⊎ LeadsNearer reached (reached_at reached k)

-- it is `y`, reached in no step, or leads to what may stand behind it in a chain
abbrev pub IsLink : List Fact → Node → List Reached → Reached → Type 0
IsLink facts y reached r =
    ((r.steps ≡ 0) × (r.node ≡ y)) ⊎ (LeadsNearer reached r × IsStep facts r.node (reached_at reached r.next).node)

-- from each place chains lead to `y`
abbrev pub IsTrail : List Fact → Node → List Reached → Type 0
IsTrail facts y reached = (k : ℕ) → k < length reached → IsLink facts y reached (reached_at reached k)

-- it was reached in so many steps, by a step to one of the first `known`
pub record IsFresh (facts : List Fact) (reached : List Reached) (known steps : ℕ) (r : Reached) : Type 0 where
  pub steps_are : r.steps ≡ steps
  pub next_known : r.next < known
  pub step : IsStep facts r.node (reached_at reached r.next).node

-- where the node is a step from one of the first `known`, it is reached now
abbrev pub ReachesBefore : List Fact → List Reached → List Reached → ℕ → Node → Type 0
ReachesBefore facts old new known node =
    (k : ℕ) → k < known → IsStep facts node (reached_at old k).node → HasReached new node

-- the node is added, or nothing is
pub record Adds (facts : List Fact) (old new : List Reached) (known : ℕ) (node : Node) (steps : ℕ) : Type 0 where
  pub grows : (new ≡ old) ⊎ ((r : Reached) × (new ≡ old ++ r ∷ []) × IsFresh facts old known steps r)
  pub reaches_node : ReachesBefore facts old new known node

-- what is new was reached in so many steps
pub record IsGrown (facts : List Fact) (old new : List Reached) (steps : ℕ) : Type 0 where
  pub more : List Reached
  pub appended : new ≡ old ++ more
  pub fresh : (k : ℕ) → k < length more → IsFresh facts old (length old) steps (reached_at more k)

-- the next level: every end of a fact that is a step from what was reached is reached now
pub record Spreads (facts : List Fact) (old new : List Reached) (steps : ℕ) : Type 0 where
  pub grown : IsGrown facts old new steps
  pub ends : (node : Node) → IsEnd facts node → ReachesBefore facts old new (length old) node
