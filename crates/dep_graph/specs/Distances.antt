-- How many steps lie between each node and the end, as far as it is known.
use Rattle.std.specs.Prelude.{◌≡◌, ℕ, List, length, ◌<◌, ◌≤◌, ◌⊎◌, Option, Some, None, IsSome, slice_index_or}
use Rattle.order_facts.specs.Square.{Grid, Joins}
use Rattle.dep_graph.specs.Ways.{LeadsOn}

-- the distance of a node, if it is known
abbrev pub distance_at : List (Option ℕ) → ℕ → Option ℕ
distance_at distances node = slice_index_or distances node None

-- an edge leads from the node to one of known distance
abbrev pub LeadsToKnown : Grid → List (Option ℕ) → ℕ → Type 0
LeadsToKnown edges distances node =
    (next : ℕ) × Joins edges node next × (steps : ℕ) × (distance_at distances next ≡ Some steps)

-- the distance was not known, and an edge leads to a known one
pub record IsNewlyKnown (edges : Grid) (old : List (Option ℕ)) (round node steps : ℕ) : Type 0 where
  pub was : distance_at old node ≡ None
  pub is_round : steps ≡ round
  pub leads : LeadsToKnown edges old node

-- a node's distance after a round: known ones stay, and what leads to a known one has that of the round
pub record IsNextDistance (edges : Grid) (old : List (Option ℕ)) (round node : ℕ)
    (new : Option ℕ) : Type 0 where
  pub kept : (steps : ℕ) → distance_at old node ≡ Some steps → new ≡ Some steps
  pub right : (steps : ℕ) → new ≡ Some steps
      → (distance_at old node ≡ Some steps) ⊎ IsNewlyKnown edges old round node steps
  pub all : LeadsToKnown edges old node → IsSome new

-- the distances of all nodes after a round
pub record AreNextDistances (edges : Grid) (old : List (Option ℕ)) (round : ℕ)
    (new : List (Option ℕ)) : Type 0 where
  pub size : length new ≡ length old
  pub each : (node : ℕ) → node < length old → IsNextDistance edges old round node (distance_at new node)

-- a known distance is at most `rounds`, and that of a way
pub record IsDistanceOfWay (edges : Grid) (end rounds node steps : ℕ) : Type 0 where
  pub within : steps ≤ rounds
  pub nodes : List ℕ
  pub long : length nodes ≡ steps
  pub leads : LeadsOn (Joins edges) node nodes end

-- known are just the distances of at most `rounds`, and each is that of a shortest way
pub record KnowsWithin (edges : Grid) (end : ℕ) (distances : List (Option ℕ)) (rounds : ℕ) : Type 0 where
  pub size : length distances ≡ edges.size
  pub right : (node steps : ℕ) → distance_at distances node ≡ Some steps
      → IsDistanceOfWay edges end rounds node steps
  pub all : (node : ℕ) (nodes : List ℕ) → LeadsOn (Joins edges) node nodes end → length nodes ≤ rounds
      → (steps : ℕ) × (distance_at distances node ≡ Some steps) × (steps ≤ length nodes)

-- an edge leads to a node that is so many steps from the end
pub record StepsNearer (edges : Grid) (distances : List (Option ℕ)) (node steps next : ℕ) : Type 0 where
  pub edge : Joins edges node next
  pub near : distance_at distances next ≡ Some steps

-- the least of the nodes that are nearer
pub record IsLeastNearer (edges : Grid) (distances : List (Option ℕ)) (node steps next : ℕ) : Type 0 where
  pub nearer : StepsNearer edges distances node steps next
  pub least : (other : ℕ) → StepsNearer edges distances node steps other → next ≤ other
