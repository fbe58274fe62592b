-- What is said of edges is said of any relation that holds of the same nodes.
use Rattle.std.proofs.Common.{ℕ, List, [], ◌∷◌}
use Rattle.prog_paths.specs.StaticGraph.{Leads, here, onward}
use Rattle.dep_graph.specs.Ways.{LeadsOn, IsWay, IsLeastWay}

-- whatever the one joins, the other joins
abbrev pub IsWithin : (ℕ → ℕ → Type 0) → (ℕ → ℕ → Type 0) → Type 0
IsWithin R S = (x y : ℕ) → R x y → S x y

pub Leads-within : (R S : ℕ → ℕ → Type 0) → IsWithin R S → (x y : ℕ) → Leads R x y → Leads S x y
Leads-within R S h x _ here = here
Leads-within R S h x z (onward {y = y} e w) = onward (h x y e) (Leads-within R S h y z w)

LeadsOn-within : (R S : ℕ → ℕ → Type 0) → IsWithin R S → (node : ℕ) (nodes : List ℕ) (end : ℕ) → LeadsOn R node nodes end → LeadsOn S node nodes end
LeadsOn-within R S h node [] end w = w
LeadsOn-within R S h node (next ∷ rest) end w = (h node next w.0, LeadsOn-within R S h next rest end w.1)

pub IsWay-within : (R S : ℕ → ℕ → Type 0) → IsWithin R S → (from end : ℕ) (nodes : List ℕ) → IsWay R from end nodes → IsWay S from end nodes
IsWay-within R S h from end [] w = absurd w
IsWay-within R S h from end (node ∷ rest) w = (w.0, LeadsOn-within R S h node rest end w.1)

pub IsLeastWay-alike : (R S : ℕ → ℕ → Type 0) → IsWithin R S → IsWithin S R → (from end : ℕ) (nodes : List ℕ) → IsLeastWay R from end nodes → IsLeastWay S from end nodes
IsLeastWay-alike R S to back from end nodes w = record {
  way = IsWay-within R S to from end nodes w.way;
  shortest = λ others o. w.shortest others (IsWay-within S R back from end others o);
  least = λ others o e. w.least others (IsWay-within S R back from end others o) e;
}
