-- Ways as lists of nodes, and the least of the shortest.
use Rattle.std.specs.Prelude.{◌≡◌, ℕ, List, [], ◌∷◌, length, ◌≤◌}
use Rattle.prog_paths.specs.StaticGraph.{IsAtMost}

-- on from a node through the nodes of a list to the end, each joined to the next
abbrev pub LeadsOn : (ℕ → ℕ → Type 0) → ℕ → List ℕ → ℕ → Type 0
LeadsOn edge node [] end = node ≡ end
LeadsOn edge node (next ∷ rest) end = edge node next × LeadsOn edge next rest end

-- a way from a node to another: the nodes that it passes, both ends among them
abbrev pub IsWay : (ℕ → ℕ → Type 0) → ℕ → ℕ → List ℕ → Type 0
IsWay edge from end [] = ⊥
IsWay edge from end (node ∷ rest) = (node ≡ from) × LeadsOn edge node rest end

-- no way is shorter, and none that is as short stands before it
pub record IsLeastWay (edge : ℕ → ℕ → Type 0) (from end : ℕ) (nodes : List ℕ) : Type 0 where
  pub way : IsWay edge from end nodes
  pub shortest : (others : List ℕ) → IsWay edge from end others → length nodes ≤ length others
  pub least : (others : List ℕ) → IsWay edge from end others → length others ≡ length nodes
      → IsAtMost nodes others
