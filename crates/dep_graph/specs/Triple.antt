-- Three nodes with two vulnerable edges in a row and a way back, and the least of them.
use Rattle.std.specs.Prelude.{ℕ, [], ◌∷◌, ◌≡◌, ◌≤◌}
use Rattle.dep_graph.specs.declared.triple.Triple.{Triple}
use Rattle.order_facts.specs.Square.{Grid, Joins}
use Rattle.prog_paths.specs.StaticGraph.{IsAtMost}

-- a vulnerable edge from x to y, one from y to z, and z reaches x
pub record ClosesAt (vulnerable reach : Grid) (x y z : ℕ) : Type 0 where
  pub first : Joins vulnerable x y
  pub second : Joins vulnerable y z
  pub back : Joins reach z x

-- the least node that closes a structure behind x and y
pub record IsLeastEnd (vulnerable reach : Grid) (x y z : ℕ) : Type 0 where
  pub closes : ClosesAt vulnerable reach x y z
  pub least : (other : ℕ) → ClosesAt vulnerable reach x y other → z ≤ other

-- the least two nodes that close a structure behind x
pub record IsLeastPair (vulnerable reach : Grid) (x : ℕ) (t : Triple) : Type 0 where
  pub behind : t.x ≡ x
  pub closes : ClosesAt vulnerable reach t.x t.y t.z
  pub least : (y z : ℕ) → ClosesAt vulnerable reach x y z → IsAtMost (t.y ∷ t.z ∷ []) (y ∷ z ∷ [])

-- the least three nodes that make a structure
pub record IsLeastTriple (vulnerable reach : Grid) (t : Triple) : Type 0 where
  pub closes : ClosesAt vulnerable reach t.x t.y t.z
  pub least : (x y z : ℕ) → ClosesAt vulnerable reach x y z → IsAtMost (t.x ∷ t.y ∷ t.z ∷ []) (x ∷ y ∷ z ∷ [])
