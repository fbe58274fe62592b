-- Sets of nodes: for each node whether it is in the set.
use Rattle.std.specs.Prelude.{◌≡◌, ℕ, ◌<◌, List, Bool, true, false, length, slice_index_or}

-- whether a node is in a set
abbrev pub is_in : List Bool → ℕ → Bool
is_in members node = slice_index_or members node false

-- a set of so many nodes that has none of them
pub record IsEmptySet (members : List Bool) (size : ℕ) : Type 0 where
  pub size_is : length members ≡ size
  pub none : (node : ℕ) → node < size → is_in members node ≡ false

-- one node is in it, and the others are as they were
pub record InsertsNode (old new : List Bool) (node : ℕ) : Type 0 where
  pub size : length new ≡ length old
  pub here : is_in new node ≡ true
  pub others : (other : ℕ) → other < length old → ¬ (other ≡ node) → is_in new other ≡ is_in old other
