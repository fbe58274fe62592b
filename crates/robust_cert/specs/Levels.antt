-- Levels that fall, or don't rise, over edges: those of any relation, and those of a table.
use Rattle.std.specs.Prelude.{◌≡◌, ℕ, ◌<◌, ◌≤◌, List, [], ◌∷◌}
use Rattle.prog_paths.specs.declared.accesses.mark.EdgeTables.{EdgeTables}
use Rattle.robust_cert.specs.declared.checking.levels.Edge.{Edge}
use Rattle.robust_cert.specs.declared.checking.levels.Triple.{Triple}
use Rattle.robust_cert.specs.declared.fault.CertFault.{CertFault}
use Rattle.robust_cert.specs.declared.fault.CertFault.TheVariants.{LevelFalls, Dangerous}
use Rattle.robust_cert.specs.Accepted.{level_in}
use Rattle.order_facts.specs.Square.{Grid, Joins}
use Rattle.prog_paths.specs.StaticGraph.{IsAtMost}

-- ---- edges of any relation

-- the level falls along an edge
pub record FallsAlong (joins : ℕ → ℕ → Type 0) (level : ℕ → ℕ) (x y : ℕ) : Type 0 where
  pub edge : joins x y
  pub falls : level y < level x

-- the least edge along which it falls
pub record IsLeastFall (joins : ℕ → ℕ → Type 0) (level : ℕ → ℕ) (p : Edge) : Type 0 where
  pub falls : FallsAlong joins level p.x p.y
  pub least : (x y : ℕ) → FallsAlong joins level x y → IsAtMost (p.x ∷ p.y ∷ []) (x ∷ y ∷ [])

-- the level doesn't rise over two vulnerable edges
pub record Stays (vulnerable : ℕ → ℕ → Type 0) (level : ℕ → ℕ) (x y z : ℕ) : Type 0 where
  pub first : vulnerable x y
  pub second : vulnerable y z
  pub stays : level z ≤ level x

-- the least two vulnerable edges over which it doesn't rise
pub record IsLeastStay (vulnerable : ℕ → ℕ → Type 0) (level : ℕ → ℕ) (t : Triple) : Type 0 where
  pub stays : Stays vulnerable level t.x t.y t.z
  pub least : (x y z : ℕ) → Stays vulnerable level x y z → IsAtMost (t.x ∷ t.y ∷ t.z ∷ []) (x ∷ y ∷ z ∷ [])

-- which fault the levels have
abbrev pub IsLevelFault : (joins vulnerable : ℕ → ℕ → Type 0) → (ℕ → ℕ) → CertFault → Type 0
IsLevelFault joins vulnerable level (LevelFalls x y) = IsLeastFall joins level (record { x = x; y = y })
IsLevelFault joins vulnerable level (Dangerous x y z) =
    ((u v : ℕ) → ¬ FallsAlong joins level u v)
    × IsLeastStay vulnerable level (record { x = x; y = y; z = z })
IsLevelFault joins vulnerable level _ = ⊥

-- ---- edges of a table

abbrev pub FallsIn : Grid → List ℕ → ℕ → ℕ → Type 0
FallsIn edges levels = FallsAlong (Joins edges) (level_in levels)

abbrev pub StaysIn : Grid → List ℕ → ℕ → ℕ → ℕ → Type 0
StaysIn vulnerable levels = Stays (Joins vulnerable) (level_in levels)

-- the least node to which the level falls from x
pub record FallsFirst (edges : Grid) (levels : List ℕ) (x y : ℕ) : Type 0 where
  pub falls : FallsIn edges levels x y
  pub least : (other : ℕ) → FallsIn edges levels x other → y ≤ other

-- the least node to which it doesn't rise from x by way of y
pub record StaysFirst (vulnerable : Grid) (levels : List ℕ) (x y z : ℕ) : Type 0 where
  pub stays : StaysIn vulnerable levels x y z
  pub least : (other : ℕ) → StaysIn vulnerable levels x y other → z ≤ other

-- the lowest level that a vulnerable edge leads to from y
pub record IsLowestBehind (vulnerable : Grid) (levels : List ℕ) (y lowest : ℕ) : Type 0 where
  pub behind : (z : ℕ) × Joins vulnerable y z × (level_in levels z ≡ lowest)
  pub lowest_of_all : (z : ℕ) → Joins vulnerable y z → lowest ≤ level_in levels z

-- the level doesn't rise from x by way of y, to some node
abbrev pub StaysBy : Grid → List ℕ → ℕ → ℕ → Type 0
StaysBy vulnerable levels x y = (z : ℕ) × StaysIn vulnerable levels x y z

-- the least node from which it doesn't rise by way of y
pub record StaysFirstBy (vulnerable : Grid) (levels : List ℕ) (x y : ℕ) : Type 0 where
  pub stays : StaysBy vulnerable levels x y
  pub least : (other z : ℕ) → StaysIn vulnerable levels other y z → x ≤ other

-- the first of the least two vulnerable edges over which it doesn't rise
pub record IsLeastFirstEdge (vulnerable : Grid) (levels : List ℕ) (p : Edge) : Type 0 where
  pub stays : StaysBy vulnerable levels p.x p.y
  pub least : (x y z : ℕ) → StaysIn vulnerable levels x y z → IsAtMost (p.x ∷ p.y ∷ []) (x ∷ y ∷ [])

-- the levels never fall along an edge, and rise over two vulnerable ones
pub record RiseOver (left : EdgeTables) (levels : List ℕ) : Type 0 where
  pub never_fall : (x y : ℕ) → ¬ FallsIn left.edges levels x y
  pub rise : (x y z : ℕ) → ¬ StaysIn left.vulnerable levels x y z
