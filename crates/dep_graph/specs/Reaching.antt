-- Which node reaches which, and how a square table is filled with that.
use Rattle.std.specs.Prelude.{◌≡◌, ◌↔◌, ℕ, ◌<◌, true, ◌||◌, ◌==◌}
use Rattle.prog_paths.specs.StaticGraph.{Leads}
use Rattle.order_facts.specs.Square.{Grid, entry, Joins}

-- the one table joins what the other joins, and each node to itself
pub record JoinsEachToItself (new old : Grid) : Type 0 where
  pub size : new.size ≡ old.size
  pub entries : (i j : ℕ) → i < old.size → j < old.size → entry new i j ≡ (i == j || entry old i j)

-- it joins two nodes just where a walk along the edges leads from the first to the second
pub record IsReachOf (reach edges : Grid) : Type 0 where
  pub size : reach.size ≡ edges.size
  pub walks : (x y : ℕ) → x < edges.size → y < edges.size → (entry reach x y ≡ true) ↔ Leads (Joins edges) x y
