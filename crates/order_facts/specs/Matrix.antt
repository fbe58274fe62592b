-- A square table of what leads to what.
use Rattle.std.specs.Prelude.{◌≡◌, ℕ, ◌<◌, ◌||◌, List, length}
use Rattle.order_facts.specs.declared.steps.Fact.{Fact}
use Rattle.order_facts.specs.Reaches.{is_below, reaches, fact_at}
use Rattle.order_facts.specs.Square.{Grid, entry}

-- one fact is joined to those that it leads to with no fact between, and the other rows are as they were
pub record EntersEnds (old new : Grid) (facts : List Fact) (from : ℕ) : Type 0 where
  pub size : new.size ≡ old.size
  pub here : (j : ℕ) → j < old.size
      → entry new from j ≡ (entry old from j || is_below (fact_at facts from).hi (fact_at facts j).lo)
  pub others : (i j : ℕ) → i < old.size → j < old.size → ¬ (i ≡ from) → entry new i j ≡ entry old i j

-- for each two of the facts, whether `used` put the upper node of the first below the lower node of the second
pub record IsMatrixOf (m : Grid) (facts used : List Fact) : Type 0 where
  pub size : m.size ≡ length facts
  pub entries : (i j : ℕ) → i < m.size → j < m.size
      → entry m i j ≡ reaches used (fact_at facts i).hi (fact_at facts j).lo
