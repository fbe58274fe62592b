-- Dependencies of a history, over who starts when and who looks at or changes what. Instances are numbered from 1 by
-- their commits.
use Rattle.std.specs.Prelude.{◌≢◌, ℕ, ◌<◌, ◌≤◌, ◌⊎◌}

-- both change a cell, the first one earlier
pub record WriteWriteBy (C : Type 0) (changes : ℕ → C → Type 0) (i j : ℕ) : Type 0 where
  pub cell : C
  pub before : i < j
  pub first : changes i cell
  pub second : changes j cell

-- the second one's snapshot has a change of the first
pub record WriteReadBy (C : Type 0) (start : ℕ → ℕ) (looks changes : ℕ → C → Type 0) (i j : ℕ) : Type 0 where
  pub cell : C
  pub seen : i ≤ start j
  pub change : changes i cell
  pub look : looks j cell

-- the first one's snapshot lacks a change of the second
pub record ReadWriteBy (C : Type 0) (start : ℕ → ℕ) (looks changes : ℕ → C → Type 0) (i j : ℕ) : Type 0 where
  pub cell : C
  pub other : i ≢ j
  pub unseen : start i < j
  pub look : looks i cell
  pub change : changes j cell

abbrev pub DependsBy : (C : Type 0) → (ℕ → ℕ) → (ℕ → C → Type 0) → (ℕ → C → Type 0) → ℕ → ℕ → Type 0
DependsBy C start looks changes i j =
    WriteWriteBy C changes i j ⊎ WriteReadBy C start looks changes i j ⊎ ReadWriteBy C start looks changes i j
