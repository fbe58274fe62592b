-- Versions whose newest stands apart.
use Rattle.std.specs.Prelude.{◌≡◌, ℕ, ℤ, ⊤, List, [], ◌∷◌, ◌++◌, Option, Some, None}

-- older versions, with the newest behind them, if there is one
abbrev pub with_newest : List (ℕ × Option ℤ) → Option (ℕ × Option ℤ) → List (ℕ × Option ℤ)
with_newest older None = older
with_newest older (Some version) = older ++ version ∷ []

-- without a newest version there are no older ones
abbrev pub HasNewest : List (ℕ × Option ℤ) → Option (ℕ × Option ℤ) → Type 0
HasNewest older None = older ≡ []
HasNewest older (Some version) = ⊤
