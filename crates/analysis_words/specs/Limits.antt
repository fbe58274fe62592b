-- How much is told.
use Rattle.std.specs.Prelude.{ℕ}

-- bytes of a statement
abbrev pub most_quoted : ℕ
most_quoted = 60

-- pairs behind the first
abbrev pub most_further : ℕ
most_further = 7

-- nodes with their levels
abbrev pub most_levels : ℕ
most_levels = 8
