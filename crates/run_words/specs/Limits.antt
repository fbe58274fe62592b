-- How much is told.
use Rattle.std.specs.Prelude.{ℕ}

-- lines or jobs of a kind
abbrev pub most_told : ℕ
most_told = 8

-- bytes of a word of the input
abbrev pub most_word : ℕ
most_word = 40

-- arguments of a call
abbrev pub most_arguments : ℕ
most_arguments = 12
