-- How much of the input is taken.
use Rattle.std.specs.Prelude.{ℕ}

-- the greatest length of the input
abbrev pub input_limit : ℕ
input_limit = 16777216

-- the most events of a script
abbrev pub most_events : ℕ
most_events = 1000000

-- the greatest number of an instance
abbrev pub greatest_instance : ℕ
greatest_instance = 4294967295

-- the most steps that a line asks for
abbrev pub most_steps : ℕ
most_steps = 1000
