-- How large a set may be.
use Rattle.std.specs.Prelude.{ℕ}

-- the most tables of a set
abbrev pub most_tables : ℕ
most_tables = 64

-- the most programs of a set
abbrev pub most_programs : ℕ
most_programs = 16

-- the most parameters of a program
abbrev pub most_parameters : ℕ
most_parameters = 8

-- the most statements of a program, with those of its blocks
abbrev pub most_statements : ℕ
most_statements = 256

-- the most committing paths of a program
abbrev pub most_paths : ℕ
most_paths = 32

-- the most accesses on a committing path
abbrev pub most_accesses : ℕ
most_accesses = 24
