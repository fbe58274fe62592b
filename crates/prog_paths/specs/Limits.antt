-- How many questions are answered, and how many unknowns the paths of a program have.
use Rattle.std.specs.Prelude.{ℕ, ◌*◌}
use Rattle.prog_check.specs.Limits.{most_statements}

-- the most questions that an analysis or a checker answers
abbrev pub most_questions : ℕ
most_questions = 1000000

-- the most unknowns of a statement
abbrev pub most_unknowns : ℕ
most_unknowns = 3

-- the most parameters or unknowns of a program
abbrev pub most_terms : ℕ
most_terms = most_unknowns * most_statements
