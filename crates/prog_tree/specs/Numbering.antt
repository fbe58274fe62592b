-- Tables by their numbers.
use Rattle.std.specs.Prelude.{ℕ, ◌+◌, List, [], ◌∷◌, if◌then◌else◌}
use Rattle.prog_tree.specs.declared.table.TableDecl.{TableDecl}
use Rattle.prog_tree.specs.Syntax.{Name}
use Rattle.prog_tree.specs.Value.{same_name}

-- the number of the first table of a name; where there is none, how many tables there are
abbrev pub number_of : List TableDecl → Name → ℕ
number_of [] name = 0
number_of (table ∷ tables) name = if same_name table.name name then 0 else number_of tables name + 1
