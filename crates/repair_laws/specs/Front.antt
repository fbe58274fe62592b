-- The parameters that the programs of a draft keep for the pairs of a plan.
use Rattle.std.specs.Prelude.{◌≡◌, ℕ, ◌<◌, List, length, All, Option, Some, None, slice_get}
use Rattle.prog_tree.specs.Syntax.{ProgramTree}
use Rattle.repair_laws.specs.declared.plan.NewTable.{NewTable}
use Rattle.repair_laws.specs.Materialised.{columns_for}

-- 0, or a parameter of a program that has so many
abbrev pub IsColumn : (count : ℕ) → Option ℕ → Type 0
IsColumn count None = Unit {0}
IsColumn count (Some number) = number < count

-- what a program of this number, with so many parameters, keeps for a pair
abbrev pub HasColumns : (program count : ℕ) → NewTable → Type 0
HasColumns program count m = All (IsColumn count) (columns_for program m)

-- each program has the parameters that it keeps
abbrev pub HaveColumns : List ProgramTree → List NewTable → Type 0
HaveColumns programs made =
    (number : ℕ) (p : ProgramTree) → slice_get programs number ≡ Some p
    → All (HasColumns number (length p.params)) made
