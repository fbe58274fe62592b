-- How many committing paths a checked set has, how many accesses they have, and how high their terms are numbered.
use Rattle.std.specs.Prelude.{ℕ, ◌<◌, ◌≤◌, ◌*◌, List, length, All, IfSome}
use Rattle.prog_check.specs.declared.path.Term.{Term}
use Rattle.prog_check.specs.declared.path.Term.TheVariants.{Param, Literal, Unknown}
use Rattle.prog_check.specs.declared.path.Column.{Column}
use Rattle.prog_check.specs.declared.path.Access.{Access}
use Rattle.prog_check.specs.declared.path.Path.{Path}
use Rattle.prog_check.specs.Limits.{most_programs, most_paths, most_accesses}
use Rattle.prog_paths.specs.Limits.{most_terms}

-- ---- terms

-- a parameter or an unknown has a number below a bound
abbrev pub IsTermBelow : ℕ → Term → Type 0
IsTermBelow bound (Param i) = i < bound
IsTermBelow bound (Literal k) = Unit {0}
IsTermBelow bound (Unknown i) = i < bound

abbrev pub IsColumnBelow : ℕ → Column → Type 0
IsColumnBelow bound column = IsTermBelow bound column.low × IsTermBelow bound column.high

abbrev pub IsAccessBelow : ℕ → Access → Type 0
IsAccessBelow bound access = IsColumnBelow bound access.first × IfSome access.second (IsColumnBelow bound)

-- ---- paths

-- each program has few paths, and each path few accesses, whose terms are numbered low
pub record AreFew (nodes : List Path) : Type 0 where
  pub paths : length nodes ≤ most_programs * most_paths
  pub accesses : All (λ path. length path.accesses ≤ most_accesses) nodes
  pub terms : All (λ path. All (IsAccessBelow most_terms) path.accesses) nodes
