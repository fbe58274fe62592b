-- Ways through a program as far as they have come, and what a statement adds to each.
use Rattle.std.specs.Prelude.{ℕ, ◌*◌, ◌≤◌, Bool, true, false, not, ◌&&◌, ◌||◌, List, [], ◌∷◌, ◌++◌, map, Option, None}
use Rattle.std.specs.List.{AllByRecursion}
use Rattle.std.specs.Option.{option_map_or}
use Rattle.prog_tree.specs.declared.table.TableDecl.{TableDecl}
use Rattle.prog_tree.specs.Syntax.{Name, BlockTree, BlockEnd, Then, Branch, Each, StmtTree, Plain, Fork, Loop, block_from}
use Rattle.prog_check.specs.declared.path.Kind.{Kind}
use Rattle.prog_check.specs.declared.path.Access.{Access}
use Rattle.prog_check.specs.declared.path.Path.{Path}
use Rattle.prog_check.specs.Accesses.{Columns, columns_of, next_unknown, accesses_of, kinds_of}
use Rattle.prog_check.specs.Paths.{Passed, Route, body_passed, accesses_along}
use Rattle.prog_check.specs.Uses.{is_abort, own_statement}
use Rattle.prog_paths.specs.Limits.{most_unknowns}
use Rattle.prog_paths.specs.declared.path.trail.Trail.{Trail}

-- ---- statements

-- what a statement itself, without its blocks, does to its table
abbrev pub kinds_by : (grow : Bool) → StmtTree → List Kind
kinds_by grow stmt = option_map_or (kinds_of grow) (own_statement stmt) []

abbrev pub columns_by : (params : List Name) → (unknown : ℕ) → StmtTree → Option Columns
columns_by params unknown stmt = option_map_or (columns_of params unknown) (own_statement stmt) None

abbrev pub accesses_added : List TableDecl → (params : List Name)
    → (unknown : ℕ) (sure : Bool) (number : ℕ) → StmtTree → List Access
accesses_added tables params unknown sure number stmt =
    option_map_or (accesses_of tables params unknown sure number) (own_statement stmt) []

-- a block that is one statement
abbrev pub alone : StmtTree → BlockTree
alone s = block_from s BlockEnd

-- a statement behind which each run goes on in one way
abbrev pub passes : StmtTree → Bool
passes (Plain s) = not (is_abort s)
passes (Fork test a b) = false
passes (Loop l body) = true

-- some way through a block meets no `abort;`
abbrev pub commits : BlockTree → Bool
commits BlockEnd = true
commits (Then s rest) = not (is_abort s) && commits rest
commits (Branch test a b rest) = (commits a || commits b) && commits rest
commits (Each l body rest) = commits rest

-- ---- trails

-- the number of the next unknown behind statements
abbrev pub unknown_behind : (params : List Name) → (unknown : ℕ) → List Passed → ℕ
unknown_behind params unknown [] = unknown
unknown_behind params unknown (p ∷ later) =
    unknown_behind params (next_unknown unknown (columns_of params unknown p.statement)) later

-- the way so far
abbrev pub trail_of : List Bool → List Access → (unknown : ℕ) → Trail
trail_of choices accesses unknown = record { choices = choices; accesses = accesses; unknown = unknown }

-- a trail behind a statement itself, without its blocks
abbrev pub past : List TableDecl → (params : List Name) → (sure : Bool) (number : ℕ) → StmtTree → Trail → Trail
past tables params sure number s t =
    trail_of t.choices (t.accesses ++ accesses_added tables params t.unknown sure number s)
    (next_unknown t.unknown (columns_by params t.unknown s))

-- a trail behind the body of an `each`
abbrev pub past_body : List TableDecl → (params : List Name) → (number : ℕ) → BlockTree → Trail → Trail
past_body tables params number body t =
    trail_of t.choices (t.accesses ++ accesses_along tables params t.unknown (body_passed number body))
    (unknown_behind params t.unknown (body_passed number body))

-- a trail that takes a branch's first block, or its second
abbrev pub with_choice : Bool → Trail → Trail
with_choice first t = trail_of (t.choices ++ first ∷ []) t.accesses t.unknown

-- a trail that goes on along a route
abbrev pub along : List TableDecl → (params : List Name) → Trail → Route → Trail
along tables params t route =
    trail_of (t.choices ++ route.choices) (t.accesses ++ accesses_along tables params t.unknown route.passed)
    (unknown_behind params t.unknown route.passed)

-- each trail along each route
abbrev pub all_along : List TableDecl → (params : List Name) → List Trail → List Route → List Trail
all_along tables params [] rs = []
all_along tables params (t ∷ ts) rs = map (along tables params t) rs ++ all_along tables params ts rs

-- the path of a trail at the end of its program
abbrev pub path_with : (program : ℕ) → Trail → Path
path_with program t = record { program = program; choices = t.choices; accesses = t.accesses }

-- before the statement of this number a trail has met no more unknowns than the most for each
abbrev pub IsLow : (number : ℕ) → Trail → Type 0
IsLow number t = t.unknown ≤ most_unknowns * number

abbrev pub AreLow : (number : ℕ) → List Trail → Type 0
AreLow number ts = AllByRecursion (IsLow number) ts
