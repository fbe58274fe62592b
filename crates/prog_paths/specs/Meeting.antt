-- What an access is under an assignment.
use Rattle.std.specs.Prelude.{◌≡◌, ℕ, ℤ, pos, ◌≤ℤ◌, ◌⊎◌, ◌==◌, ◌||◌, Bool, true, false, Option, Some, None, if◌then◌else◌}
use Rattle.prog_tree.specs.declared.cell.Cell.{Cell}
use Rattle.prog_tree.specs.Number.{IsI64}
use Rattle.prog_check.specs.declared.path.Kind.TheVariants.{Writes, Adds, Keeps}
use Rattle.prog_check.specs.declared.path.Term.{Term}
use Rattle.prog_check.specs.declared.path.Term.TheVariants.{Param, Literal, Unknown}
use Rattle.prog_check.specs.declared.path.Column.{Column}
use Rattle.prog_check.specs.declared.path.Access.{Access}

-- a number for each parameter and each unknown of one instance
pub record Assignment : Type 0 where
  pub parameter : ℕ → ℤ
  pub unknown : ℕ → ℤ

-- each of an assignment's numbers is an i64
pub record IsOfI64 (v : Assignment) : Type 0 where
  pub parameter : (i : ℕ) → IsI64 (v.parameter i)
  pub unknown : (i : ℕ) → IsI64 (v.unknown i)

-- what a term is under an assignment
abbrev pub number_under : Assignment → Term → ℤ
number_under v (Param i) = v.parameter i
number_under v (Literal k) = k
number_under v (Unknown i) = v.unknown i

-- a number lies between the two ends of a column
abbrev pub IsWithin : Assignment → Column → ℤ → Type 0
IsWithin v column z = (number_under v column.low ≤ℤ z) × (z ≤ℤ number_under v column.high)

-- a table of one column has the number 0 for the second
abbrev pub IsWithinSecond : Assignment → Option Column → ℤ → Type 0
IsWithinSecond v None z = z ≡ pos 0
IsWithinSecond v (Some column) z = IsWithin v column z

-- the low end of a second column
abbrev pub second_under : Assignment → Option Column → ℤ
second_under v None = pos 0
second_under v (Some column) = number_under v column.low

-- under an assignment an access is a set of cells; this cell is one of them
pub record IsOf (v : Assignment) (access : Access) (cell : Cell) : Type 0 where
  pub table : cell.table ≡ access.table
  pub first : IsWithin v access.first cell.first
  pub second : IsWithinSecond v access.second cell.second

-- the cell of an access that is a single cell
abbrev pub cell_under : Assignment → Access → Cell
cell_under v a = record { table = a.table; first = number_under v a.first.low; second = second_under v a.second }

-- an access that changes or keeps its cell
abbrev pub MayTouch : Access → Type 0
MayTouch a = (a.kind ≡ Writes) ⊎ (a.kind ≡ Adds) ⊎ (a.kind ≡ Keeps)

-- an access that may cover: each run that follows its path changes or keeps its cell
abbrev pub MayCover : Access → Type 0
MayCover a = (a.sure ≡ true) × MayTouch a

-- ---- times: an access in the body of an `each` is made once for each row of a list

-- the term is the unknown of this number
abbrev pub is_unknown_at : Term → ℕ → Bool
is_unknown_at (Param i) n = false
is_unknown_at (Literal k) n = false
is_unknown_at (Unknown i) n = i == n

abbrev pub column_has : Column → ℕ → Bool
column_has c n = is_unknown_at c.low n || is_unknown_at c.high n

abbrev pub second_has : Option Column → ℕ → Bool
second_has None n = false
second_has (Some c) n = column_has c n

-- the unknown of this number is one of an access's own
abbrev pub has_unknown : Access → ℕ → Bool
has_unknown a n = column_has a.first n || second_has a.second n

-- an assignment, with these values of an access's own unknowns
abbrev pub with_own : Access → (ℕ → ℤ) → Assignment → Assignment
with_own a values v =
    record { parameter = v.parameter; unknown = λ n. if has_unknown a n then values n else v.unknown n }

-- What an assignment is to an access each time that it is made: itself, where the access is sure; else with some values
-- of the access's own unknowns.
abbrev pub IsTimeOf : (sure : Bool) → Access → Assignment → Assignment → Type 0
IsTimeOf true a v w = w ≡ v
IsTimeOf false a v w = (values : ℕ → ℤ) × ((n : ℕ) → IsI64 (values n)) × (w ≡ with_own a values v)

abbrev pub IsTime : Access → Assignment → Assignment → Type 0
IsTime a v w = IsTimeOf a.sure a v w

-- a run that follows the access's path under an assignment may make the access of this cell, at some time
abbrev pub IsOfOwn : Assignment → Access → Cell → Type 0
IsOfOwn v a c = (w : Assignment) × IsTime a v w × IsOf w a c

-- ---- two accesses

-- the two accesses have a cell in common
abbrev pub Meet : Assignment → Access → Assignment → Access → Type 0
Meet v a w b = (cell : Cell) × IsOf v a cell × IsOf w b cell

-- both ends of a second column are one term
abbrev pub IsSingleSecond : Option Column → Type 0
IsSingleSecond None = Unit {0}
IsSingleSecond (Some column) = column.low ≡ column.high

-- an access of one cell: both ends of each column are one term
abbrev pub IsSingle : Access → Type 0
IsSingle a = (a.first.low ≡ a.first.high) × IsSingleSecond a.second

-- the two accesses are the same single cell
pub record AreSameCell (v : Assignment) (a : Access) (w : Assignment) (b : Access) : Type 0 where
  pub table : a.table ≡ b.table
  pub mine : IsSingle a
  pub theirs : IsSingle b
  pub first : number_under v a.first.low ≡ number_under w b.first.low
  pub second : second_under v a.second ≡ second_under w b.second

-- a pair of assignments under which two accesses meet
pub record MeetsUnder (v w : Assignment) (mine theirs : Access) : Type 0 where
  pub mine_of_i64 : IsOfI64 v
  pub theirs_of_i64 : IsOfI64 w
  pub meet : Meet v mine w theirs

-- runs that follow the paths of two accesses under these assignments may make both of one cell, at some times
abbrev pub MeetAsOwn : Assignment → Assignment → Access → Access → Type 0
MeetAsOwn v w mine theirs =
    (x : Assignment) × (y : Assignment) × IsTime mine v x × IsTime theirs w y × MeetsUnder x y mine theirs

-- some assignments of i64 make the two accesses meet
abbrev pub CanMeet : Access → Access → Type 0
CanMeet mine theirs = (v : Assignment) × (w : Assignment) × MeetsUnder v w mine theirs
