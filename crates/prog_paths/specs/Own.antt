-- The laws of accesses in the bodies of `each`, which are made at many times: their unknowns are their own, so the cell
-- of an access that covers is the same at each time of any other.
use Rattle.std.specs.Prelude.{◌≡◌, ℕ, ℤ, List, true, false, All, Contains}
use Rattle.prog_tree.specs.declared.cell.Cell.{Cell}
use Rattle.prog_tree.specs.Syntax.{DraftTree}
use Rattle.prog_check.specs.declared.path.Access.{Access}
use Rattle.prog_check.specs.Paths.{paths_of}
use Rattle.prog_paths.specs.Meeting.{Assignment, IsOfI64, IsOf, MayCover, cell_under, has_unknown, with_own, IsTime}

-- among these accesses no unknown of one in a body is an end of a sure one
abbrev pub AreOwn : List Access → Type 0
AreOwn accesses =
    (a b : Access) → Contains accesses a → Contains accesses b → a.sure ≡ false → b.sure ≡ true
    → (n : ℕ) → has_unknown b n ≡ true → has_unknown a n ≡ false

-- so it is on each path of a draft
abbrev pub LawOfOwnUnknowns : Type 0
LawOfOwnUnknowns = (draft : DraftTree) → All (λ path. AreOwn path.accesses) (paths_of draft)

-- there the cell of an access that covers is the same at each time of any other
abbrev pub LawOfCovers : Type 0
LawOfCovers =
    (accesses : List Access) → AreOwn accesses → (a b : Access) → Contains accesses a → Contains accesses b
    → MayCover b → (v w : Assignment) → IsTime a v w → cell_under w b ≡ cell_under v b

-- an assignment of i64 is one at each time
abbrev pub LawOfTimes : Type 0
LawOfTimes = (a : Access) (v w : Assignment) → IsOfI64 v → IsTime a v w → IsOfI64 w

-- where an access holds a cell by some values of unknowns, it does so at the time that has these values of its own
abbrev pub LawOfValues : Type 0
LawOfValues =
    (a : Access) (c : Cell) (v : Assignment) (values : ℕ → ℤ)
    → IsOf (record { parameter = v.parameter; unknown = values }) a c → IsOf (with_own a values v) a c
