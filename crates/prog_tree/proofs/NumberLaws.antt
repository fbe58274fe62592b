-- Laws of i64, and of table states and changes whose numbers are i64.
use Rattle.std.proofs.Common.{◌↔◌, ℤ, pos, negsuc, [], ◌∷◌, arith}
use Rattle.std.proofs.lemmas.Int.{ints}
use Rattle.std.proofs.lemmas.Bool.Decides.{nat_tests}
use Rattle.std.proofs.lemmas.List.Elements.{All-head, All-tail, All-filter, All-from_recursion, recursion_from_All}
use Rattle.std.specs.List.{AllByRecursion}
use Rattle.std.specs.Ordering.{match_ordering}
use Rattle.std.specs.Prelude.{Option, Some, None, IfSome, IsTrue, not}
use Rattle.std.specs.declared.cmp.Ordering.TheVariants.{Less, Equal, Greater}
use Rattle.prog_tree.specs.declared.cell.Cell.{Cell}
use Rattle.prog_tree.specs.ChangeSet.{ChangedCells, HasI64Changes, changed_row, changed}
use Rattle.prog_tree.specs.Number.{IsI64, is_i64}
use Rattle.prog_tree.specs.Table.{cell_cmp, is_same_cell, IsI64Cell, IsI64Row, Cells, with_cell, TableState, HasI64Rows, with_row, without_row}

-- the test tells which numbers are i64
pub i64_is_tested : (z : ℤ) → IsTrue (is_i64 z) ↔ IsI64 z
i64_is_tested (pos n) = (λ h. (omega (arith, ints), grind (arith, ints, nat_tests)), λ h. grind (arith, ints, nat_tests))
i64_is_tested (negsuc n) = (λ h. (grind (arith, ints, nat_tests), omega (arith, ints)), λ h. grind (arith, ints, nat_tests))

-- ---- a row is written, or removed

-- an entry whose cell has i64 columns, and whose value is as wanted
abbrev pub IsEntry : {A : Type 0} → (A → Type 0) → Cell × A → Type 0
IsEntry V entry = IsI64Cell entry.0 × V entry.1

pub written : {A : Type 0} (V : A → Type 0) (c : Cell) (v : A) (m : Cells A) → IsI64Cell c → V v → AllByRecursion (IsEntry V) m → AllByRecursion (IsEntry V) (with_cell m c v)
written V c v [] cell value all = ((cell, value), all)
written V c v (entry ∷ m) cell value all =
    elim (cell_cmp c entry.0) as (λ o. AllByRecursion (IsEntry V) (match_ordering o ((c, v) ∷ entry ∷ m) ((entry.0, v) ∷ m) (entry ∷ with_cell m c v)))
    [ Less ↦ ((cell, value), all) | Equal ↦ ((all.0.0, value), all.1) | Greater ↦ (all.0, written V c v m cell value all.1) ]

pub HasI64Rows-with_row : (m : TableState) (c : Cell) (v : ℤ) → IsI64Cell c → IsI64 v → HasI64Rows m → HasI64Rows (with_row m c v)
HasI64Rows-with_row m c v cell value rows =
    All-from_recursion IsI64Row _ (written IsI64 c v m cell value (recursion_from_All IsI64Row m rows))

pub HasI64Rows-without_row : (m : TableState) (c : Cell) → HasI64Rows m → HasI64Rows (without_row m c)
HasI64Rows-without_row m c rows = All-filter (λ row. not (is_same_cell c row.0)) IsI64Row m rows

-- ---- changes are made

HasI64Rows-changed_row : (m : TableState) (c : Cell) (w : Option ℤ) → IsI64Cell c → IfSome w IsI64 → HasI64Rows m → HasI64Rows (changed_row m c w)
HasI64Rows-changed_row m c (Some v) cell value rows = HasI64Rows-with_row m c v cell value rows
HasI64Rows-changed_row m c None cell value rows = HasI64Rows-without_row m c rows

pub HasI64Rows-changed : (m : TableState) (changes : ChangedCells) → HasI64Changes changes → HasI64Rows m → HasI64Rows (changed m changes)
HasI64Rows-changed m [] all rows = rows
HasI64Rows-changed m (entry ∷ entries) all rows =
    let first = All-head (λ (e : Cell × Option ℤ). IsI64Cell e.0 × IfSome e.1 IsI64) entry entries all in
    let rest = All-tail (λ (e : Cell × Option ℤ). IsI64Cell e.0 × IfSome e.1 IsI64) entry entries all in
    HasI64Rows-changed_row (changed m entries) entry.0 entry.1 first.0 first.1 (HasI64Rows-changed m entries rest rows)
