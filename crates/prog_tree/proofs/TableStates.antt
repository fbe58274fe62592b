-- Laws of table states in cell order.
use Rattle.std.proofs.Common.{◌≡◌, ℤ, Bool, true, false, cond, not, ◌&&◌, T, List, [], ◌∷◌, refl, ap, sym, subst, ◌∙◌}
use Rattle.std.specs.Prelude.{Option, Some, None}
use Rattle.std.specs.Cmp.{Equal-is}
use Rattle.std.specs.declared.cmp.Ordering.{Ordering}
use Rattle.std.specs.declared.cmp.Ordering.TheVariants.{Less, Equal, Greater}
use Rattle.std.specs.FinMap.{nat_cmp-IsAntisymmetric, int_cmp-IsAntisymmetric}
use Rattle.std.specs.FinMap.Entries.{below_all, find-where_key, is_sorted, is_sorted-put, is_sorted-where_key, same_entries, where_key}
use Rattle.std.specs.List.{AllByRecursion}
use Rattle.std.specs.List.Sorted.{IsStrictlySortedBy}
use Rattle.std.specs.Ordering.{is_lt, ordering_then}
use Rattle.prog_tree.specs.declared.cell.Cell.{Cell}
use Rattle.prog_tree.specs.declared.cell.Region.{Region}
use Rattle.prog_tree.specs.ChangeSet.{ChangedCells, changed_row, changed}
use Rattle.prog_tree.specs.Evaluation.{rows_left, rows_without}
use Rattle.prog_tree.specs.Table.{cell_cmp, is_same_cell, is_cell_among, is_in, cells_of, TableState, IsTableState, row_at, with_row, without_row, rows_in}
use Rattle.prog_tree.proofs.TableLemmas.{cell_total, put_is, find_is}

-- ---- cells that compare equal are the same

pub then_equal : (a b : Ordering) → ordering_then a b ≡ Equal → (a ≡ Equal) × (b ≡ Equal)
then_equal Less b h = absurd (cc)
then_equal Equal b h = (refl, h)
then_equal Greater b h = absurd (cc)

pub same_cell : (c x : Cell) → cell_cmp c x ≡ Equal → c ≡ x
same_cell c x h =
    let outer = then_equal _ _ h in
    let inner = then_equal _ _ outer.1 in
    let table : c.table ≡ x.table = nat_cmp-IsAntisymmetric c.table x.table outer.0 in
    let first : c.first ≡ x.first = int_cmp-IsAntisymmetric c.first x.first inner.0 in
    let second : c.second ≡ x.second = int_cmp-IsAntisymmetric c.second x.second inner.1 in
    λ i. record { table = table i; first = first i; second = second i }

pub cell_is : (c x : Cell) → is_same_cell c x ≡ true → c ≡ x
cell_is c x same = same_cell c x ((Equal-is (cell_cmp c x)).0 same)

-- ---- the order, as a test

both_true : (a b : Bool) → T a → T b → T (a && b)
both_true true b p q = q
both_true false b p q = p

one_true : (a b : Bool) → T (a && b) → T a
one_true true b p = tt
one_true false b p = p

other_true : (a b : Bool) → T (a && b) → T b
other_true true b p = p
other_true false b p = absurd p

less_is : (o : Ordering) → T (is_lt o) → o ≡ Less
less_is Less p = refl
less_is Equal p = absurd p
less_is Greater p = absurd p

below_tested : (c : Cell) (m : TableState) → AllByRecursion (λ d. cell_cmp c d ≡ Less) (cells_of m) → T (below_all cell_cmp c m)
below_tested c [] h = tt
below_tested c (row ∷ m) h = both_true _ _ (subst (λ r. T (is_lt r)) (sym h.0) tt) (below_tested c m h.1)

below_by_test : (c : Cell) (m : TableState) → T (below_all cell_cmp c m) → AllByRecursion (λ d. cell_cmp c d ≡ Less) (cells_of m)
below_by_test c [] h = tt
below_by_test c (row ∷ m) h = (less_is _ (one_true _ _ h), below_by_test c m (other_true _ _ h))

tested : (m : TableState) → IsTableState m → T (is_sorted cell_cmp m)
unfolding IsStrictlySortedBy
tested [] h = tt
tested (row ∷ m) h = both_true _ _ (below_tested row.0 m h.0) (tested m h.1)

by_test : (m : TableState) → T (is_sorted cell_cmp m) → IsTableState m
unfolding IsStrictlySortedBy
by_test [] h = tt
by_test (row ∷ m) h = (below_by_test row.0 m (one_true _ _ h), by_test m (other_true _ _ h))

-- ---- what keeps the order

pub IsTableState-nil : IsTableState []
unfolding IsStrictlySortedBy
IsTableState-nil = tt

pub IsTableState-with_row : (m : TableState) (c : Cell) (v : ℤ) → IsTableState m → IsTableState (with_row m c v)
IsTableState-with_row m c v h =
    subst (λ (n : TableState). IsTableState n) (sym (put_is m c v)) (by_test _ (is_sorted-put cell_cmp cell_total c v m (tested m h)))

-- the rows whose cells pass a test
pub IsTableState-where : (p : Cell → Bool) (m : TableState) → IsTableState m → IsTableState (where_key cell_cmp p m)
IsTableState-where p m h = by_test _ (is_sorted-where_key cell_cmp p m (tested m h))

pub IsTableState-without_row : (m : TableState) (c : Cell) → IsTableState m → IsTableState (without_row m c)
IsTableState-without_row m c h = IsTableState-where (λ d. not (is_same_cell c d)) m h

IsTableState-changed_row : (m : TableState) (c : Cell) (w : Option ℤ) → IsTableState m → IsTableState (changed_row m c w)
IsTableState-changed_row m c (Some v) h = IsTableState-with_row m c v h
IsTableState-changed_row m c None h = IsTableState-without_row m c h

pub IsTableState-changed : (m : TableState) (changes : ChangedCells) → IsTableState m → IsTableState (changed m changes)
IsTableState-changed m [] h = h
IsTableState-changed m (e ∷ es) h = IsTableState-changed_row (changed m es) e.0 e.1 (IsTableState-changed m es h)

pub IsTableState-rows_in : (r : Region) (m : TableState) → IsTableState m → IsTableState (rows_in r m)
IsTableState-rows_in r m h = IsTableState-where (is_in r) m h

-- without cells of its own a look leaves out no row
pub none_left_out : (rows : TableState) → rows_without [] rows ≡ rows
none_left_out [] = refl
none_left_out (row ∷ rows) = ap (λ (m : TableState). row ∷ m) (none_left_out rows)

pub IsTableState-rows_left : (r : Region) (own : List Cell) (m : TableState) → IsTableState m → IsTableState (rows_left r own m)
IsTableState-rows_left r own m h = IsTableState-where (λ d. not (is_cell_among own d)) (rows_in r m) (IsTableState-rows_in r m h)

-- ---- a state is what it has at each cell

pub same_state : (m n : TableState) → IsTableState m → IsTableState n → ((c : Cell) → row_at m c ≡ row_at n c) → m ≡ n
same_state m n h k same = same_entries cell_cmp cell_total same_cell m n (tested m h) (tested n k) (λ c. sym (find_is m c) ∙ same c ∙ find_is n c)

-- the rows whose cells pass a test, at a cell
pub row_at-where : (p : Cell → Bool) (m : TableState) (c : Cell) → row_at (where_key cell_cmp p m) c ≡ cond (p c) (row_at m c) None
row_at-where p m c =
    find_is (where_key cell_cmp p m) c
    ∙ find-where_key cell_cmp p c (λ x t. ap p (sym (same_cell c x t))) m
    ∙ ap (λ o. cond (p c) o None) (sym (find_is m c))

pub row_at-rows_left : (r : Region) (own : List Cell) (m : TableState) (c : Cell) → row_at (rows_left r own m) c ≡ cond (not (is_cell_among own c)) (cond (is_in r c) (row_at m c) None) None
row_at-rows_left r own m c =
    row_at-where (λ d. not (is_cell_among own d)) (rows_in r m) c ∙ ap (λ o. cond (not (is_cell_among own c)) o None) (row_at-where (is_in r) m c)

-- states that agree at each cell of a region but for its own cells have the same rows there
pub same_rows_left :
    (r : Region) (own : List Cell) (m n : TableState) → IsTableState m → IsTableState n →
    ((c : Cell) → (is_in r c && not (is_cell_among own c)) ≡ true → row_at n c ≡ row_at m c) → rows_left r own n ≡ rows_left r own m
same_rows_left r own m n h k agree =
    same_state (rows_left r own n) (rows_left r own m) (IsTableState-rows_left r own n k) (IsTableState-rows_left r own m h)
    (λ c. row_at-rows_left r own n c ∙ go (not (is_cell_among own c)) (is_in r c) (row_at n c) (row_at m c) (agree c) ∙ sym (row_at-rows_left r own m c))
  where
    go : (b a : Bool) (x y : Option ℤ) → ((a && b) ≡ true → x ≡ y) → cond b (cond a x None) None ≡ cond b (cond a y None) None
    go true true x y same = same refl
    go true false x y same = refl
    go false a x y same = refl
