-- A search among cells that rise.
use Rattle.std.proofs.Common.{◌≡◌, ◌∙◌, ◌+◌, ⊎_elim, ℕ, false, length, List, ap, sym, slice_index_or, arith}
use Rattle.std.specs.Prelude.{Result, Ok, Err}
use Rattle.std.specs.Cmp.{tied_back}
use Rattle.std.specs.declared.cmp.Ordering.TheVariants.{Less, Greater}
use Rattle.std.specs.List.Sorted.{IsSorted, IsStrictlySortedBy, IsSearchInRange, IsBinarySearchResult}
use Rattle.std.specs.Ordering.{is_eq, is_lt, ordering_reverse}
use Rattle.std.specs.Result.{is_ok}
use Rattle.std.proofs.lemmas.Bool.{cases_lt}
use Rattle.std.proofs.lemmas.List.Folds.{list_any_at, list_any_none}
use Rattle.std.proofs.lemmas.List.Sorted.{searchable_from_sorted}
use Rattle.std.proofs.lemmas.Map.Keys.{Less-from_sorted}
use Rattle.prog_tree.specs.declared.cell.Cell.{Cell}
use Rattle.prog_tree.specs.Table.{cell_cmp, is_same_cell, is_cell_among}
use Rattle.prog_tree.proofs.TableLemmas.{cell_total}

apart : (x c : Cell) → cell_cmp x c ≡ Less → is_same_cell c x ≡ false
apart x c less = ap is_eq (cell_total.antisymm c x) ∙ ap (λ o. is_eq (ordering_reverse o)) less

behind : (x c : Cell) → cell_cmp x c ≡ Greater → is_same_cell c x ≡ false
behind x c greater = ap is_eq (cell_total.antisymm c x) ∙ ap (λ o. is_eq (ordering_reverse o)) greater

-- it finds a cell exactly where the cell is among them
pub found_among :
    (cells : List Cell) (c : Cell) (r : Result ℕ ℕ) → IsSorted cell_cmp cells → IsSearchInRange r (length cells) →
    IsBinarySearchResult (λ x. cell_cmp x c) cells r → is_ok r ≡ is_cell_among cells c
found_among cells c (Ok i) rise inside at =
    sym (list_any_at (is_same_cell c) cells i c inside (ap is_eq (tied_back cell_total (slice_index_or cells i c) c (at c))))
found_among cells c (Err i) rise inside parted =
    let point = parted (searchable_from_sorted cell_total (λ x. x) cells c rise) in
    sym
    (list_any_none (is_same_cell c) cells
    (λ k d below.
    ⊎_elim (λ before. apart (slice_index_or cells k d) c (point.0 k d (omega arith) before)) (λ after. behind (slice_index_or cells k d) c (point.1 k d after below)) (cases_lt k i)))

-- cells of which each is below the next rise
pub no_fall : (cells : List Cell) → IsStrictlySortedBy cell_cmp cells → IsSorted cell_cmp cells
no_fall cells rise = λ k d low more.
    let less = Less-from_sorted cell_cmp cells k (k + 1) d rise (omega arith) more in
    ap is_lt (cell_total.antisymm (slice_index_or cells (k + 1) d) (slice_index_or cells k d)) ∙ ap (λ o. is_lt (ordering_reverse o)) less
