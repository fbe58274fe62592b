-- What a state holds after changes.
use Rattle.std.proofs.Common.{◌≡◌, [], ◌∷◌, refl, ap, sym, ◌∙◌, cond, true, false}
use Rattle.std.specs.Prelude.{ℤ, Option, Some, None, not, Bool, unwrap_or}
use Rattle.std.specs.Ordering.{eq_by_cmp, is_eq}
use Rattle.std.specs.Cmp.{alike_right, eq_by_cmp_equiv}
use Rattle.std.specs.FinMap.{find}
use Rattle.std.specs.FinMap.Entries.{find-where_key}
use Rattle.prog_tree.specs.declared.cell.Cell.{Cell}
use Rattle.prog_tree.specs.Table.{cell_cmp, at_cell, TableState, row_at, without_row}
use Rattle.prog_tree.specs.ChangeSet.{ChangedCells, changed_row, changed}
use Rattle.prog_tree.proofs.TableLemmas.{cell_total, find_is, at_cell-with_cell}

cond-not : {A : Type 0} (b : Bool) (x y : A) → cond (not b) x y ≡ cond b y x
cond-not true x y = refl
cond-not false x y = refl

row_at-without_row : (m : TableState) (k q : Cell) → row_at (without_row m k) q ≡ cond (eq_by_cmp cell_cmp q k) None (row_at m q)
row_at-without_row m k q =
    find_is (without_row m k) q
    ∙ find-where_key cell_cmp (λ x. not (eq_by_cmp cell_cmp k x)) q (λ x t. ap (λ r. not (is_eq r)) (sym (alike_right cell_total q x k t))) m
    ∙ cond-not (eq_by_cmp cell_cmp k q) _ _
    ∙ ap (λ b. cond b None (find cell_cmp q m)) ((eq_by_cmp_equiv cell_total).symm k q)
    ∙ ap (cond (eq_by_cmp cell_cmp q k) None) (sym (find_is m q))

row_at-changed_row : (m : TableState) (k : Cell) (w : Option ℤ) (q : Cell) → row_at (changed_row m k w) q ≡ cond (eq_by_cmp cell_cmp q k) w (row_at m q)
row_at-changed_row m k (Some v) q = at_cell-with_cell m k v q
row_at-changed_row m k None q = row_at-without_row m k q

-- a cell holds what was changed last, or what it held
pub row_at-changed : (m : TableState) (changes : ChangedCells) (q : Cell) → row_at (changed m changes) q ≡ unwrap_or (at_cell changes q) (row_at m q)
row_at-changed m [] q = refl
row_at-changed m (e ∷ es) q =
    row_at-changed_row (changed m es) e.0 e.1 q ∙ ap (cond (eq_by_cmp cell_cmp q e.0) e.1) (row_at-changed m es q)
    ∙ elim (eq_by_cmp cell_cmp q e.0) as (λ b. cond b e.1 (unwrap_or (at_cell es q) (row_at m q)) ≡ unwrap_or (cond b (Some e.1) (at_cell es q)) (row_at m q)) [ true ↦ refl | false ↦ refl ]
