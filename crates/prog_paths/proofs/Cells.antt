-- Which cells are changed and kept after one more.
use Rattle.std.proofs.Common.{◌≡◌, Bool, true, false, ◌⊎◌, inl, inr, refl, sym, ap, ◌∙◌, cond}
use Rattle.std.specs.Prelude.{ℤ, Option, Some, is_some}
use Rattle.std.proofs.lemmas.Bool.{or_cases, or_left, or_right}
use Rattle.prog_tree.specs.declared.cell.Cell.{Cell}
use Rattle.prog_tree.specs.Table.{is_same_cell, is_cell_among}
use Rattle.prog_tree.specs.ChangeSet.{ChangeSet, change_at, with_change, with_kept}
use Rattle.prog_tree.proofs.CellSets.{among-insert, same-itself}
use Rattle.prog_tree.proofs.TableLemmas.{at_cell-with_cell}
use Rattle.prog_tree.proofs.TableStates.{cell_is}
use Rattle.prog_paths.specs.Follows.{Changes, KeepsCell}

-- ---- changes

-- the change of a cell is the new one, and the cell is its cell; or it is the old one
pub change_either : (s : ChangeSet) (cell : Cell) (w : Option ℤ) (c : Cell) (o : Option (Option ℤ)) → change_at (with_change s cell w) c ≡ o → ((c ≡ cell) × (o ≡ Some w)) ⊎ (change_at s c ≡ o)
change_either s cell w c o e = go (is_same_cell c cell) refl (sym (at_cell-with_cell s.cells cell w c) ∙ e)
  where
    go : (b : Bool) → is_same_cell c cell ≡ b → cond (is_same_cell c cell) (Some w) (change_at s c) ≡ o → ((c ≡ cell) × (o ≡ Some w)) ⊎ (change_at s c ≡ o)
    go true is h = inl (cell_is c cell is, sym h ∙ ap (λ b. cond b (Some w) (change_at s c)) is)
    go false is h = inr (ap (λ b. cond b (Some w) (change_at s c)) (sym is) ∙ h)

pub changes_either : (s : ChangeSet) (cell : Cell) (w : Option ℤ) (c : Cell) → Changes (with_change s cell w) c → (c ≡ cell) ⊎ Changes s c
changes_either s cell w c h = go (change_either s cell w c (change_at (with_change s cell w) c) refl)
  where
    go : ((c ≡ cell) × (change_at (with_change s cell w) c ≡ Some w)) ⊎ (change_at s c ≡ change_at (with_change s cell w) c) → (c ≡ cell) ⊎ Changes s c
    go (inl k) = inl k.0
    go (inr k) = inr (ap is_some k ∙ h)

pub changes_here : (s : ChangeSet) (cell : Cell) (w : Option ℤ) → Changes (with_change s cell w) cell
changes_here s cell w = ap is_some (at_cell-with_cell s.cells cell w cell ∙ ap (λ b. cond b (Some w) (change_at s cell)) (same-itself cell))

pub changes_stay : (s : ChangeSet) (cell : Cell) (w : Option ℤ) (c : Cell) → Changes s c → Changes (with_change s cell w) c
changes_stay s cell w c h = ap is_some (at_cell-with_cell s.cells cell w c) ∙ go (is_same_cell c cell)
  where
    go : (b : Bool) → is_some (cond b (Some w) (change_at s c)) ≡ true
    go true = refl
    go false = h

-- ---- kept cells

pub keeps_either : (s : ChangeSet) (cell c : Cell) → KeepsCell (with_kept s cell) c → (c ≡ cell) ⊎ KeepsCell s c
keeps_either s cell c h = go (or_cases (is_same_cell c cell) (is_cell_among s.kept c) (sym (among-insert s.kept cell c) ∙ h))
  where
    go : (is_same_cell c cell ≡ true) ⊎ (is_cell_among s.kept c ≡ true) → (c ≡ cell) ⊎ (is_cell_among s.kept c ≡ true)
    go (inl is) = inl (cell_is c cell is)
    go (inr is) = inr is

pub keeps_stay : (s : ChangeSet) (cell c : Cell) → KeepsCell s c → KeepsCell (with_kept s cell) c
keeps_stay s cell c h = among-insert s.kept cell c ∙ or_right (is_same_cell c cell) (is_cell_among s.kept c) h

pub keeps_here : (s : ChangeSet) (cell : Cell) → KeepsCell (with_kept s cell) cell
keeps_here s cell = among-insert s.kept cell cell ∙ or_left (is_same_cell cell cell) (is_cell_among s.kept cell) (same-itself cell)
