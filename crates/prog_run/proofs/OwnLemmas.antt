-- A run's own changes in a region, and what a look at the region is where it has none.
use Rattle.std.proofs.Common.{◌≡◌, ◌∙◌, Bool, true, false, cond, [], ◌∷◌, refl, ap, sym}
use Rattle.std.specs.Prelude.{Some, None}
use Rattle.prog_tree.specs.declared.cell.Cell.{Cell}
use Rattle.prog_tree.specs.declared.cell.Region.{Region}
use Rattle.prog_tree.specs.declared.look.Look.TheVariants as look
use Rattle.prog_tree.specs.Corners.{is_between, AreCorners}
use Rattle.prog_tree.specs.Table.{cells_of, is_in, TableState}
use Rattle.prog_tree.specs.ChangeSet.{ChangedCells, ChangeSet, changes_between, changes_in, changed}
use Rattle.prog_tree.specs.Evaluation.{rows_without}
use Rattle.prog_tree.proofs.TableStates.{none_left_out}
use Rattle.prog_run.specs.Looks.{region_look, seen_rows}

-- ---- the changes between the corners of a region

-- a region without a cell has none of the changes
pub no_change_in : (r : Region) → AreCorners r None → (es : ChangedCells) → changes_in r es ≡ []
no_change_in r outside [] = refl
no_change_in r outside (e ∷ es) = ap (λ b. cond b (e ∷ changes_in r es) (changes_in r es)) (outside e.0) ∙ no_change_in r outside es

-- all changes of a region lie between its corners
pub in_between : (r : Region) (low high : Cell) → AreCorners r (Some (low, high)) → (es : ChangedCells) → changes_in r (changes_between low high es) ≡ changes_in r es
in_between r low high corners [] = refl
in_between r low high corners (e ∷ es) = go (is_between low high e.0) (is_in r e.0) refl (corners.1 e.0) (in_between r low high corners es)
  where
    kept : ChangedCells
    kept = changes_between low high es

    go : (b d : Bool) → is_in r e.0 ≡ d → (d ≡ true → b ≡ true) → changes_in r kept ≡ changes_in r es →
        changes_in r (cond b (e ∷ kept) kept) ≡ cond d (e ∷ changes_in r es) (changes_in r es)
    go true d is within rest = ap (λ w. cond w (e ∷ changes_in r kept) (changes_in r kept)) is ∙ ap (λ (m : ChangedCells). cond d (e ∷ m) m) rest
    go false true is within rest = let never = within refl in absurd (cc)
    go false false is within rest = rest

-- ---- a look at a region in which the run has changed nothing

-- it has all rows
pub look_of_all : (changes : ChangeSet) (r : Region) (rows : TableState) → changes_in r changes.cells ≡ [] → look.Range r [] rows ≡ region_look changes r rows
look_of_all changes r rows none =
    ap (λ m. look.Range r [] m) (sym (none_left_out rows)) ∙ ap (λ (own : ChangedCells). look.Range r (cells_of own) (rows_without (cells_of own) rows)) (sym none)

-- and the run sees them
pub all_seen : (changes : ChangeSet) (r : Region) (rows : TableState) → changes_in r changes.cells ≡ [] → rows ≡ seen_rows changes r rows
all_seen changes r rows none = sym (none_left_out rows) ∙ ap (λ (own : ChangedCells). changed (rows_without (cells_of own) rows) own) (sym none)
