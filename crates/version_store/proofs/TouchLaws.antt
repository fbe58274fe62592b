-- Laws of the touches of a commit.
use Rattle.std.proofs.Common.{◌≡◌, ◌∙◌, ℕ, Bool, true, false, ◌||◌, cond, if◌then◌else◌, List, [], ◌∷◌, ◌++◌, map, refl, ap}
use Rattle.std.specs.Prelude.{Some, None}
use Rattle.std.specs.List.Sorted.{IsStrictlySortedBy}
use Rattle.std.proofs.lemmas.List.Folds.{list_any-append}
use Rattle.std.proofs.lemmas.Map.Keys.{sorted_tail}
use Rattle.prog_tree.specs.declared.cell.Cell.{Cell}
use Rattle.prog_tree.specs.ChangeSet.{ChangeSet, ChangedCells, change_at, touches_cell}
use Rattle.prog_tree.specs.Table.{cell_cmp, Cells, cells_of, at_cell, is_same_cell, is_cell_among}
use Rattle.prog_tree.proofs.CellSets.{among-some, same-turned, none-behind, not-behind}
use Rattle.version_store.specs.declared.touches.Touch.{Touch}
use Rattle.version_store.specs.declared.touches.Touch.TheVariants.{Change}
use Rattle.version_store.specs.StandsFor.{VersionChain}
use Rattle.version_store.specs.Reading.{with_version, with_mark, with_change_by, with_mark_by, with_commit}
use Rattle.version_store.specs.Touches.{touches_left, with_touch}
use Rattle.version_store.specs.Trimming.{numbered, touches_by}

-- the touches of a commit
abbrev pub touches_of : ChangeSet → Cells Touch
touches_of w = touches_left w.cells w.kept

-- the chain of a cell with those of the touches that are of this cell
abbrev pub with_touches : ℕ → Cells Touch → Cell → VersionChain → VersionChain
with_touches n [] c chain = chain
with_touches n (t ∷ ts) c chain = with_touches n ts c (if is_same_cell t.0 c then with_touch n t.1 chain else chain)

-- ---- the cells

cells_kept : (kept : List Cell) → cells_of (touches_left [] kept) ≡ kept
cells_kept [] = refl
cells_kept (c ∷ kept) = ap (λ cs. c ∷ cs) (cells_kept kept)

cells_left : (changed : ChangedCells) (kept : List Cell) → cells_of (touches_left changed kept) ≡ cells_of changed ++ kept
cells_left [] kept = cells_kept kept
cells_left (e ∷ changed) kept = ap (λ cs. e.0 ∷ cs) (cells_left changed kept)

-- they are the touched ones
pub among_touches : (w : ChangeSet) (c : Cell) → is_cell_among (cells_of (touches_of w)) c ≡ touches_cell w c
among_touches w c =
    ap (λ cs. is_cell_among cs c) (cells_left w.cells w.kept)
    ∙ list_any-append (is_same_cell c) (cells_of w.cells) w.kept
    ∙ ap (λ b. b || is_cell_among w.kept c) (among-some w.cells c)

numbered-append : (n : ℕ) (cells more : List Cell) → numbered n (cells ++ more) ≡ numbered n cells ++ numbered n more
numbered-append n [] more = refl
numbered-append n (c ∷ cells) more = ap (λ ts. (n, c) ∷ ts) (numbered-append n cells more)

pub numbered_touches : (n : ℕ) (w : ChangeSet) → numbered n (cells_of (touches_of w)) ≡ touches_by n w
numbered_touches n w = ap (numbered n) (cells_left w.cells w.kept) ∙ numbered-append n (cells_of w.cells) w.kept

-- ---- the chains

changed_touches :
    (n : ℕ) (changed : ChangedCells) (ts : Cells Touch) (c : Cell) (chain : VersionChain) → IsStrictlySortedBy cell_cmp (cells_of changed) →
    with_touches n (map (λ e. (e.0, Change e.1)) changed ++ ts) c chain ≡ with_touches n ts c (with_change_by n (at_cell changed c) chain)
changed_touches n [] ts c chain sorted = refl
changed_touches n (e ∷ changed) ts c chain sorted =
    changed_touches n changed ts c (if is_same_cell e.0 c then with_version n e.1 chain else chain) (sorted_tail cell_cmp e.0 (cells_of changed) sorted)
    ∙ ap (λ b. with_touches n ts c (with_change_by n (at_cell changed c) (if b then with_version n e.1 chain else chain))) (same-turned e.0 c)
    ∙ ap (with_touches n ts c) (go (is_same_cell c e.0) (λ same. none-behind e.0 c changed sorted same))
  where
    go : (b : Bool) → (b ≡ true → at_cell changed c ≡ None) →
        with_change_by n (at_cell changed c) (if b then with_version n e.1 chain else chain) ≡ with_change_by n (cond b (Some e.1) (at_cell changed c)) chain
    go true none = ap (λ o. with_change_by n o (with_version n e.1 chain)) (none refl)
    go false none = refl

kept_touches : (n : ℕ) (kept : List Cell) (c : Cell) (chain : VersionChain) → IsStrictlySortedBy cell_cmp kept → with_touches n (touches_left [] kept) c chain ≡ with_mark_by n (is_cell_among kept c) chain
kept_touches n [] c chain sorted = refl
kept_touches n (k ∷ kept) c chain sorted =
    kept_touches n kept c (if is_same_cell k c then with_mark n chain else chain) (sorted_tail cell_cmp k kept sorted)
    ∙ ap (λ b. with_mark_by n (is_cell_among kept c) (if b then with_mark n chain else chain)) (same-turned k c)
    ∙ go (is_same_cell c k) (λ same. not-behind k c kept sorted same)
  where
    go : (b : Bool) → (b ≡ true → is_cell_among kept c ≡ false) → with_mark_by n (is_cell_among kept c) (if b then with_mark n chain else chain) ≡ with_mark_by n (b || is_cell_among kept c) chain
    go true none = ap (λ a. with_mark_by n a (with_mark n chain)) (none refl)
    go false none = refl

-- all touches of a commit make of a chain what the commit does
pub commit_touches :
    (n : ℕ) (w : ChangeSet) (c : Cell) (chain : VersionChain) → IsStrictlySortedBy cell_cmp (cells_of w.cells) → IsStrictlySortedBy cell_cmp w.kept →
    with_touches n (touches_of w) c chain ≡ with_commit n w c chain
commit_touches n w c chain changed kept =
    changed_touches n w.cells (touches_left [] w.kept) c chain changed ∙ kept_touches n w.kept c (with_change_by n (change_at w c) chain) kept
