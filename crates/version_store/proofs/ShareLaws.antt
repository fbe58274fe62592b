-- What a scan keeps that shares the rows of blocks.
use Rattle.std.proofs.Common.{◌≡◌, ◌∙◌, ℕ, ◌≤◌, Bool, true, false, cond, List, [], ◌∷◌, ◌++◌, refl, ap, sym, subst, append_assoc, append-nil}
use Rattle.std.specs.Prelude.{Some, None, filter}
use Rattle.std.specs.List.Sorted.{IsStrictlySortedBy}
use Rattle.std.proofs.lemmas.List.Kept.{IsStrictlySortedBy-filter}
use Rattle.std.proofs.lemmas.Map.Keys.{sorted_tail}
use Rattle.prog_tree.specs.declared.cell.Cell.{Cell}
use Rattle.prog_tree.specs.declared.cell.Region.{Region}
use Rattle.prog_tree.specs.Pieces.{rows_of}
use Rattle.prog_tree.specs.Table.{cell_cmp, Cells, cells_of, at_cell, is_same_cell, TableState}
use Rattle.prog_tree.proofs.CellSets.{same-itself, none-behind}
use Rattle.prog_tree.proofs.TableStates.{same_state}
use Rattle.prog_tree.specs.Corners.{AreCorners}
use Rattle.version_store.specs.declared.block.Slot.{Slot}
use Rattle.version_store.specs.Blocks.{IsTrueSlot, IsBySlot, IsPart, part_before, part_between, part_behind}
use Rattle.version_store.specs.Regions.{seen_in, IsSeen}
use Rattle.version_store.specs.StandsFor.{VersionChain}
use Rattle.version_store.proofs.FoundLaws.{found_rows, is_seen, found_is, no_chain_in, cells-filter, at_cell-filter, gained_nothing}
use Rattle.version_store.proofs.SplitLaws.{split_part}

pub rows_of-append : (pieces more : List TableState) → rows_of (pieces ++ more) ≡ rows_of pieces ++ rows_of more
rows_of-append [] more = refl
rows_of-append (piece ∷ pieces) more = ap (λ rows. piece ++ rows) (rows_of-append pieces more) ∙ sym (append_assoc piece (rows_of pieces) (rows_of more))

-- one more piece
pub rows_of-push : (pieces : List TableState) (rows : TableState) → rows_of (pieces ++ rows ∷ []) ≡ rows_of pieces ++ rows
rows_of-push pieces rows = rows_of-append pieces (rows ∷ []) ∙ ap (λ more. rows_of pieces ++ more) (append-nil rows)

-- with the rows of what is left, the pieces are the rows of the region
abbrev pub Shares : Region → ℕ → Cells VersionChain → (left : Region) → List TableState → Type 0
Shares region n chains left pieces = rows_of pieces ++ found_rows (seen_in left n) chains ≡ found_rows (seen_in region n) chains

-- the rows that are found are what is seen
pub seen_rows : (region : Region) (n : ℕ) (chains : Cells VersionChain) → IsStrictlySortedBy cell_cmp (cells_of chains) → IsSeen (seen_in region n) chains (found_rows (seen_in region n) chains)
seen_rows region n chains sorted = is_seen (seen_in region n) (no_chain_in region n) chains sorted

rows_are : (region : Region) (n : ℕ) (chains : Cells VersionChain) → IsStrictlySortedBy cell_cmp (cells_of chains) → (m : TableState) → IsSeen (seen_in region n) chains m → found_rows (seen_in region n) chains ≡ m
rows_are region n chains sorted = found_is (seen_in region n) (no_chain_in region n) chains sorted

-- the rows before a slot are read, and its own are shared
pub shares_more :
    (region left part : Region) (n floor : ℕ) → floor ≤ n → (chains : Cells VersionChain) (slot : Slot) (rows : TableState) (old read : List TableState) → IsStrictlySortedBy cell_cmp (cells_of chains) →
    IsPart part left → IsBySlot n slot part rows → IsTrueSlot floor chains slot →
    ((m : TableState) → IsSeen (seen_in (part_before left part.first_low) n) chains m → rows_of read ≡ rows_of old ++ m) →
    Shares region n chains left old → Shares region n chains (part_behind left part.first_high) (read ++ rows ∷ [])
shares_more region left part n floor above chains slot rows old read sorted is_part by_slot holds reads so_far =
    ap (λ more. more ++ behind) (rows_of-push read rows ∙ ap (λ more. more ++ rows) (reads before (seen_rows (part_before left part.first_low) n chains sorted)))
    ∙ append_assoc (rows_of old ++ before) rows behind
    ∙ append_assoc (rows_of old) before (rows ++ behind)
    ∙ ap (λ more. rows_of old ++ (before ++ (more ++ behind))) (sym is_own)
    ∙ ap (λ more. rows_of old ++ more) (sym (split_part left n part.first_low part.first_high chains is_part.1.0.0 is_part.1.0.1 is_part.1.0.2 sorted))
    ∙ so_far
  where
    before : TableState
    before = found_rows (seen_in (part_before left part.first_low) n) chains

    behind : TableState
    behind = found_rows (seen_in (part_behind left part.first_high) n) chains

    is_own : found_rows (seen_in (part_between left part.first_low part.first_high) n) chains ≡ rows
    is_own = ap (λ r. found_rows (seen_in r n) chains) (sym is_part.0) ∙ rows_are part n chains sorted rows (by_slot floor above chains holds)

-- at the end what is left is read
pub shared :
    (region left : Region) (n : ℕ) (chains : Cells VersionChain) (old read : List TableState) → IsStrictlySortedBy cell_cmp (cells_of chains) →
    ((m : TableState) → IsSeen (seen_in left n) chains m → rows_of read ≡ rows_of old ++ m) → Shares region n chains left old → IsSeen (seen_in region n) chains (rows_of read)
shared region left n chains old read sorted reads so_far =
    subst (λ (m : TableState). IsSeen (seen_in region n) chains m)
    (sym (reads (found_rows (seen_in left n) chains) (seen_rows left n chains sorted) ∙ so_far))
    (seen_rows region n chains sorted)

-- ---- the slots that are gone over

-- the entries that are left are some of all
pub record AreLeft {A : Type 0} (all left : Cells A) : Type 0 where
  pub sorted : IsStrictlySortedBy cell_cmp (cells_of left)
  pub within : (c : Cell) (x : A) → at_cell left c ≡ Some x → at_cell all c ≡ Some x

pub left_first : {A : Type 0} (p : Cell → Bool) (all left : Cells A) → IsStrictlySortedBy cell_cmp (cells_of all) → left ≡ filter (λ e. p e.0) all → AreLeft all left
left_first {A = A} p all left sorted is = record {
  sorted = subst (λ (cs : List Cell). IsStrictlySortedBy cell_cmp cs) (cells-filter p all ∙ ap cells_of (sym is)) (IsStrictlySortedBy-filter cell_cmp p (cells_of all) sorted);
  within = λ c x found. inside (p c) c x (sym (at_cell-filter p all c) ∙ ap (λ es. at_cell es c) (sym is) ∙ found);
}
  where
    inside : (b : Bool) (c : Cell) (x : A) → cond b (at_cell all c) None ≡ Some x → at_cell all c ≡ Some x
    inside true c x found = found
    inside false c x found = absurd (cc)

pub left_here : {A : Type 0} (all left rest : Cells A) (k : Cell) (x : A) → left ≡ (k, x) ∷ rest → AreLeft all left → at_cell all k ≡ Some x
left_here all left rest k x is h = h.within k x (ap (λ es. at_cell es k) is ∙ ap (λ b. cond b (Some x) (at_cell rest k)) (same-itself k))

pub left_more : {A : Type 0} (all left rest : Cells A) (k : Cell) (x : A) → left ≡ (k, x) ∷ rest → AreLeft all left → AreLeft all rest
left_more {A = A} all left rest k x is so_far = record {
  sorted = sorted_tail cell_cmp k (cells_of rest) h.sorted;
  within = λ c y found. go (is_same_cell c k) c y refl found;
}
  where
    h : AreLeft all ((k, x) ∷ rest)
    h = subst (λ (es : Cells A). AreLeft all es) is so_far

    go : (b : Bool) (c : Cell) (y : A) → is_same_cell c k ≡ b → at_cell rest c ≡ Some y → at_cell all c ≡ Some y
    go true c y same found = let none = none-behind k c rest h.sorted same in absurd (cc)
    go false c y apart found = h.within c y (ap (λ b. cond b (Some x) (at_cell rest c)) apart ∙ found)

-- rows that see the same are the same
pub seen_same : (region : Region) (n : ℕ) (chains : Cells VersionChain) (m k : TableState) → IsSeen (seen_in region n) chains m → IsSeen (seen_in region n) chains k → m ≡ k
seen_same region n chains m k h g = same_state m k h.0 g.0 (λ c. h.1 c ∙ sym (g.1 c))

-- no piece has no rows
pub none_seen : (region : Region) (n : ℕ) (chains : Cells VersionChain) → AreCorners region None → (rows : TableState) → rows ≡ [] → IsSeen (seen_in region n) chains rows
none_seen region n chains corners rows none = subst (λ (m : TableState). IsSeen (seen_in region n) chains m) (sym none) (gained_nothing region n chains corners)
