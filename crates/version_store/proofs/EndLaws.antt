-- What blocks go on saying behind a commit.
use Rattle.std.proofs.Common.{◌≡◌, ◌∙◌, ℕ, ◌<◌, ◌≤◌, Bool, true, false, cond, if◌then◌else◌, List, [], ◌∷◌, refl, ap, sym, subst, arith}
use Rattle.std.specs.Prelude.{ℤ, Option, Some, None, IfSome, is_some}
use Rattle.std.proofs.lemmas.Bool.{lt-leb}
use Rattle.prog_tree.specs.declared.cell.Cell.{Cell}
use Rattle.prog_tree.specs.declared.cell.Region.{Region}
use Rattle.prog_tree.specs.ChangeSet.{ChangeSet, ChangedCells, change_at}
use Rattle.prog_tree.specs.Table.{Cells, at_cell, is_same_cell, is_cell_among, is_in}
use Rattle.prog_tree.proofs.TableStates.{cell_is}
use Rattle.version_store.specs.declared.block.RowBlock.{RowBlock}
use Rattle.version_store.specs.declared.block.Slot.{Slot}
use Rattle.version_store.specs.Blocks.{IsTrueBlock, IsTrueSlot, AreTrue, EndsBefore, AreEnded, AreEndedIn, HasCell}
use Rattle.version_store.specs.Reading.{chain_at, value_at, with_commit, with_change_by, with_mark_by, MakesEach}
use Rattle.version_store.specs.Regions.{seen_in, IsSeen}
use Rattle.version_store.specs.StandsFor.{VersionChain}
use Rattle.version_store.proofs.BlockLaws.{all_true}
use Rattle.version_store.proofs.NewestLaws.{value_older}

-- ---- one chain

-- below its number a commit changes nothing, and nothing at all where it changes no cell
value_stays : (n : ℕ) (w : ChangeSet) (c : Cell) (chain : VersionChain) (m : ℕ) → (is_some (change_at w c) ≡ true → m < n) → value_at m chain ≡ value_at m (with_commit n w c chain)
value_stays n w c chain m below = go (change_at w c) (is_cell_among w.kept c) below
  where
    go : (o : Option (Option ℤ)) (kept : Bool) → (is_some o ≡ true → m < n) → value_at m chain ≡ value_at m (with_mark_by n kept (with_change_by n o chain))
    go None true below = refl
    go None false below = refl
    go (Some x) true below = value_older m chain.versions (n, x) (lt-leb n m (below refl))
    go (Some x) false below = value_older m chain.versions (n, x) (lt-leb n m (below refl))

-- ---- blocks

block_stays :
    (floor n : ℕ) (w : ChangeSet) (before after : Cells VersionChain) (region : Region) (block : RowBlock) → MakesEach (with_commit n w) before after →
    ((c : Cell) → is_some (change_at w c) ≡ true → is_in region c ≡ true → block.till ≤ n) → IsTrueBlock floor before region block → IsTrueBlock floor after region block
block_stays floor n w before after region block made ends holds m above since below = (seen.0, λ c. seen.1 c ∙ go c (is_in region c) refl)
  where
    seen : IsSeen (seen_in region m) before block.rows
    seen = holds m above since below

    go : (c : Cell) (b : Bool) → is_in region c ≡ b → (if b then value_at m (chain_at before c) else None) ≡ (if b then value_at m (chain_at after c) else None)
    go c true inside =
        value_stays n w c (chain_at before c) m (λ changed. let end = ends c changed inside in omega (arith, end, below))
        ∙ ap (value_at m) (sym (made c))
    go c false outside = refl

slot_stays :
    (floor n : ℕ) (w : ChangeSet) (before after : Cells VersionChain) (slot : Slot) → MakesEach (with_commit n w) before after →
    ((c : Cell) → is_some (change_at w c) ≡ true → is_in slot.region c ≡ true → EndsBefore n slot) → IsTrueSlot floor before slot → IsTrueSlot floor after slot
slot_stays floor n w before after slot made ends holds = (
  block_stays floor n w before after slot.region slot.newest made (λ c changed inside. (ends c changed inside).0) holds.0,
  go slot.older (λ c changed inside. (ends c changed inside).1) holds.1,
)
  where
    go : (o : Option RowBlock) → ((c : Cell) → is_some (change_at w c) ≡ true → is_in slot.region c ≡ true → IfSome o (λ (block : RowBlock). block.till ≤ n)) →
        IfSome o (IsTrueBlock floor before slot.region) → IfSome o (IsTrueBlock floor after slot.region)
    go None ends holds = tt
    go (Some block) ends holds = block_stays floor n w before after slot.region block made ends holds

-- blocks that are true before a commit, and end before it where it changes a cell, are true behind it
pub true_behind :
    (floor n : ℕ) (w : ChangeSet) (before after : Cells VersionChain) (slots : Cells Slot) → MakesEach (with_commit n w) before after →
    ((c : Cell) → is_some (change_at w c) ≡ true → AreEnded n c slots) → AreTrue floor before slots → AreTrue floor after slots
true_behind floor n w before after slots made ends =
    all_true floor floor before after slots (λ key slot at. slot_stays floor n w before after slot made (λ c changed inside. ends c changed key slot at inside))

-- ---- the cells that are gone over

-- each changed cell that is not left has its blocks ended
abbrev pub EndsGone : (n : ℕ) → ChangedCells → (left : ChangedCells) → Cells Slot → Type 0
EndsGone n cells left slots = (c : Cell) → is_some (at_cell cells c) ≡ true → is_some (at_cell left c) ≡ false → AreEnded n c slots

pub gone_more :
    (n : ℕ) (cells left rest : ChangedCells) (k : Cell) (x : Option ℤ) (old new : Cells Slot) → left ≡ (k, x) ∷ rest → EndsGone n cells left old →
    AreEnded n k new → ((c : Cell) → AreEnded n c old → AreEnded n c new) → EndsGone n cells rest new
gone_more n cells left rest k x old new is so_far here others c some none = go (is_same_cell c k) refl
  where
    go : (b : Bool) → is_same_cell c k ≡ b → AreEnded n c new
    go true same = subst (λ (d : Cell). AreEnded n d new) (sym (cell_is c k same)) here
    go false apart = others c (so_far c some (ap (λ (es : ChangedCells). is_some (at_cell es c)) is ∙ ap (λ b. is_some (cond b (Some x) (at_cell rest c))) apart ∙ none))

pub gone_all : (n : ℕ) (cells left : ChangedCells) (slots : Cells Slot) → left ≡ [] → EndsGone n cells left slots → (c : Cell) → is_some (at_cell cells c) ≡ true → AreEnded n c slots
gone_all n cells left slots none h c some = h c some (ap (λ (es : ChangedCells). is_some (at_cell es c)) none)

-- in the region of a slot that was ended each cell has its blocks ended
pub done_ends : (n : ℕ) (done : Option Region) (slots : Cells Slot) (c : Cell) → IfSome done (λ (region : Region). AreEndedIn n region slots) → HasCell done c → AreEnded n c slots
done_ends n None slots c ended has = absurd has
done_ends n (Some region) slots c ended has = ended c has
