-- Slots that stand apart.
use Rattle.std.proofs.Common.{◌≡◌, ◌∙◌, ℕ, ◌⊎◌, inl, inr, Bool, true, false, not, ◌&&◌, [], refl, ap, sym, subst}
use Rattle.std.specs.Prelude.{Some, None, filter, option_map}
use Rattle.std.specs.BTreeMap.Range.{range_contains}
use Rattle.std.specs.Cmp.{first_so}
use Rattle.std.specs.declared.ops.Bound.TheVariants.{Included, Unbounded}
use Rattle.std.specs.declared.cmp.Ordering.{Ordering}
use Rattle.std.specs.declared.cmp.Ordering.TheVariants.{Less, Equal, Greater}
use Rattle.std.specs.Ordering.{is_gt, is_le, is_lt}
use Rattle.std.proofs.lemmas.Bool.{and_parts}
use Rattle.prog_tree.specs.declared.cell.Cell.{Cell}
use Rattle.prog_tree.specs.declared.cell.Region.{Region}
use Rattle.prog_tree.specs.Corners.{AreCorners}
use Rattle.prog_tree.specs.Table.{cell_cmp, Cells, at_cell, is_in}
use Rattle.prog_tree.proofs.CellSets.{turned}
use Rattle.prog_tree.proofs.TableStates.{same_cell}
use Rattle.version_store.specs.declared.block.Slot.{Slot}
use Rattle.version_store.specs.Blocks.{ended_slot, AreEndedIn, EndsAt, StandsBehind, AreApart, HasAt, IsKeyOf, IsPut, IsTaken, LeavesFree}
use Rattle.version_store.proofs.BlockLaws.{put_cases, put_ends, taken_was, less_le, le_less, never_less, le_of, IsFirst, none_passes}

-- the keys from a cell on
abbrev pub is_from : Cell → Cell → Bool
is_from cell key = range_contains cell_cmp (Included cell) Unbounded key

from_le : (cell key : Cell) → is_from cell key ≡ true → is_gt (cell_cmp cell key) ≡ false
from_le cell key h = le_of (cell_cmp cell key) (first_so _ true h)

-- a key that is not before a cell is from it on
le_from : (cell key : Cell) → is_gt (cell_cmp cell key) ≡ false → is_from cell key ≡ true
le_from cell key h = go (cell_cmp cell key) h
  where
    go : (o : Ordering) → is_gt o ≡ false → (is_le o && true) ≡ true
    go Less h = refl
    go Equal h = refl
    go Greater h = absurd (cc)

-- ---- the slot of a cell

-- a slot that has a cell is the first from it on
first_holds : (slots : Cells Slot) (cell key : Cell) (slot : Slot) → AreApart slots → IsFirst (is_from cell) slots key slot → (k : Cell) (s : Slot) → at_cell slots k ≡ Some s → is_in s.region cell ≡ true → (key ≡ k) × (slot ≡ s)
first_holds slots cell key slot apart first k s at inside = go (first.others k s at (le_from cell k ((apart k s at).0 cell inside)))
  where
    go : ((key ≡ k) × (slot ≡ s)) ⊎ (cell_cmp key k ≡ Less) → (key ≡ k) × (slot ≡ s)
    go (inl same) = same
    go (inr less) = absurd (never_less key (less_le key cell key ((apart k s at).1 key slot first.at less cell inside) (from_le cell key first.passes)))

pub key_found : (slots : Cells Slot) (cell key : Cell) (slot : Slot) → AreApart slots → IsFirst (is_from cell) slots key slot → IsKeyOf slots cell (Some key)
key_found slots cell key slot apart first k s at inside = ap Some (first_holds slots cell key slot apart first k s at inside).0

pub key_has : (slots : Cells Slot) (cell key : Cell) (slot : Slot) → IsFirst (is_from cell) slots key slot → is_in slot.region cell ≡ true → HasAt slots cell key
key_has slots cell key slot first inside = ap (option_map (λ (s : Slot). is_in s.region cell)) first.at ∙ ap Some inside

pub key_none : (slots : Cells Slot) (cell key : Cell) (slot : Slot) → AreApart slots → IsFirst (is_from cell) slots key slot → is_in slot.region cell ≡ false → IsKeyOf slots cell None
key_none slots cell key slot apart first outside k s at inside =
    let same = (first_holds slots cell key slot apart first k s at inside).1 in
    let clash : true ≡ false = sym inside ∙ ap (λ (x : Slot). is_in x.region cell) (sym same) ∙ outside in absurd (cc)

-- ---- room for a slot

not_from : (cell key : Cell) → is_from cell key ≡ false → cell_cmp key cell ≡ Less
not_from cell key h = go (cell_cmp cell key) refl h
  where
    go : (o : Ordering) → cell_cmp cell key ≡ o → (is_le o && true) ≡ false → cell_cmp key cell ≡ Less
    go Less e h = absurd (cc)
    go Equal e h = absurd (cc)
    go Greater e h = turned cell key Greater e

pub free_all : (slots : Cells Slot) (low high : Cell) → filter (λ e. is_from low e.0) slots ≡ [] → LeavesFree low high slots
free_all slots low high none k s at = go (is_from low k) refl
  where
    go : (b : Bool) → is_from low k ≡ b → (cell_cmp k low ≡ Less) ⊎ ((cell_cmp high k ≡ Less) × StandsBehind high s.region)
    go true e = absurd (none_passes (is_from low) slots none k s at e)
    go false e = inl (not_from low k e)

is_less : (o : Ordering) → is_lt o ≡ true → o ≡ Less
is_less Less h = refl
is_less Equal h = absurd (cc)
is_less Greater h = absurd (cc)

-- the cells of a region are not before its first corner, nor behind its last
corner_low : (region : Region) (low high : Cell) → AreCorners region (Some (low, high)) → (c : Cell) → is_in region c ≡ true → is_gt (cell_cmp low c) ≡ false
corner_low region low high corners c inside = le_of (cell_cmp low c) (and_parts (is_le (cell_cmp low c)) (not (is_lt (cell_cmp high c))) (corners.1 c inside)).0

corner_high : (region : Region) (low high : Cell) → AreCorners region (Some (low, high)) → (c : Cell) → is_in region c ≡ true → is_gt (cell_cmp c high) ≡ false
corner_high region low high corners c inside = go (cell_cmp high c) refl (and_parts (is_le (cell_cmp low c)) (not (is_lt (cell_cmp high c))) (corners.1 c inside)).1
  where
    go : (o : Ordering) → cell_cmp high c ≡ o → not (is_lt o) ≡ true → is_gt (cell_cmp c high) ≡ false
    go Less e h = absurd (cc)
    go Equal e h = ap is_gt (turned high c Equal e)
    go Greater e h = ap is_gt (turned high c Greater e)

-- a region has one first corner, and one last
same_order : (a b : Cell) → is_gt (cell_cmp a b) ≡ false → is_gt (cell_cmp b a) ≡ false → a ≡ b
same_order a b le ge = go (cell_cmp a b) refl le
  where
    go : (o : Ordering) → cell_cmp a b ≡ o → is_gt o ≡ false → a ≡ b
    go Less e h = absurd (never_less b (le_less b a b ge e))
    go Equal e h = same_cell a b e
    go Greater e h = absurd (cc)

pub one_low : (region : Region) (low high l h : Cell) → AreCorners region (Some (low, high)) → AreCorners region (Some (l, h)) → low ≡ l
one_low region low high l h corners others =
    same_order low l (corner_low region low high corners l others.0.0) (corner_low region l h others low corners.0.0)

pub one_high : (region : Region) (low high l h : Cell) → AreCorners region (Some (low, high)) → AreCorners region (Some (l, h)) → high ≡ h
one_high region low high l h corners others =
    same_order high h (corner_high region l h others high corners.0.1) (corner_high region low high corners h others.0.1)

-- a region stands behind a cell where its first corner does, and where it has no cell
pub behind_first : (region : Region) (cell low high : Cell) → AreCorners region (Some (low, high)) → is_lt (cell_cmp cell low) ≡ true → StandsBehind cell region
behind_first region cell low high corners less c inside = less_le cell low c (is_less _ less) (corner_low region low high corners c inside)

pub first_behind : (region : Region) (cell low high : Cell) → AreCorners region (Some (low, high)) → StandsBehind cell region → is_lt (cell_cmp cell low) ≡ true
first_behind region cell low high corners behind = ap is_lt (behind low corners.0.0)

pub free_before :
    (slots : Cells Slot) (low high key : Cell) (slot : Slot) → AreApart slots → IsFirst (is_from low) slots key slot →
    is_lt (cell_cmp high key) ≡ true → StandsBehind high slot.region → LeavesFree low high slots
free_before slots low high key slot apart found behind_key behind k s at = go (is_from low k) refl
  where
    before_key : cell_cmp high key ≡ Less
    before_key = is_less _ behind_key

    from : ((key ≡ k) × (slot ≡ s)) ⊎ (cell_cmp key k ≡ Less) → (cell_cmp high k ≡ Less) × StandsBehind high s.region
    from (inl same) = (ap (cell_cmp high) (sym same.0) ∙ before_key, subst (λ (x : Slot). StandsBehind high x.region) same.1 behind)
    from (inr less) =
        let trans = λ (c : Cell) (h : cell_cmp key c ≡ Less). le_less high key c (ap is_gt before_key) h in
        (trans k less, λ c inside. trans c ((apart k s at).1 key slot found.at less c inside))

    go : (b : Bool) → is_from low k ≡ b → (cell_cmp k low ≡ Less) ⊎ ((cell_cmp high k ≡ Less) × StandsBehind high s.region)
    go true e = inr (from (found.others k s at e))
    go false e = inl (not_from low k e)

-- where room is left, the first slot from a cell on stands behind
pub before_free :
    (slots : Cells Slot) (low high key : Cell) (slot : Slot) → IsFirst (is_from low) slots key slot → LeavesFree low high slots →
    (is_lt (cell_cmp high key) ≡ true) × StandsBehind high slot.region
before_free slots low high key slot found free = go (free key slot found.at)
  where
    go : (cell_cmp key low ≡ Less) ⊎ ((cell_cmp high key ≡ Less) × StandsBehind high slot.region) → (is_lt (cell_cmp high key) ≡ true) × StandsBehind high slot.region
    go (inl less) = absurd (never_less key (less_le key low key less (from_le low key found.passes)))
    go (inr behind) = (ap is_lt behind.0, behind.1)

-- ---- slots stay apart

-- where a slot is put in the place of one of the same region
pub apart_put :
    (m n : Cells Slot) (key : Cell) (old new : Slot) → Some old ≡ at_cell m key → new.region ≡ old.region → IsPut m n key new → AreApart m → AreApart n
apart_put m n key old new found same put apart k s at = go (put_cases m n key new put k s at)
  where
    region_is : new ≡ s → old.region ≡ s.region
    region_is e = sym same ∙ ap (λ (x : Slot). x.region) e

    before : (c : Cell) (x : Slot) → at_cell n c ≡ Some x → (y : Slot) × (at_cell m c ≡ Some y)
    before c x at = which (put_cases m n key new put c x at)
      where
        which : ((key ≡ c) × (new ≡ x)) ⊎ (at_cell m c ≡ Some x) → (y : Slot) × (at_cell m c ≡ Some y)
        which (inl e) = (old, ap (at_cell m) (sym e.0) ∙ sym found)
        which (inr h) = (x, h)

    go : ((key ≡ k) × (new ≡ s)) ⊎ (at_cell m k ≡ Some s) → EndsAt k s × ((c : Cell) (x : Slot) → at_cell n c ≡ Some x → cell_cmp c k ≡ Less → StandsBehind c s.region)
    go (inl e) =
        let here = apart key old (sym found) in
        let region = region_is e.1 in (
          λ c inside. ap (λ x. is_gt (cell_cmp c x)) (sym e.0) ∙ here.0 c (ap (λ r. is_in r c) region ∙ inside),
          λ c x at less d inside. let was = before c x at in here.1 c was.0 was.1 (ap (cell_cmp c) e.0 ∙ less) d (ap (λ r. is_in r d) region ∙ inside),
        )
    go (inr h) = ((apart k s h).0, λ c x at less. let was = before c x at in (apart k s h).1 c was.0 was.1 less)

-- where a slot goes
pub apart_taken : (m n : Cells Slot) (key : Cell) → IsTaken m n key → AreApart m → AreApart n
apart_taken m n key taken apart k s at =
    let here = apart k s (taken_was m n key taken k s at) in
    (here.0, λ c x at less. here.1 c x (taken_was m n key taken c x at) less)

-- where one is put that has room
pub apart_new :
    (m n : Cells Slot) (low high : Cell) (slot : Slot) → AreCorners slot.region (Some (low, high)) → LeavesFree low high m → IsPut m n high slot → AreApart m → AreApart n
apart_new m n low high slot corners free put apart k s at = go (put_cases m n high slot put k s at)
  where
    ordered : is_gt (cell_cmp low high) ≡ false
    ordered = corners.0.2

    behind : (c : Cell) (x : Slot) → at_cell n c ≡ Some x → cell_cmp c high ≡ Less → StandsBehind c slot.region
    behind c x at less = which (put_cases m n high slot put c x at)
      where
        which : ((high ≡ c) × (slot ≡ x)) ⊎ (at_cell m c ≡ Some x) → StandsBehind c slot.region
        which (inl e) = absurd (never_less high (ap (λ y. cell_cmp y high) e.0 ∙ less))
        which (inr h) = room (free c x h)
          where
            room : (cell_cmp c low ≡ Less) ⊎ ((cell_cmp high c ≡ Less) × StandsBehind high x.region) → StandsBehind c slot.region
            room (inl before) = λ d inside. less_le c low d before (corner_low slot.region low high corners d inside)
            room (inr after) = absurd (never_less c (cell_less c high c less after.0))
              where
                cell_less : (a b d : Cell) → cell_cmp a b ≡ Less → cell_cmp b d ≡ Less → cell_cmp a d ≡ Less
                cell_less a b d p q = le_less a b d (ap is_gt p) q

    beyond : at_cell m k ≡ Some s → cell_cmp high k ≡ Less → StandsBehind high s.region
    beyond h less = room (free k s h)
      where
        room : (cell_cmp k low ≡ Less) ⊎ ((cell_cmp high k ≡ Less) × StandsBehind high s.region) → StandsBehind high s.region
        room (inl before) = absurd (never_less k (le_less k high k (ap is_gt (less_le k low high before ordered)) less))
        room (inr after) = after.1

    go : ((high ≡ k) × (slot ≡ s)) ⊎ (at_cell m k ≡ Some s) → EndsAt k s × ((c : Cell) (x : Slot) → at_cell n c ≡ Some x → cell_cmp c k ≡ Less → StandsBehind c s.region)
    go (inl e) = (
      λ c inside. ap (λ x. is_gt (cell_cmp c x)) (sym e.0) ∙ corner_high slot.region low high corners c (ap (λ (x : Slot). is_in x.region c) e.1 ∙ inside),
      λ c x at less. subst (λ (y : Slot). StandsBehind c y.region) e.1 (behind c x at (ap (cell_cmp c) e.0 ∙ less)),
    )
    go (inr h) = ((apart k s h).0, others)
      where
        others : (c : Cell) (x : Slot) → at_cell n c ≡ Some x → cell_cmp c k ≡ Less → StandsBehind c s.region
        others c x at less = which (put_cases m n high slot put c x at)
          where
            which : ((high ≡ c) × (slot ≡ x)) ⊎ (at_cell m c ≡ Some x) → StandsBehind c s.region
            which (inl e) = subst (λ (y : Cell). StandsBehind y s.region) e.0 (beyond h (ap (λ y. cell_cmp y k) e.0 ∙ less))
            which (inr was) = (apart k s h).1 c x was less

-- where one ends
pub apart_ended :
    (number : ℕ) (m n : Cells Slot) (key : Cell) (old : Slot) → Some old ≡ at_cell m key → IsPut m n key (ended_slot number old) → AreApart m → AreApart n
apart_ended number m n key old found put apart = apart_put m n key old (ended_slot number old) found refl put apart

-- ---- the one slot of a cell

one_slot : (m : Cells Slot) (c key k : Cell) (slot s : Slot) → AreApart m → at_cell m key ≡ Some slot → at_cell m k ≡ Some s → is_in slot.region c ≡ true → is_in s.region c ≡ true → key ≡ k
one_slot m c key k slot s apart at other inside within = go (cell_cmp key k) refl
  where
    go : (o : Ordering) → cell_cmp key k ≡ o → key ≡ k
    go Less e = absurd (never_less key (less_le key c key ((apart k s other).1 key slot at e c within) ((apart key slot at).0 c inside)))
    go Equal e = same_cell key k e
    go Greater e = absurd (never_less k (less_le k c k ((apart key slot at).1 k s other (turned key k Greater e) c inside) ((apart k s other).0 c within)))

-- where the slot of a key ends, all blocks end that have a cell of it
pub slot_ends :
    (number : ℕ) (m n : Cells Slot) (key : Cell) (old : Slot) → Some old ≡ at_cell m key → IsPut m n key (ended_slot number old) → AreApart m → AreEndedIn number old.region n
slot_ends number m n key old found put apart c inside =
    put_ends number m n c key old (λ k s at within. ap Some (one_slot m c key k old s apart (sym found) at inside within)) put
