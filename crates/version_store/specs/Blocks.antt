-- Blocks: the rows of some cells, which scans share.
use Rattle.std.specs.Prelude.{◌≡◌, ℕ, ◌<◌, ◌≤◌, ⊤, ℤ, ◌+ℤ◌, ◌-ℤ◌, ◌≤ℤ◌, ◌<ℤ◌, pos, leb, min, true, false, List, Option, Some, None, IfSome, option_map, if◌then◌else◌, ◌⊎◌}
use Rattle.std.specs.Int.{int_max, int_min}
use Rattle.std.specs.Ordering.{is_gt}
use Rattle.std.specs.declared.cmp.Ordering.TheVariants.{Less}
use Rattle.prog_tree.specs.declared.cell.Cell.{Cell}
use Rattle.prog_tree.specs.declared.cell.Region.{Region}
use Rattle.prog_tree.specs.Number.{least, greatest}
use Rattle.prog_tree.specs.Table.{cell_cmp, is_in, is_same_cell, Cells, at_cell, TableState}
use Rattle.version_store.specs.declared.block.RowBlock.{RowBlock}
use Rattle.version_store.specs.declared.block.Slot.{Slot}
use Rattle.version_store.specs.declared.stretch.Stretch.{Stretch}
use Rattle.version_store.specs.StandsFor.{VersionChain}
use Rattle.version_store.specs.Reading.{value_after}
use Rattle.version_store.specs.Regions.{seen_in, seen_between, IsSeen}

-- ---- how long a cell holds what it holds

-- n lies in a stretch
abbrev pub InStretch : Stretch → ℕ → Type 0
InStretch stretch n = (stretch.since ≤ n) × (n < stretch.till)

-- the greatest u64
abbrev pub last_u64 : ℕ
last_u64 = 18446744073709551615

-- a number of commits lies in a stretch
abbrev pub Covers : Stretch → ℕ → Type 0
Covers stretch n = n < last_u64 → InStretch stretch n

-- versions hold the value of a stretch after each number of commits in it
abbrev pub HoldsIn : Stretch → List (ℕ × Option ℤ) → Type 0
HoldsIn stretch vs = (n : ℕ) → InStretch stretch n → value_after n None vs ≡ stretch.value

-- between its corners a region has the value of a stretch of a cell with a chain after each number of commits in it
abbrev pub SeesIn : Region → Stretch → Cell → VersionChain → Type 0
SeesIn region stretch c chain = (n : ℕ) → InStretch stretch n → seen_between region n c chain ≡ stretch.value

-- ---- what blocks say of chains

-- a block says what is after n commits
abbrev pub SaysOf : (n : ℕ) → RowBlock → Type 0
SaysOf n block = (block.since ≤ n) × (n < block.till)

-- no older block does
abbrev pub IsSilent : (n : ℕ) → Option RowBlock → Type 0
IsSilent n older = IfSome older (λ block. SaysOf n block → ⊥)

-- no block of a slot does
abbrev pub IsSilentSlot : (n : ℕ) → Slot → Type 0
IsSilentSlot n slot = (SaysOf n slot.newest → ⊥) × IsSilent n slot.older

-- a block has the rows of a region after each number of commits from a floor on, from `since` on and below `till`
abbrev pub IsTrueBlock : (floor : ℕ) → Cells VersionChain → Region → RowBlock → Type 0
IsTrueBlock floor chains region block =
    (n : ℕ) → floor ≤ n → block.since ≤ n → n < block.till → IsSeen (seen_in region n) chains block.rows

-- so has each block of a slot
abbrev pub IsTrueSlot : (floor : ℕ) → Cells VersionChain → Slot → Type 0
IsTrueSlot floor chains slot =
    IsTrueBlock floor chains slot.region slot.newest × IfSome slot.older (IsTrueBlock floor chains slot.region)

-- so has a slot, where there is one
abbrev pub IsTrueAt : (floor : ℕ) → Cells VersionChain → Option Slot → Type 0
IsTrueAt floor chains None = ⊤
IsTrueAt floor chains (Some slot) = IsTrueSlot floor chains slot

-- all slots
abbrev pub AreTrue : (floor : ℕ) → Cells VersionChain → Cells Slot → Type 0
AreTrue floor chains slots = (key : Cell) → IsTrueAt floor chains (at_cell slots key)

-- what is true of chains from a floor on stays true
abbrev pub StaysTrue : Cells VersionChain → Cells Slot → Cells Slot → Type 0
StaysTrue chains old new = (floor : ℕ) → AreTrue floor chains old → AreTrue floor chains new

-- rows are those of an older block after a number of commits, if it is true from no later floor on
abbrev pub IsOfOlder : (n : ℕ) → Option RowBlock → TableState → Type 0
IsOfOlder n older rows =
    (floor : ℕ) → floor ≤ n → (chains : Cells VersionChain) → (region : Region) → IfSome older (IsTrueBlock floor chains region) →
    IsSeen (seen_in region n) chains rows

-- rows are those of a region after a number of commits, if a slot is true from no later floor on
abbrev pub IsBySlot : (n : ℕ) → Slot → Region → TableState → Type 0
IsBySlot n slot region rows =
    (floor : ℕ) → floor ≤ n → (chains : Cells VersionChain) → IsTrueSlot floor chains slot → IsSeen (seen_in region n) chains rows

-- rows are those of the slot's own region
abbrev pub IsOfSlot : (n : ℕ) → Slot → TableState → Type 0
IsOfSlot n slot rows = IsBySlot n slot slot.region rows

-- ---- slots change

-- slots are those before, but for one at a key
abbrev pub IsPut : (before after : Cells Slot) → (key : Cell) → Slot → Type 0
IsPut before after key slot = (c : Cell) → at_cell after c ≡ if is_same_cell key c then Some slot else at_cell before c

-- slots are those before, but for none at a key
abbrev pub IsTaken : (before after : Cells Slot) → (key : Cell) → Type 0
IsTaken before after key = (c : Cell) → at_cell after c ≡ if is_same_cell key c then None else at_cell before c

-- ---- a slot takes a block

-- a slot of one block
abbrev pub one_block : Region → RowBlock → Slot
one_block region block = record { region = region; newest = block; older = None }

-- of its blocks and a new one it keeps the newest, and with it the new one or the newest of the others
abbrev pub with_block : RowBlock → Slot → Slot
with_block block slot =
    if leb slot.newest.since block.since then record slot { newest = block; older = Some slot.newest } else record slot { older = Some block }

-- ---- blocks that end

-- a block without what it says from a commit on
abbrev pub ended : (number : ℕ) → RowBlock → RowBlock
ended number block = record block { till = min block.till number }

abbrev pub ended_slot : (number : ℕ) → Slot → Slot
ended_slot number slot = record slot { newest = ended number slot.newest; older = option_map (ended number) slot.older }

-- no block of a slot says anything from a commit on
abbrev pub EndsBefore : (number : ℕ) → Slot → Type 0
EndsBefore number slot = (slot.newest.till ≤ number) × IfSome slot.older (λ block. block.till ≤ number)

-- no block that has a cell says anything from a commit on
abbrev pub AreEnded : (number : ℕ) → Cell → Cells Slot → Type 0
AreEnded number c slots =
    (key : Cell) → (slot : Slot) → at_cell slots key ≡ Some slot → is_in slot.region c ≡ true → EndsBefore number slot

-- the same for each cell of a region
abbrev pub AreEndedIn : (number : ℕ) → Region → Cells Slot → Type 0
AreEndedIn number region slots = (c : Cell) → is_in region c ≡ true → AreEnded number c slots

-- a region, if there is one, has a cell
abbrev pub HasCell : Option Region → Cell → Type 0
HasCell None c = ⊥
HasCell (Some region) c = is_in region c ≡ true

-- ---- slots that stand apart

-- no cell of a slot comes behind this one
abbrev pub EndsAt : Cell → Slot → Type 0
EndsAt key slot = (c : Cell) → is_in slot.region c ≡ true → is_gt (cell_cmp c key) ≡ false

-- each cell of a region comes behind this one
abbrev pub StandsBehind : Cell → Region → Type 0
StandsBehind key region = (c : Cell) → is_in region c ≡ true → cell_cmp key c ≡ Less

-- each slot ends at its key, and stands behind the keys before it
abbrev pub AreApart : Cells Slot → Type 0
AreApart slots =
    (key : Cell) → (slot : Slot) → at_cell slots key ≡ Some slot →
    EndsAt key slot × ((other : Cell) → (before : Slot) → at_cell slots other ≡ Some before → cell_cmp other key ≡ Less → StandsBehind other slot.region)

-- the slot of a key is just of a region
abbrev pub HasSlot : Cells Slot → Cell → Region → Type 0
HasSlot slots key region = option_map (λ (slot : Slot). slot.region) (at_cell slots key) ≡ Some region

-- the slot of a key has a cell
abbrev pub HasAt : Cells Slot → Cell → (key : Cell) → Type 0
HasAt slots c key = option_map (λ (slot : Slot). is_in slot.region c) (at_cell slots key) ≡ Some true

-- a slot that has a cell has this key
abbrev pub IsKeyOf : Cells Slot → Cell → Option Cell → Type 0
IsKeyOf slots c found = (key : Cell) → (slot : Slot) → at_cell slots key ≡ Some slot → is_in slot.region c ≡ true → found ≡ Some key

-- each slot has its key before one cell, or stands behind another
abbrev pub LeavesFree : (low high : Cell) → Cells Slot → Type 0
LeavesFree low high slots =
    (key : Cell) → (slot : Slot) → at_cell slots key ≡ Some slot →
    (cell_cmp key low ≡ Less) ⊎ ((cell_cmp high key ≡ Less) × StandsBehind high slot.region)

-- ---- parts of a region by its first column

-- the part between two ends
abbrev pub part_between : Region → (low high : ℤ) → Region
part_between region low high = record region { first_low = low; first_high = high }

-- the part before a number, and that behind one
abbrev pub part_before : Region → ℤ → Region
part_before region low = record region { first_high = low -ℤ pos 1 }

abbrev pub part_behind : Region → ℤ → Region
part_behind region high = record region { first_low = high +ℤ pos 1 }

-- two ends lie in the first column of a region, in order
abbrev pub LieIn : Region → (low high : ℤ) → Type 0
LieIn region low high = (region.first_low ≤ℤ low) × (low ≤ℤ high) × (high ≤ℤ region.first_high)

-- they are not the least and the greatest i64
abbrev pub AreInner : (low high : ℤ) → Type 0
AreInner low high = (least <ℤ low) × (high <ℤ greatest)

-- two ends of a part of a region are both
abbrev pub AreEnds : Region → (low high : ℤ) → Type 0
AreEnds region low high = LieIn region low high × AreInner low high

-- one region is the part of another between such ends
abbrev pub IsPart : Region → Region → Type 0
IsPart inner region =
    (inner ≡ part_between region inner.first_low inner.first_high) × AreEnds region inner.first_low inner.first_high

-- what two regions have in common by their first column
abbrev pub in_common : Region → Region → Region
in_common one other = part_between other (int_max one.first_low other.first_low) (int_min one.first_high other.first_high)

-- that is a part of both
abbrev pub IsCommon : (one other part : Region) → Type 0
IsCommon one other part = (part ≡ in_common one other) × IsPart part one × IsPart part other

-- it is not
abbrev pub HaveNoneInCommon : (one other : Region) → Type 0
HaveNoneInCommon one other = (part : Region) → IsCommon one other part → ⊥

-- a region goes on to where another begins, in the same table
abbrev pub Reaches : (region other : Region) → Type 0
Reaches region other = (region.table ≡ other.table) × (other.first_low ≤ℤ region.first_high)
