-- The rows of a part of a region.
use Rattle.std.proofs.Common.{◌≡◌, ◌∙◌, ℕ, ◌+◌, ℤ, Bool, true, false, cond, ◌==◌, ◌&&◌, ◌++◌, drop, refl, ap, sym, subst, arith}
use Rattle.std.specs.Int.{int_max, int_min, w64}
use Rattle.std.specs.Prelude.{Option, None, FitsSigned, int_le, int_lt}
use Rattle.std.proofs.lemmas.Bool.{and_parts}
use Rattle.std.proofs.lemmas.Int.{ints}
use Rattle.prog_tree.specs.declared.cell.Cell.{Cell}
use Rattle.prog_tree.specs.declared.cell.Region.{Region}
use Rattle.prog_tree.specs.Table.{is_in, lies_between, rows_in, TableState}
use Rattle.prog_tree.proofs.TableStates.{IsTableState-rows_in, row_at-where}
use Rattle.version_store.specs.declared.block.Slot.{Slot}
use Rattle.version_store.specs.Blocks.{in_common, IsBySlot, IsCommon, IsOfSlot, IsPart}
use Rattle.version_store.specs.Reading.{chain_at, value_at}
use Rattle.version_store.specs.Regions.{seen_in, IsSeen}
use Rattle.version_store.specs.StandsFor.{VersionChain}
use Rattle.version_store.proofs.SplitLaws.{is_le}

-- ---- the rows that are kept

-- with the kept rows of what is left, those that were kept are all that are to be kept
abbrev pub Keeps : Region → (rows : TableState) → (i : ℕ) → (kept : TableState) → Type 0
Keeps region rows i kept = kept ++ rows_in region (drop i rows) ≡ rows_in region rows

-- ---- a part of a region

-- what lies in a part lies in the region
in_part : (part region : Region) (c : Cell) → IsPart part region → is_in part c ≡ true → is_in region c ≡ true
in_part part region c is_part inside =
    ap (λ b. (region.table == c.table) && (b && lies_between region.second_low c.second region.second_high)) firsts ∙ here
  where
    here : ((region.table == c.table) && (lies_between part.first_low c.first part.first_high && lies_between region.second_low c.second region.second_high)) ≡ true
    here = sym (ap (λ r. is_in r c) is_part.0) ∙ inside

    between : lies_between part.first_low c.first part.first_high ≡ true
    between = (and_parts (lies_between part.first_low c.first part.first_high) _ (and_parts (region.table == c.table) _ here).1).0

    firsts : lies_between region.first_low c.first region.first_high ≡ lies_between part.first_low c.first part.first_high
    firsts =
        let low = (and_parts (int_le part.first_low c.first) _ between).0 in
        let high = (and_parts (int_le part.first_low c.first) _ between).1 in
        let first = is_le region.first_low c.first (omega (arith, ints, low, is_part.1.0.0)) in
        let last = is_le c.first region.first_high (omega (arith, ints, high, is_part.1.0.2)) in
        (λ i. first i && last i) ∙ sym between

-- the rows of a slot that lie in a part of its region
pub by_part : (n : ℕ) (slot : Slot) (part : Region) (rows : TableState) → IsPart part slot.region → IsOfSlot n slot rows → IsBySlot n slot part (rows_in part rows)
by_part n slot part rows is_part of_slot floor above chains holds = (
  IsTableState-rows_in part rows seen.0,
  λ c. row_at-where (is_in part) rows c ∙ ap (λ o. cond (is_in part c) o None) (seen.1 c) ∙ go c (is_in part c) refl,
)
  where
    seen : IsSeen (seen_in slot.region n) chains rows
    seen = of_slot floor above chains holds

    go : (c : Cell) (b : Bool) → is_in part c ≡ b → cond b (seen_in slot.region n c (chain_at chains c)) None ≡ cond b (value_at n (chain_at chains c)) None
    go c true inside = ap (λ t. cond t (value_at n (chain_at chains c)) None) (in_part part slot.region c is_part inside)
    go c false outside = refl

-- what two regions have in common is a part of both where there is such a part
pub common_parts : (one other part found : Region) → found ≡ in_common one other → IsCommon one other part → IsPart found one × IsPart found other
common_parts one other part found is common =
    let same : part ≡ found = common.0 ∙ sym is in
    (subst (λ (r : Region). IsPart r one) same common.1, subst (λ (r : Region). IsPart r other) same common.2)

-- the greater and the lesser of two i64 are i64
pub max_fits : (x y : ℤ) → FitsSigned w64 x → FitsSigned w64 y → FitsSigned w64 (int_max x y)
max_fits x y a b = go (int_lt y x)
  where
    go : (t : Bool) → FitsSigned w64 (cond t x y)
    go true = a
    go false = b

pub min_fits : (x y : ℤ) → FitsSigned w64 x → FitsSigned w64 y → FitsSigned w64 (int_min x y)
min_fits x y a b = go (int_lt y x)
  where
    go : (t : Bool) → FitsSigned w64 (cond t y x)
    go true = b
    go false = a
