-- Laws of the corners of a region.
use Rattle.std.proofs.Common.{◌≡◌, ◌∙◌, ◌==◌, ℕ, ℤ, suc, pos, negsuc, Bool, true, false, cond, not, ◌&&◌, leb, refl, ap, sym, arith}
use Rattle.std.specs.Prelude.{int_lt, int_le, Some, None}
use Rattle.std.specs.Cmp.{tied_itself, nat_cmp_total}
use Rattle.std.specs.declared.cmp.Ordering.{Ordering}
use Rattle.std.specs.declared.cmp.Ordering.TheVariants.{Less, Equal, Greater}
use Rattle.std.specs.Ordering.{int_cmp, is_gt, is_le, is_lt, ordering_then}
use Rattle.std.proofs.lemmas.Bool.{eqb-true, eq-eqb, and_from, and_parts}
use Rattle.std.proofs.lemmas.Bool.Decides.{nat_tests}
use Rattle.prog_tree.specs.declared.cell.Cell.{Cell}
use Rattle.prog_tree.specs.declared.cell.Region.{Region}
use Rattle.prog_tree.specs.Table.{cell_cmp, is_in, lies_between}
use Rattle.prog_tree.specs.Corners.{is_between, AreCorners}
use Rattle.prog_tree.specs.Evaluation.{cell_in}

-- ---- tests

none_of : (b : Bool) → (b ≡ true → false ≡ true) → b ≡ false
none_of true h = sym (h refl)
none_of false h = refl

not_above : (x y : ℤ) → int_le x y ≡ true → int_lt y x ≡ false
not_above (pos a) (pos b) h = let fact : leb a b ≡ true = h in grind (arith, nat_tests)
not_above (pos a) (negsuc b) h = absurd (cc)
not_above (negsuc a) (pos b) h = refl
not_above (negsuc a) (negsuc b) h = let fact : leb b a ≡ true = h in grind (arith, nat_tests)

-- what lies between two ends shows that they are in order
ends_in_order : (x y z : ℤ) → int_le x y ≡ true → int_le y z ≡ true → int_lt z x ≡ false
ends_in_order (pos a) (pos b) (pos d) p q = let low : leb a b ≡ true = p in let high : leb b d ≡ true = q in grind (arith, nat_tests)
ends_in_order (pos a) (pos b) (negsuc d) p q = absurd (cc)
ends_in_order (pos a) (negsuc b) z p q = absurd (cc)
ends_in_order (negsuc a) (pos b) (pos d) p q = refl
ends_in_order (negsuc a) (pos b) (negsuc d) p q = absurd (cc)
ends_in_order (negsuc a) (negsuc b) (pos d) p q = refl
ends_in_order (negsuc a) (negsuc b) (negsuc d) p q = let low : leb b a ≡ true = p in let high : leb d b ≡ true = q in grind (arith, nat_tests)

-- ---- the order of cells, column by column

cmp_not_gt : (x y : ℤ) → int_lt y x ≡ false → is_gt (int_cmp x y) ≡ false
cmp_not_gt x y h =
    ap (λ b. is_gt (cond (int_lt x y) Less (cond b Greater Equal))) h
    ∙ elim (int_lt x y) as (λ b. is_gt (cond b Less Equal) ≡ false) [ true ↦ refl | false ↦ refl ]

cmp_not_lt : (x y : ℤ) → int_lt x y ≡ false → is_lt (int_cmp x y) ≡ false
cmp_not_lt x y h =
    ap (λ b. is_lt (cond b Less (cond (int_lt y x) Greater Equal))) h
    ∙ elim (int_lt y x) as (λ b. is_lt (cond b Greater Equal) ≡ false) [ true ↦ refl | false ↦ refl ]

then_not_gt : (r s : Ordering) → is_gt r ≡ false → is_gt s ≡ false → is_gt (ordering_then r s) ≡ false
then_not_gt Less s p q = refl
then_not_gt Equal s p q = q
then_not_gt Greater s p q = absurd (cc)

then_not_lt : (r s : Ordering) → is_lt r ≡ false → is_lt s ≡ false → is_lt (ordering_then r s) ≡ false
then_not_lt Less s p q = absurd (cc)
then_not_lt Equal s p q = q
then_not_lt Greater s p q = refl

le_from_not_gt : (r : Ordering) → is_gt r ≡ false → is_le r ≡ true
le_from_not_gt Less h = refl
le_from_not_gt Equal h = refl
le_from_not_gt Greater h = absurd (cc)

not_gt : (t : ℕ) (a b x y : ℤ) → int_lt x a ≡ false → int_lt y b ≡ false → is_gt (cell_cmp (cell_in t a b) (cell_in t x y)) ≡ false
not_gt t a b x y p q = then_not_gt _ _ (ap is_gt (tied_itself nat_cmp_total t)) (then_not_gt _ _ (cmp_not_gt a x p) (cmp_not_gt b y q))

not_lt : (t : ℕ) (a b x y : ℤ) → int_lt a x ≡ false → int_lt b y ≡ false → is_lt (cell_cmp (cell_in t a b) (cell_in t x y)) ≡ false
not_lt t a b x y p q = then_not_lt _ _ (ap is_lt (tied_itself nat_cmp_total t)) (then_not_lt _ _ (cmp_not_lt a x p) (cmp_not_lt b y q))

-- ---- the corners

-- a cell of a region lies in its columns' ends
record IsWithin (r : Region) (c : Cell) : Type 0 where
  table : r.table ≡ c.table
  first_low : int_le r.first_low c.first ≡ true
  first_high : int_le c.first r.first_high ≡ true
  second_low : int_le r.second_low c.second ≡ true
  second_high : int_le c.second r.second_high ≡ true

within : (r : Region) (c : Cell) → is_in r c ≡ true → IsWithin r c
within r c h =
    let columns = (and_parts (r.table == c.table) (lies_between r.first_low c.first r.first_high && lies_between r.second_low c.second r.second_high) h).1 in
    let first = (and_parts (lies_between r.first_low c.first r.first_high) (lies_between r.second_low c.second r.second_high) columns).0 in
    let second = (and_parts (lies_between r.first_low c.first r.first_high) (lies_between r.second_low c.second r.second_high) columns).1 in
    record {
      table = eqb-true _ _ (and_parts (r.table == c.table) _ h).0;
      first_low = (and_parts (int_le r.first_low c.first) (int_le c.first r.first_high) first).0;
      first_high = (and_parts (int_le r.first_low c.first) (int_le c.first r.first_high) first).1;
      second_low = (and_parts (int_le r.second_low c.second) (int_le c.second r.second_high) second).0;
      second_high = (and_parts (int_le r.second_low c.second) (int_le c.second r.second_high) second).1;
    }

abbrev pub low_corner : Region → Cell
low_corner r = cell_in r.table r.first_low r.second_low

abbrev pub high_corner : Region → Cell
high_corner r = cell_in r.table r.first_high r.second_high

between : (r : Region) (c : Cell) → IsWithin r c → is_between (low_corner r) (high_corner r) c ≡ true
between r c h =
    let low = not_gt c.table r.first_low r.second_low c.first c.second (not_above r.first_low c.first h.first_low) (not_above r.second_low c.second h.second_low) in
    let high = not_lt c.table r.first_high r.second_high c.first c.second (not_above c.first r.first_high h.first_high) (not_above c.second r.second_high h.second_high) in
    and_from _ _
    (ap (λ t. is_le (cell_cmp (cell_in t r.first_low r.second_low) c)) h.table ∙ le_from_not_gt _ low)
    (ap (λ t. not (is_lt (cell_cmp (cell_in t r.first_high r.second_high) c))) h.table ∙ ap not high)

-- ---- the corners of a region whose ends are in order

pub int_le-from_not_lt : (x y : ℤ) → int_lt y x ≡ false → int_le x y ≡ true
int_le-from_not_lt (pos a) (pos b) h = let fact : leb (suc b) a ≡ false = h in grind (arith, nat_tests)
int_le-from_not_lt (pos a) (negsuc b) h = absurd (cc)
int_le-from_not_lt (negsuc a) (pos b) h = refl
int_le-from_not_lt (negsuc a) (negsuc b) h = let fact : leb (suc a) b ≡ false = h in grind (arith, nat_tests)

not_above_itself : (x : ℤ) → int_le x x ≡ true
not_above_itself (pos a) = let fact : leb (suc a) a ≡ false = grind (arith, nat_tests) in int_le-from_not_lt (pos a) (pos a) fact
not_above_itself (negsuc a) = let fact : leb (suc a) a ≡ false = grind (arith, nat_tests) in int_le-from_not_lt (negsuc a) (negsuc a) fact

-- a column's ends lie between themselves
ends_within : (x y : ℤ) → int_lt y x ≡ false → lies_between x x y ≡ true × lies_between x y y ≡ true
ends_within x y h = (and_from _ _ (not_above_itself x) (int_le-from_not_lt x y h), and_from _ _ (int_le-from_not_lt x y h) (not_above_itself y))

pub corners_of : (r : Region) → int_lt r.first_high r.first_low ≡ false → int_lt r.second_high r.second_low ≡ false → AreCorners r (Some (low_corner r, high_corner r))
corners_of r first second =
    let firsts = ends_within r.first_low r.first_high first in
    let seconds = ends_within r.second_low r.second_high second in (
      (
        and_from _ _ (eq-eqb r.table r.table refl) (and_from _ _ firsts.0 seconds.0),
        and_from _ _ (eq-eqb r.table r.table refl) (and_from _ _ firsts.1 seconds.1),
        not_gt r.table r.first_low r.second_low r.first_high r.second_high first second,
      ),
      λ c h. between r c (within r c h),
    )

-- a region whose ends are not in order has no cell
pub no_cell_first : (r : Region) → int_lt r.first_high r.first_low ≡ true → AreCorners r None
no_cell_first r turned c = none_of _ (λ h. let w = within r c h in sym (ends_in_order r.first_low c.first r.first_high w.first_low w.first_high) ∙ turned)

pub no_cell_second : (r : Region) → int_lt r.second_high r.second_low ≡ true → AreCorners r None
no_cell_second r turned c = none_of _ (λ h. let w = within r c h in sym (ends_in_order r.second_low c.second r.second_high w.second_low w.second_high) ∙ turned)
