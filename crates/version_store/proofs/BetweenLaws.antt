-- A cell between the corners of a region is in it exactly where its second column is.
use Rattle.std.proofs.Common.{◌≡◌, ◌∙◌, ◌==◌, ℕ, ℤ, suc, pos, negsuc, Bool, true, false, cond, not, ◌&&◌, leb, nat_lt, refl, ap, sym, arith}
use Rattle.std.specs.Prelude.{int_lt, int_le}
use Rattle.std.specs.Cmp.{tied_itself, nat_cmp_total}
use Rattle.std.specs.declared.cmp.Ordering.{Ordering}
use Rattle.std.specs.declared.cmp.Ordering.TheVariants.{Less, Equal, Greater}
use Rattle.std.specs.Ordering.{nat_cmp, int_cmp, is_gt, is_le, is_lt, ordering_then}
use Rattle.std.proofs.lemmas.Bool.{eqb-true, eq-eqb, and_from, and_parts}
use Rattle.std.proofs.lemmas.Bool.Decides.{nat_tests}
use Rattle.prog_tree.specs.declared.cell.Cell.{Cell}
use Rattle.prog_tree.specs.declared.cell.Region.{Region}
use Rattle.prog_tree.specs.Table.{cell_cmp, is_in, lies_between}
use Rattle.prog_tree.specs.Corners.{is_between, AreCellsOf}
use Rattle.prog_tree.proofs.CornerLaws.{int_le-from_not_lt}

-- ---- comparisons column by column

at_most : (o p : Ordering) → is_le (ordering_then o p) ≡ true → is_gt o ≡ false
at_most Less p h = refl
at_most Equal p h = refl
at_most Greater p h = absurd (cc)

at_least : (o p : Ordering) → not (is_lt (ordering_then o p)) ≡ true → is_lt o ≡ false
at_least Less p h = absurd (cc)
at_least Equal p h = refl
at_least Greater p h = refl

nat_at_most : (m n : ℕ) → is_gt (nat_cmp m n) ≡ false → leb m n ≡ true
nat_at_most m n h = go (nat_lt m n) (m == n) refl refl
  where
    go : (b e : Bool) → nat_lt m n ≡ b → (m == n) ≡ e → leb m n ≡ true
    go true e less is = grind (arith, nat_tests)
    go false true less is = grind (arith, nat_tests)
    go false false less is = let never : is_gt (cond (nat_lt m n) Less (cond (m == n) Equal Greater)) ≡ true = rw (less, is) refl in absurd (cc)

nat_at_least : (m n : ℕ) → is_lt (nat_cmp m n) ≡ false → leb n m ≡ true
nat_at_least m n h = go (nat_lt m n) refl
  where
    go : (b : Bool) → nat_lt m n ≡ b → leb n m ≡ true
    go true less = let never : is_lt (cond (nat_lt m n) Less (cond (m == n) Equal Greater)) ≡ true = rw less refl in absurd (cc)
    go false less = grind (arith, nat_tests)

-- a column that is at least one end and at most the same end is that end
column_is : (t u : ℕ) → leb t u ≡ true → leb u t ≡ true → t ≡ u
column_is t u low high = grind (arith, nat_tests)

int_asym : (x y : ℤ) → int_lt x y ≡ true → int_lt y x ≡ false
int_asym (pos a) (pos b) h = let fact : leb (suc a) b ≡ true = h in grind (arith, nat_tests)
int_asym (pos a) (negsuc b) h = absurd (cc)
int_asym (negsuc a) (pos b) h = refl
int_asym (negsuc a) (negsuc b) h = let fact : leb (suc b) a ≡ true = h in grind (arith, nat_tests)

int_at_most : (x y : ℤ) → is_gt (int_cmp x y) ≡ false → int_le x y ≡ true
int_at_most x y h = int_le-from_not_lt x y (go (int_lt x y) (int_lt y x) refl refl)
  where
    go : (b d : Bool) → int_lt x y ≡ b → int_lt y x ≡ d → int_lt y x ≡ false
    go true d less more = int_asym x y less
    go false true less more = let never : is_gt (cond (int_lt x y) Less (cond (int_lt y x) Greater Equal)) ≡ true = rw (less, more) refl in absurd (cc)
    go false false less more = more

int_at_least : (x y : ℤ) → is_lt (int_cmp x y) ≡ false → int_le y x ≡ true
int_at_least x y h = int_le-from_not_lt y x (go (int_lt x y) refl)
  where
    go : (b : Bool) → int_lt x y ≡ b → int_lt x y ≡ false
    go true less = let never : is_lt (cond (int_lt x y) Less (cond (int_lt y x) Greater Equal)) ≡ true = rw less refl in absurd (cc)
    go false less = less

int_between : (x y z : ℤ) → int_le x y ≡ true → int_le y z ≡ true → int_le x z ≡ true
int_between (pos a) (pos b) (pos d) p q = let low : leb a b ≡ true = p in let high : leb b d ≡ true = q in grind (arith, nat_tests)
int_between (pos a) (pos b) (negsuc d) p q = absurd (cc)
int_between (pos a) (negsuc b) z p q = absurd (cc)
int_between (negsuc a) (pos b) (pos d) p q = refl
int_between (negsuc a) (pos b) (negsuc d) p q = absurd (cc)
int_between (negsuc a) (negsuc b) (pos d) p q = refl
int_between (negsuc a) (negsuc b) (negsuc d) p q = let low : leb b a ≡ true = p in let high : leb d b ≡ true = q in grind (arith, nat_tests)

-- ---- cells between the corners

-- a cell of a region is of its table, and lies in the ends of the first column
record IsInFirst (r : Region) (c : Cell) : Type 0 where
  table : r.table ≡ c.table
  low : int_le r.first_low c.first ≡ true
  high : int_le c.first r.first_high ≡ true

in_first : (r : Region) (c : Cell) → is_in r c ≡ true → IsInFirst r c
in_first r c h =
    let columns = (and_parts (r.table == c.table) (lies_between r.first_low c.first r.first_high && lies_between r.second_low c.second r.second_high) h).1 in
    let first = (and_parts (lies_between r.first_low c.first r.first_high) (lies_between r.second_low c.second r.second_high) columns).0 in
    record {
      table = eqb-true _ _ (and_parts (r.table == c.table) _ h).0;
      low = (and_parts (int_le r.first_low c.first) (int_le c.first r.first_high) first).0;
      high = (and_parts (int_le r.first_low c.first) (int_le c.first r.first_high) first).1;
    }

-- the order of two cells of one table
abbrev by_columns : Cell → Cell → Ordering
by_columns a b = ordering_then (int_cmp a.first b.first) (int_cmp a.second b.second)

-- what lies between two cells of a region does too
first_between : (r : Region) (low high c : Cell) → IsInFirst r low → IsInFirst r high → is_between low high c ≡ true → IsInFirst r c
first_between r low high c least greatest between = record {
  table = least.table ∙ table;
  low = int_between r.first_low low.first c.first least.low (int_at_most low.first c.first (at_most _ (int_cmp low.second c.second) above_first));
  high = int_between c.first high.first r.first_high (int_at_least high.first c.first (at_least _ (int_cmp high.second c.second) below_first)) greatest.high;
}
  where
    ends : (is_le (cell_cmp low c) ≡ true) × (not (is_lt (cell_cmp high c)) ≡ true)
    ends = and_parts (is_le (cell_cmp low c)) (not (is_lt (cell_cmp high c))) between

    above : leb low.table c.table ≡ true
    above = nat_at_most low.table c.table (at_most (nat_cmp low.table c.table) (by_columns low c) ends.0)

    below : leb c.table high.table ≡ true
    below = nat_at_least high.table c.table (at_least (nat_cmp high.table c.table) (by_columns high c) ends.1)

    table : low.table ≡ c.table
    table = column_is low.table c.table above (sym (ap (leb c.table) (sym greatest.table ∙ least.table)) ∙ below)

    above_first : is_le (by_columns low c) ≡ true
    above_first = ap (λ o. is_le (ordering_then o (by_columns low c))) (sym (ap (nat_cmp low.table) (sym table) ∙ tied_itself nat_cmp_total low.table)) ∙ ends.0

    below_first : not (is_lt (by_columns high c)) ≡ true
    below_first = ap (λ o. not (is_lt (ordering_then o (by_columns high c)))) (sym (ap (nat_cmp high.table) (sym table ∙ sym least.table ∙ greatest.table) ∙ tied_itself nat_cmp_total high.table)) ∙ ends.1

pub in_by_second : (r : Region) (low high c : Cell) → AreCellsOf r low high → is_between low high c ≡ true → is_in r c ≡ lies_between r.second_low c.second r.second_high
in_by_second r low high c cells between =
    let first = first_between r low high c (in_first r low cells.0) (in_first r high cells.1) between in
    ap (λ b. b && (lies_between r.first_low c.first r.first_high && lies_between r.second_low c.second r.second_high)) (eq-eqb r.table c.table first.table)
    ∙ ap (λ b. b && lies_between r.second_low c.second r.second_high) (and_from _ _ first.low first.high)
