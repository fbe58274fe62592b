-- The rows of a region, part by part.
use Rattle.std.proofs.Common.{◌≡◌, ◌∙◌, ℕ, ℤ, pos, ◌+ℤ◌, ◌-ℤ◌, ◌≤ℤ◌, ◌<ℤ◌, Bool, true, false, cond, ◌==◌, ◌&&◌, if◌then◌else◌, [], ◌∷◌, ◌++◌, refl, ap, sym, arith, append_assoc}
use Rattle.std.specs.Prelude.{None, int_le, int_lt}
use Rattle.std.specs.Cmp.{tied_itself, nat_cmp_total}
use Rattle.std.specs.declared.cmp.Ordering.TheVariants.{Less, Equal, Greater}
use Rattle.std.specs.List.{AllByRecursion}
use Rattle.std.specs.List.Sorted.{IsStrictlySortedBy}
use Rattle.std.specs.Ordering.{nat_cmp, int_cmp, ordering_then}
use Rattle.std.proofs.lemmas.Bool.{eqb-true, and_parts, false_from_ne_true}
use Rattle.std.proofs.lemmas.Int.{ints, by_lt_z}
use Rattle.std.proofs.lemmas.Map.Keys.{sorted_head, sorted_tail}
use Rattle.prog_tree.specs.declared.cell.Cell.{Cell}
use Rattle.prog_tree.specs.declared.cell.Region.{Region}
use Rattle.prog_tree.specs.Table.{cell_cmp, Cells, cells_of, is_in, lies_between, row_held, TableState}
use Rattle.version_store.specs.Blocks.{part_between, part_before, part_behind}
use Rattle.version_store.specs.Reading.{value_at}
use Rattle.version_store.specs.Regions.{seen_in}
use Rattle.version_store.specs.StandsFor.{VersionChain}
use Rattle.version_store.proofs.FoundLaws.{found_rows, outside_region}

-- ---- tests of numbers

pub is_le : (x y : ℤ) → x ≤ℤ y → int_le x y ≡ true
is_le x y h = go (int_le x y) refl
  where
    go : (b : Bool) → int_le x y ≡ b → b ≡ true
    go true e = refl
    go false e = absurd (omega (arith, ints, e, h))

not_le : (x y : ℤ) → y <ℤ x → int_le x y ≡ false
not_le x y h = go (int_le x y) refl
  where
    go : (b : Bool) → int_le x y ≡ b → b ≡ false
    go true e = absurd (omega (arith, ints, e, h))
    go false e = refl

-- ---- the two sides of a number

-- the cells up to a number, and those from the next one on
abbrev pub up_to : Region → ℤ → Region
up_to r m = record r { first_high = m }

abbrev pub from_on : Region → ℤ → Region
from_on r m = record r { first_low = m }

up_same : (r : Region) (m : ℤ) (c : Cell) → c.first ≤ℤ m → m ≤ℤ r.first_high → is_in (up_to r m) c ≡ is_in r c
up_same r m c low high =
    ap (λ b. (r.table == c.table) && ((int_le r.first_low c.first && b) && lies_between r.second_low c.second r.second_high))
    (is_le c.first m low ∙ sym (is_le c.first r.first_high (omega (arith, ints, low, high))))

up_none : (r : Region) (m : ℤ) (c : Cell) → m <ℤ c.first → is_in (up_to r m) c ≡ false
up_none r m c above =
    ap (λ b. (r.table == c.table) && ((int_le r.first_low c.first && b) && lies_between r.second_low c.second r.second_high)) (not_le c.first m above)
    ∙ go (r.table == c.table) (int_le r.first_low c.first)
  where
    go : (a b : Bool) → (a && ((b && false) && lies_between r.second_low c.second r.second_high)) ≡ false
    go true true = refl
    go true false = refl
    go false b = refl

on_same : (r : Region) (m : ℤ) (c : Cell) → m ≤ℤ c.first → r.first_low ≤ℤ m → is_in (from_on r m) c ≡ is_in r c
on_same r m c low high =
    ap (λ b. (r.table == c.table) && ((b && int_le c.first r.first_high) && lies_between r.second_low c.second r.second_high))
    (is_le m c.first low ∙ sym (is_le r.first_low c.first (omega (arith, ints, low, high))))

on_none : (r : Region) (m : ℤ) (c : Cell) → c.first <ℤ m → is_in (from_on r m) c ≡ false
on_none r m c below =
    ap (λ b. (r.table == c.table) && ((b && int_le c.first r.first_high) && lies_between r.second_low c.second r.second_high)) (not_le m c.first below)
    ∙ go (r.table == c.table)
  where
    go : (a : Bool) → (a && ((false && int_le c.first r.first_high) && lies_between r.second_low c.second r.second_high)) ≡ false
    go true = refl
    go false = refl

-- ---- the order of cells

-- behind a cell of a region no cell of its table has a lesser first column
not_before : (t : ℕ) (c d : Cell) → t ≡ c.table → t ≡ d.table → d.first <ℤ c.first → cell_cmp c d ≡ Less → ⊥
not_before t c d here there lower less = absurd (clash (sym greater ∙ less))
  where
    tables : nat_cmp c.table d.table ≡ Equal
    tables = ap (nat_cmp c.table) (sym there ∙ here) ∙ tied_itself nat_cmp_total c.table

    firsts : int_cmp c.first d.first ≡ Greater
    firsts = go (int_lt c.first d.first) (int_lt d.first c.first) refl refl
      where
        go : (a b : Bool) → int_lt c.first d.first ≡ a → int_lt d.first c.first ≡ b → cond a Less (cond b Greater Equal) ≡ Greater
        go true b e f = absurd (omega (arith, ints, e, lower))
        go false true e f = refl
        go false false e f = absurd (omega (arith, ints, f, lower))

    greater : cell_cmp c d ≡ Greater
    greater = ap (λ o. ordering_then o (ordering_then (int_cmp c.first d.first) (int_cmp c.second d.second))) tables ∙ ap (λ o. ordering_then o (int_cmp c.second d.second)) firsts

    clash : Greater ≡ Less → ⊥
    clash e = cc

table_of : (r : Region) (c : Cell) → is_in r c ≡ true → r.table ≡ c.table
table_of r c h = eqb-true _ _ (and_parts (r.table == c.table) _ h).0

-- behind a cell of a region that lies behind a number no cell lies before it
none_up_to : (r : Region) (m : ℤ) (c d : Cell) → is_in r c ≡ true → m <ℤ c.first → cell_cmp c d ≡ Less → is_in (up_to r m) d ≡ false
none_up_to r m c d inside above less = false_from_ne_true (is_in (up_to r m) d) (λ h.
    by_lt_z m d.first
    (λ high. let out = sym (up_none r m d high) ∙ h in absurd (cc))
    (λ low. not_before r.table c d (table_of r c inside) (table_of (up_to r m) d h) (omega (arith, ints, low, above)) less))

-- ---- the rows

abbrev pub rows_of_part : Region → ℕ → Cells VersionChain → TableState
rows_of_part r n es = found_rows (seen_in r n) es

none_left : (r : Region) (n : ℕ) (m : ℤ) (c : Cell) (es : Cells VersionChain) → is_in r c ≡ true → m <ℤ c.first → AllByRecursion (λ d. cell_cmp c d ≡ Less) (cells_of es) → rows_of_part (up_to r m) n es ≡ []
none_left r n m c [] inside above behind = refl
none_left r n m c (e ∷ es) inside above behind =
    ap (λ o. row_held e.0 o ++ rows_of_part (up_to r m) n es) (outside_region (up_to r m) n e.0 e.1 (none_up_to r m c e.0 inside above behind.0))
    ∙ none_left r n m c es inside above behind.1

same_seen : (r s : Region) (n : ℕ) (c : Cell) (chain : VersionChain) → is_in r c ≡ is_in s c → seen_in r n c chain ≡ seen_in s n c chain
same_seen r s n c chain e = ap (λ b. if b then value_at n chain else None) e

-- the rows of a region are those up to a number, and then those from the next one on
pub split_at :
    (r : Region) (n : ℕ) (m k : ℤ) (es : Cells VersionChain) → k ≡ m +ℤ pos 1 → m ≤ℤ r.first_high → r.first_low ≤ℤ k → IsStrictlySortedBy cell_cmp (cells_of es) →
    rows_of_part r n es ≡ rows_of_part (up_to r m) n es ++ rows_of_part (from_on r k) n es
split_at r n m k [] next high low sorted = refl
split_at r n m k (e ∷ es) next high low sorted = turn (split_at r n m k es next high low (sorted_tail cell_cmp e.0 (cells_of es) sorted))
  where
    left : e.0.first ≤ℤ m → rows_of_part r n es ≡ rows_of_part (up_to r m) n es ++ rows_of_part (from_on r k) n es →
        rows_of_part r n (e ∷ es) ≡ rows_of_part (up_to r m) n (e ∷ es) ++ rows_of_part (from_on r k) n (e ∷ es)
    left below rest =
        ap (λ rows. row_held e.0 (seen_in r n e.0 e.1) ++ rows) rest
        ∙ sym (append_assoc (row_held e.0 (seen_in r n e.0 e.1)) (rows_of_part (up_to r m) n es) (rows_of_part (from_on r k) n es))
        ∙ (λ i. (row_held e.0 (same_seen r (up_to r m) n e.0 e.1 (sym (up_same r m e.0 below high)) i) ++ rows_of_part (up_to r m) n es)
        ++ (row_held e.0 (sym (outside_region (from_on r k) n e.0 e.1 (on_none r k e.0 (omega (arith, ints, next, below)))) i) ++ rows_of_part (from_on r k) n es))

    here : m <ℤ e.0.first → is_in (from_on r k) e.0 ≡ is_in r e.0
    here above = on_same r k e.0 (omega (arith, ints, next, above)) low

    right : m <ℤ e.0.first → (b : Bool) → is_in r e.0 ≡ b → rows_of_part r n es ≡ rows_of_part (up_to r m) n es ++ rows_of_part (from_on r k) n es →
        rows_of_part r n (e ∷ es) ≡ rows_of_part (up_to r m) n (e ∷ es) ++ rows_of_part (from_on r k) n (e ∷ es)
    right above true inside rest =
        let none = none_left r n m e.0 es inside above (sorted_head cell_cmp e.0 (cells_of es) sorted) in
        (λ i. row_held e.0 (same_seen r (from_on r k) n e.0 e.1 (sym (here above)) i) ++ (rest ∙ ap (λ rows. rows ++ rows_of_part (from_on r k) n es) none) i)
        ∙ (λ i. (row_held e.0 (sym (outside_region (up_to r m) n e.0 e.1 (up_none r m e.0 above)) i) ++ sym none i) ++ (row_held e.0 (seen_in (from_on r k) n e.0 e.1) ++ rows_of_part (from_on r k) n es))
    right above false outside rest =
        ap (λ o. row_held e.0 o ++ rows_of_part r n es) (outside_region r n e.0 e.1 outside)
        ∙ rest
        ∙ (λ i. (row_held e.0 (sym (outside_region (up_to r m) n e.0 e.1 (up_none r m e.0 above)) i) ++ rows_of_part (up_to r m) n es)
        ++ (row_held e.0 (sym (outside_region (from_on r k) n e.0 e.1 (here above ∙ outside)) i) ++ rows_of_part (from_on r k) n es))

    turn : rows_of_part r n es ≡ rows_of_part (up_to r m) n es ++ rows_of_part (from_on r k) n es →
        rows_of_part r n (e ∷ es) ≡ rows_of_part (up_to r m) n (e ∷ es) ++ rows_of_part (from_on r k) n (e ∷ es)
    turn rest = by_lt_z m e.0.first (λ above. right above (is_in r e.0) refl rest) (λ below. left below rest)

-- the rows of a region are those before a part of it, those of the part, and those behind it
pub split_part :
    (r : Region) (n : ℕ) (low high : ℤ) (es : Cells VersionChain) → r.first_low ≤ℤ low → low ≤ℤ high → high ≤ℤ r.first_high → IsStrictlySortedBy cell_cmp (cells_of es) →
    rows_of_part r n es ≡ rows_of_part (part_before r low) n es ++ (rows_of_part (part_between r low high) n es ++ rows_of_part (part_behind r high) n es)
split_part r n low high es first order last sorted =
    split_at r n (low -ℤ pos 1) low es (omega (arith, ints)) (omega (arith, ints, order, last)) first sorted
    ∙ ap (λ rows. rows_of_part (part_before r low) n es ++ rows)
    (split_at (from_on r low) n high (high +ℤ pos 1) es refl last (omega (arith, ints, order)) sorted)
