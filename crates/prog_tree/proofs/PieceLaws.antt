-- Laws of rows in pieces.
use Rattle.std.proofs.Common.{◌≡◌, ◌∙◌, ℕ, ◌+◌, ◌<◌, List, [], ◌∷◌, ◌++◌, length, drop, get_or, ap, sym, arith, add-one, drop-cons, length-append}
use Rattle.std.specs.Prelude.{ℤ, ◌+ℤ◌}
use Rattle.std.proofs.lemmas.Int.{ints}
use Rattle.prog_tree.specs.declared.cell.Cell.{Cell}
use Rattle.prog_tree.specs.Pieces.{rows_of}
use Rattle.prog_tree.specs.Table.{TableState, total_of}

-- ---- totals

-- the values from one row on
pub total_more : (rows : TableState) (i : ℕ) (d : Cell × ℤ) (v : ℤ) → i < length rows → v ≡ (get_or rows i d).1 →
    total_of (drop i rows) ≡ v +ℤ total_of (drop (i + 1) rows)
total_more rows i d v lt e =
    let split : drop i rows ≡ get_or rows i d ∷ drop (i + 1) rows = rw add-one (drop-cons rows i d lt) in
    ap total_of split ∙ ap (λ z. z +ℤ total_of (drop (i + 1) rows)) (sym e)

pub total-append : (rows more : TableState) → total_of (rows ++ more) ≡ total_of rows +ℤ total_of more
total-append [] more = omega (arith, ints)
total-append (row ∷ rows) more = let rest = total-append rows more in omega (arith, ints, rest)

-- ---- pieces

-- the rows from one piece on
pub rows_more : (pieces : List TableState) (i : ℕ) (d piece : TableState) → i < length pieces → piece ≡ get_or pieces i d → rows_of (drop i pieces) ≡ piece ++ rows_of (drop (i + 1) pieces)
rows_more pieces i d piece lt e =
    let split : drop i pieces ≡ get_or pieces i d ∷ drop (i + 1) pieces = rw add-one (drop-cons pieces i d lt) in
    ap rows_of split ∙ ap (λ rows. rows ++ rows_of (drop (i + 1) pieces)) (sym e)

-- how many they are
pub count_more : (pieces : List TableState) (i : ℕ) (d piece : TableState) → i < length pieces → piece ≡ get_or pieces i d →
    length (rows_of (drop i pieces)) ≡ length piece + length (rows_of (drop (i + 1) pieces))
count_more pieces i d piece lt e = ap length (rows_more pieces i d piece lt e) ∙ length-append piece (rows_of (drop (i + 1) pieces))

-- and what their values come to
pub values_more : (pieces : List TableState) (i : ℕ) (d piece : TableState) → i < length pieces → piece ≡ get_or pieces i d →
    total_of (rows_of (drop i pieces)) ≡ total_of piece +ℤ total_of (rows_of (drop (i + 1) pieces))
values_more pieces i d piece lt e = ap total_of (rows_more pieces i d piece lt e) ∙ total-append piece (rows_of (drop (i + 1) pieces))
