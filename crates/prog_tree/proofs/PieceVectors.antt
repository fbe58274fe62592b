-- Worked examples of rows in pieces, proved by computation.
use Rattle.std.proofs.Common.{◌≡◌, refl}
use Rattle.std.specs.Prelude.{ℤ, pos, negsuc, List, [], ◌∷◌}
use Rattle.prog_tree.specs.declared.cell.Cell.{Cell}
use Rattle.prog_tree.specs.Pieces.{rows_of}
use Rattle.prog_tree.specs.Table.{TableState, total_of}

-- the cells t[n]
abbrev t : ℤ → Cell
t n = record { table = 0; first = n; second = pos 0 }

-- two pieces, of t[1] = 4 and t[2] = -1, and of t[5] = 10, with an empty one between
abbrev pieces : List TableState
pieces = ((t (pos 1), pos 4) ∷ (t (pos 2), negsuc 0) ∷ []) ∷ [] ∷ ((t (pos 5), pos 10) ∷ []) ∷ []

pub three_rows : rows_of pieces ≡ (t (pos 1), pos 4) ∷ (t (pos 2), negsuc 0) ∷ (t (pos 5), pos 10) ∷ []
three_rows = refl

pub thirteen : total_of (rows_of pieces) ≡ pos 13
thirteen = refl

pub no_pieces : rows_of [] ≡ []
no_pieces = refl
