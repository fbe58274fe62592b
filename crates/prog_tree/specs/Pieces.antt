-- Rows in pieces.
use Rattle.std.specs.Prelude.{List, [], ◌∷◌, ◌++◌}
use Rattle.prog_tree.specs.Table.{TableState}

-- the rows of pieces, one piece behind another
abbrev pub rows_of : List TableState → TableState
rows_of [] = []
rows_of (piece ∷ pieces) = piece ++ rows_of pieces
