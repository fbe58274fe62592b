-- The cells that looks look at.
use Rattle.std.specs.Prelude.{Bool, ◌&&◌, not, List}
use Rattle.std.specs.List.{list_any}
use Rattle.prog_tree.specs.declared.cell.Cell.{Cell}
use Rattle.prog_tree.specs.declared.look.Look.{Look}
use Rattle.prog_tree.specs.declared.look.Look.TheVariants as look
use Rattle.prog_tree.specs.Table.{is_same_cell, is_cell_among, is_in}
use Rattle.prog_tree.specs.Evaluation.{Evaluation}

-- a look at a region looks at each cell in it, present or absent, but for those that the instance had changed
abbrev pub looks_at : Look → Cell → Bool
looks_at (look.One cell held) c = is_same_cell cell c
looks_at (look.Range region own rows) c = is_in region c && not (is_cell_among own c)

abbrev pub some_looks_at : List Look → Cell → Bool
some_looks_at looks c = list_any (λ l. looks_at l c) looks

abbrev pub has_looked : Evaluation → Cell → Bool
has_looked e c = some_looks_at e.looks c
