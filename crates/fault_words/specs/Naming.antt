-- What the programs, the cells and the regions of a set are called, and the parameters of its programs.
use Rattle.std.specs.Prelude.{ℕ, ℤ, if◌then◌else◌, List, [], ◌++◌, Option, Some, None, codes, slice_get}
use Rattle.std.specs.Fmt.{signed_decimal}
use Rattle.std.specs.Ordering.{int_eq}
use Rattle.prog_tree.specs.Number.{least, greatest}
use Rattle.prog_tree.specs.Syntax.{Name, ProgramTree, DraftTree}
use Rattle.prog_tree.specs.declared.cell.Cell.{Cell}
use Rattle.prog_tree.specs.declared.cell.Region.{Region}
use Rattle.prog_tree.specs.declared.table.Arity.{Arity}
use Rattle.prog_tree.specs.declared.table.Arity.TheVariants.{One, Two}
use Rattle.prog_tree.specs.declared.table.TableDecl.{TableDecl}

-- the name of a program; one that is not there has none
abbrev pub name_of : Option ProgramTree → Name
name_of None = []
name_of (Some program) = program.name

-- the name of the program of a number
abbrev pub program_name : DraftTree → (program : ℕ) → Name
program_name set program = name_of (slice_get set.programs program)

-- the parameters of a program; one that is not there has none
abbrev pub params_of : Option ProgramTree → List Name
params_of None = []
params_of (Some program) = program.params

-- the parameters of the program of a number
abbrev pub program_params : DraftTree → (program : ℕ) → List Name
program_params set program = params_of (slice_get set.programs program)

-- a table's name with the key columns of a cell, as `` `Balance[3]` `` or `` `Owner[3, 4]` ``
abbrev pub cell_with : Name → Arity → (first second : ℤ) → List ℕ
cell_with name One first second = codes "`" ++ (name ++ (codes "[" ++ (signed_decimal first ++ codes "]`")))
cell_with name Two first second =
    codes "`" ++ (name ++ (codes "[" ++ (signed_decimal first
    ++ (codes ", " ++ (signed_decimal second ++ codes "]`")))))

-- a cell of a table; a table that is not there has no name
abbrev pub cell_of : Cell → Option TableDecl → List ℕ
cell_of cell None = codes "a cell"
cell_of cell (Some table) = cell_with table.name table.arity cell.first cell.second

-- a cell of a set
abbrev pub cell_text : DraftTree → Cell → List ℕ
cell_text set cell = cell_of cell (slice_get set.tables cell.table)

-- an end of a range; the least and the greatest number have names
abbrev pub end_text : ℤ → List ℕ
end_text number =
    if int_eq number least then codes "least"
    else (if int_eq number greatest then codes "greatest" else signed_decimal number)

abbrev pub range_text : (low high : ℤ) → List ℕ
range_text low high = end_text low ++ (codes ".." ++ end_text high)

-- a table's name with the range of its only key column, as `` `Balance[0..9]` ``
abbrev pub only_range : Name → (low high : ℤ) → List ℕ
only_range name low high = codes "`" ++ (name ++ (codes "[" ++ (range_text low high ++ codes "]`")))

-- a table's name with its first key column and the range of its second, as `` `Owner[3, least..4]` ``
abbrev pub second_range : Name → (first low high : ℤ) → List ℕ
second_range name first low high =
    codes "`" ++ (name ++ (codes "[" ++ (signed_decimal first ++ (codes ", " ++ (range_text low high ++ codes "]`")))))

abbrev pub region_with : Name → Arity → Region → List ℕ
region_with name One region = only_range name region.first_low region.first_high
region_with name Two region = second_range name region.first_low region.second_low region.second_high

-- a region of a table; a table that is not there has no name
abbrev pub region_of : Region → Option TableDecl → List ℕ
region_of region None = codes "a range"
region_of region (Some table) = region_with table.name table.arity region

-- a region of a set
abbrev pub region_text : DraftTree → Region → List ℕ
region_text set region = region_of region (slice_get set.tables region.table)
