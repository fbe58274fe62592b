-- A clash as a pair.
use Rattle.std.specs.Prelude.{ℕ, Option, option_map}
use Rattle.prog_tree.specs.declared.cell.Cell.{Cell}
use Rattle.version_store.specs.declared.clash.Clash.{Clash}

-- the cell and the number of a clash
abbrev pub clash_pair : Clash → Cell × ℕ
clash_pair clash = (clash.cell, clash.number)

-- the pair of a clash, where there is one
abbrev pub told : Option Clash → Option (Cell × ℕ)
told = option_map clash_pair
