-- Worked examples of blocks, proved by computation.
use Rattle.std.proofs.Common.{◌≡◌, refl}
use Rattle.std.specs.Prelude.{ℤ, pos, negsuc, Bool, false, List, [], ◌∷◌, Some}
use Rattle.prog_tree.specs.declared.cell.Cell.{Cell}
use Rattle.prog_tree.specs.declared.cell.Region.{Region}
use Rattle.prog_tree.specs.Evaluation.{region_between}
use Rattle.prog_tree.specs.Table.{TableState, is_in}
use Rattle.version_store.specs.declared.block.RowBlock.{RowBlock}
use Rattle.version_store.specs.declared.block.Slot.{Slot}
use Rattle.version_store.specs.Blocks.{ended, ended_slot, part_between, part_before, part_behind}

-- the cells t[n]
abbrev t : ℤ → Cell
t n = record { table = 0; first = n; second = pos 0 }

-- t[3] = 7
abbrev rows : TableState
rows = (t (pos 3), pos 7) ∷ []

abbrev block : RowBlock
block = record { since = 2; till = 9; rows = rows }

-- commit 5 changes a cell of it; commit 12 comes behind its end
pub ends : ended 5 block ≡ record { since = 2; till = 5; rows = rows }
ends = refl

pub has_ended : ended 12 block ≡ block
has_ended = refl

-- both blocks of a slot end
pub slot_ends :
    ended_slot 5 record { region = region_between 0 (pos 1) (pos 4); newest = block; older = Some record { since = 0; till = 2; rows = [] } }
    ≡ record { region = region_between 0 (pos 1) (pos 4); newest = ended 5 block; older = Some record { since = 0; till = 2; rows = [] } }
slot_ends = refl

-- ---- the cells from t[0] to t[9], of which a block has those from t[3] to t[5]

abbrev ten : Region
ten = region_between 0 (pos 0) (pos 9)

pub before_three : part_before ten (pos 3) ≡ region_between 0 (pos 0) (pos 2)
before_three = refl

pub three_to_five : part_between ten (pos 3) (pos 5) ≡ region_between 0 (pos 3) (pos 5)
three_to_five = refl

pub behind_five : part_behind ten (pos 5) ≡ region_between 0 (pos 6) (pos 9)
behind_five = refl

-- before t[0] there is none of them
pub before_all : part_before ten (pos 0) ≡ region_between 0 (pos 0) (negsuc 0)
before_all = refl

pub none_before : is_in (part_before ten (pos 0)) (t (pos 0)) ≡ false
none_before = refl
