-- The clash that a book finds is the machine's.
use Rattle.std.proofs.Common.{◌≡◌, ℕ, List}
use Rattle.std.specs.Prelude.{Option}
use Rattle.prog_tree.specs.declared.cell.Cell.{Cell}
use Rattle.prog_tree.specs.ChangeSet.{ChangeSet}
use Rattle.version_store.specs.Clash.{IsClash, clash_of}
use Rattle.version_store.proofs.ClashLaws.{clashes_found}

pub clash_is : (ws : List ChangeSet) (start : ℕ) (w : ChangeSet) (o : Option (Cell × ℕ)) → IsClash ws start w o → o ≡ clash_of ws start w
clash_is ws start w o clash = (clashes_found ws start w o).0 clash
