-- What stands at a place of a list.
use Rattle.std.proofs.Common.{◌≡◌, ℕ, List, length, ◌<◌, Some}
use Rattle.std.specs.Prelude.{slice_get}
use Rattle.conflict_pairs.specs.Table.{Judged}
use Rattle.prog_tree.proofs.Elements.{element_at}

-- the entry at a place of a table
pub record IsEntryAt (entries : List Judged) (n : ℕ) : Type 0 where
  pub entry : Judged
  pub is : slice_get entries n ≡ Some entry

pub entry_at : (entries : List Judged) (n : ℕ) → n < length entries → IsEntryAt entries n
entry_at entries n inside = let e = element_at entries n inside in record { entry = e.0; is = e.1 }
