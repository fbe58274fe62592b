-- What a check finds.
use Rattle.std.specs.Prelude.{◌≡◌, ℕ, ◌+◌, Bool, Option, Some, None, Result, Ok, Err, List}
use Rattle.prog_tree.specs.declared.table.TableDecl.{TableDecl}
use Rattle.prog_tree.specs.Syntax.{Name, BlockTree, DraftTree}
use Rattle.prog_check.specs.declared.fault.CheckFault.{CheckFault}
use Rattle.prog_check.specs.declared.fault.CheckFault.TheVariants.{Memory}
use Rattle.prog_check.specs.declared.body.Position.{Position}
use Rattle.prog_check.specs.Faults.{block_fault, table_names, program_names, first_fault}
use Rattle.prog_check.specs.Paths.{statement_count}
use Rattle.prog_check.specs.Sound.{IsSound}

-- what was found is the first fault; of memory nothing is said
abbrev pub IsFirst : CheckFault → Option CheckFault → Type 0
IsFirst Memory fault = Unit {0}
IsFirst found fault = fault ≡ Some found

-- the code finds that fault, or, where there is none, something right
abbrev pub Finds : {X : Type 0} → (X → Type 0) → Result X CheckFault → Option CheckFault → Type 0
Finds IsRight (Ok x) fault = (fault ≡ None) × IsRight x
Finds IsRight (Err found) fault = IsFirst found fault

-- Behind one statement of a block the check goes on from a new position as it would have gone on from the old one
-- before it.
abbrev pub ChecksOn : List TableDecl → (program : ℕ) (before : Position) (aborted : Bool)
    → (BlockTree → BlockTree) → (after : Position) → Result Bool CheckFault → Type 0
ChecksOn tables program before aborted stmt after (Ok aborts) =
    (rest : BlockTree)
    → (block_fault tables program before.number aborted before.visible (stmt rest) ≡ block_fault tables program after.number aborts after.visible rest)
    × (before.number + statement_count (stmt rest) ≡ after.number + statement_count rest)
ChecksOn tables program before aborted stmt after (Err found) =
    (rest : BlockTree) → IsFirst found (block_fault tables program before.number aborted before.visible (stmt rest))

-- what a checked set keeps: the names of its tables and programs in their order, that its draft has no fault, and that
-- it is sound
pub record IsChecked (draft : DraftTree) (tables programs : List Name) : Type 0 where
  pub tables_named : tables ≡ table_names draft
  pub programs_named : programs ≡ program_names draft
  pub faultless : first_fault draft ≡ None
  pub sound : IsSound draft
