-- The check of what a repair makes.
use Rattle.std.specs.Prelude.{◌≡◌, Some}
use Rattle.prog_tree.specs.Syntax.{DraftTree}
use Rattle.prog_check.specs.declared.fault.CheckFault.{CheckFault}
use Rattle.prog_check.specs.declared.fault.CheckFault.TheVariants as check
use Rattle.prog_check.specs.Faults.{first_fault}

-- it has a fault, which is no want of memory
abbrev pub IsRefused : DraftTree → Type 0
IsRefused draft = (fault : CheckFault) × (first_fault draft ≡ Some fault) × (fault ≡ check.Memory → ⊥)
