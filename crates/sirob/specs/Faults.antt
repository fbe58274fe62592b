-- The texts of faults of the parts.
use Rattle.std.specs.Prelude.{ℕ, List, codes}
use Rattle.sirob.specs.declared.parts.SplitFault.{SplitFault}
use Rattle.sirob.specs.declared.parts.SplitFault.TheVariants.{MissingPart, ExtraPart}

-- a code
abbrev pub split_fault_text : SplitFault → List ℕ
split_fault_text MissingPart = codes "I1"
split_fault_text ExtraPart = codes "I2"
