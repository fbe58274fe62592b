-- The texts of faults.
use Rattle.std.specs.Fmt.{decimal}
use Rattle.std.specs.Prelude.{ℕ, List, ◌++◌, codes}
use Rattle.prog_text.specs.declared.fault.TextFault.{TextFault}
use Rattle.prog_text.specs.declared.fault.TextFault.TheVariants as fault

-- a code and a byte's place
abbrev pub at_byte : List ℕ → ℕ → List ℕ
at_byte code place = code ++ (codes " at " ++ decimal place)

-- why a text is refused
abbrev pub text_fault_text : TextFault → List ℕ
text_fault_text (fault.NotAscii place) = at_byte (codes "P1") place
text_fault_text (fault.UnknownByte place) = at_byte (codes "P2") place
text_fault_text (fault.UnexpectedToken place) = at_byte (codes "P3") place
text_fault_text (fault.UnexpectedEnd place) = at_byte (codes "P4") place
text_fault_text (fault.NumberOutOfRange place) = at_byte (codes "P5") place
text_fault_text (fault.NameTooLong place) = at_byte (codes "P6") place
text_fault_text (fault.TooDeep place) = at_byte (codes "P7") place
text_fault_text (fault.TooLong place) = at_byte (codes "P8") place
text_fault_text fault.Memory = codes "memory"
