-- The texts of faults.
use Rattle.std.specs.Fmt.{decimal}
use Rattle.std.specs.Prelude.{ℕ, List, ◌++◌, codes}
use Rattle.si_engine.specs.declared.input.line_fault.LineFault.{LineFault}
use Rattle.si_engine.specs.declared.input.line_fault.LineFault.TheVariants as fault
use Rattle.si_engine.specs.declared.input.part_fault.PartFault.{PartFault}
use Rattle.si_engine.specs.declared.input.part_fault.PartFault.TheVariants as part_fault
use Rattle.si_engine.specs.declared.input.source.InputFault.{InputFault}
use Rattle.si_engine.specs.declared.input.source.InputFault.TheVariants as input

-- a code and a line, from 1
abbrev pub in_line : List ℕ → ℕ → List ℕ
in_line code line = code ++ (codes " line " ++ decimal line)

abbrev pub line_fault_text : LineFault → List ℕ
line_fault_text (fault.BadLine line) = in_line (codes "S1") line
line_fault_text (fault.UnknownName line) = in_line (codes "S2") line
line_fault_text (fault.WrongKeys line) = in_line (codes "S3") line
line_fault_text (fault.LateRow line) = in_line (codes "S4") line
line_fault_text (fault.RepeatedRow line) = in_line (codes "S5") line
line_fault_text (fault.TooManyEvents line) = in_line (codes "S6") line
line_fault_text fault.Memory = codes "memory"

-- why the bytes of a source can't be had
abbrev pub input_fault_text : InputFault → List ℕ
input_fault_text input.TooLong = codes "I3"
input_fault_text input.ReadFault = codes "I4"
input_fault_text input.Memory = codes "memory"

-- why a part is not read, or a script not run
abbrev pub part_fault_text : PartFault → List ℕ
part_fault_text (part_fault.Input i) = input_fault_text i
part_fault_text (part_fault.Line l) = line_fault_text l
part_fault_text part_fault.WriteFault = codes "I5"
