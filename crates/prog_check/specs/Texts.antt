-- The texts of faults.
use Rattle.std.specs.Fmt.{decimal}
use Rattle.std.specs.Prelude.{ℕ, List, ◌++◌, codes}
use Rattle.prog_check.specs.declared.fault.CheckFault.{CheckFault}
use Rattle.prog_check.specs.declared.fault.CheckFault.TheVariants as fault
use Rattle.prog_check.specs.declared.fault.Place.{Place}
use Rattle.prog_check.specs.declared.fault.Place.TheVariants.{Table, Program, Statement}

-- where a fault lies, by numbers from 0
abbrev pub place_text : Place → List ℕ
place_text (Table n) = codes "table " ++ decimal n
place_text (Program n) = codes "program " ++ decimal n
place_text (Statement n k) = codes "program " ++ (decimal n ++ (codes " statement " ++ decimal k))

-- a code and a place in the set
abbrev pub in_set : List ℕ → Place → List ℕ
in_set code place = code ++ (codes " " ++ place_text place)

-- why a draft is no set
abbrev pub check_fault_text : CheckFault → List ℕ
check_fault_text (fault.DuplicateTable place) = in_set (codes "C1") place
check_fault_text (fault.DuplicateProgram place) = in_set (codes "C2") place
check_fault_text (fault.DuplicateParameter place) = in_set (codes "C3") place
check_fault_text (fault.UnknownTable place) = in_set (codes "C4") place
check_fault_text (fault.UnknownName place) = in_set (codes "C5") place
check_fault_text (fault.NameTaken place) = in_set (codes "C6") place
check_fault_text (fault.WrongArity place) = in_set (codes "C7") place
check_fault_text (fault.GrowTableChanged place) = in_set (codes "C8") place
check_fault_text (fault.AfterAbort place) = in_set (codes "C9") place
check_fault_text (fault.TooMany place) = in_set (codes "C10") place
check_fault_text (fault.TooManyPaths place) = in_set (codes "C11") place
check_fault_text fault.Memory = codes "memory"
