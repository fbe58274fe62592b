-- The texts of faults.
use Rattle.std.specs.Prelude.{ℕ, List, ◌++◌, codes}
use Rattle.repair_laws.specs.declared.plan.Pair.{Pair}
use Rattle.robust_cert.specs.Texts.{spaced}
use Rattle.si_repair.specs.declared.fault.AnalyseFault.{AnalyseFault}
use Rattle.si_repair.specs.declared.fault.AnalyseFault.TheVariants as analyse
use Rattle.si_repair.specs.declared.repairs.fault.RepairFault.{RepairFault}
use Rattle.si_repair.specs.declared.repairs.fault.RepairFault.TheVariants as repair

-- why a set is not analysed
abbrev pub analyse_fault_text : AnalyseFault → List ℕ
analyse_fault_text analyse.TooLarge = codes "Q1"
analyse_fault_text analyse.Memory = codes "memory"

-- a code and a pair of programs
abbrev pub of_pair : (code : List ℕ) → Pair → List ℕ
of_pair code pair = code ++ (spaced pair.from ++ spaced pair.to)

-- why a plan is not carried out, by the first of its pairs that stops it
abbrev pub repair_fault_text : RepairFault → List ℕ
repair_fault_text (repair.RangeRead pair) = of_pair (codes "U1") pair
repair_fault_text (repair.UnknownKey pair) = of_pair (codes "U2") pair
repair_fault_text (repair.BodyRead pair) = of_pair (codes "U5") pair
repair_fault_text (repair.TooMany pair) = of_pair (codes "U3") pair
repair_fault_text repair.Memory = codes "memory"
