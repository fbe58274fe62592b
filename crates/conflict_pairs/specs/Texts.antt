-- The texts of faults.
use Rattle.std.specs.Prelude.{ℕ, List, codes}
use Rattle.conflict_pairs.specs.declared.fault.PairFault.{PairFault}
use Rattle.conflict_pairs.specs.declared.fault.PairFault.TheVariants.{TooLarge, Memory}

-- why there is no table of questions
abbrev pub pair_fault_text : PairFault → List ℕ
pair_fault_text TooLarge = codes "too large"
pair_fault_text Memory = codes "memory"
