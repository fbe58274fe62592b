-- What is promised of a set that is repaired.
use Rattle.std.proofs.Common.{List}
use Rattle.prog_tree.specs.Syntax.{DraftTree}
use Rattle.prog_check.specs.Paths.{paths_of}
use Rattle.prog_check.specs.Sound.{IsSound}
use Rattle.repair_laws.specs.declared.plan.Pair.{Pair}
use Rattle.repair_laws.specs.Safety.{Repairs}
use Rattle.repair_laws.proofs.Counting.{law_of_as_many_questions}
use Rattle.repair_laws.proofs.GraphLaws.{law_of_struck_pairs}
use Rattle.repair_laws.proofs.Meanings.{law_of_meaning}
use Rattle.repair_laws.proofs.PathLaws.{law_of_paths_kept}
use Rattle.si_repair.specs.Repairing.{IsSafeRepair}

pub safe_repair : (draft : DraftTree) (plan : List Pair) (result : DraftTree) → IsSound draft → Repairs draft plan result → IsSafeRepair draft plan result
safe_repair draft plan result sound repairs =
    let paths = law_of_paths_kept draft result sound repairs.is_repair in record {
      meaning = law_of_meaning draft result sound repairs.is_repair;
      robust = λ is_plan dangerous. law_of_struck_pairs (paths_of draft) (paths_of result) plan paths is_plan repairs.has_none dangerous;
      questions = law_of_as_many_questions (paths_of draft) (paths_of result) paths;
    }
