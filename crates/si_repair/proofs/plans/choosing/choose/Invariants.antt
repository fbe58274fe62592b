use Rattle.std.proofs.Common.{List}
use Rattle.prog_check.specs.declared.path.Path.{Path}
use Rattle.repair_laws.specs.Closing.{pair_from}
use Rattle.si_repair.specs.Planning.{AreOfPrograms, AreClosing, IsBeforeTurn, IsPartialPlan}
use Rattle.si_repair.proofs.plans.choosing.choose.Given as goal

abbrev pub invariant-loop-from : goal.invariant-loop-from
invariant-loop-from l =
    (nodes : List Path) → AreOfPrograms l.programs nodes → AreClosing nodes l.programs l.fn.triples.items
    → IsPartialPlan nodes l.partial.plan.items l.partial.left.items (IsBeforeTurn (pair_from l.from 0))
