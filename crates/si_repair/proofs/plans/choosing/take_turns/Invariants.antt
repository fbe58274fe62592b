use Rattle.std.proofs.Common.{List}
use Rattle.prog_check.specs.declared.path.Path.{Path}
use Rattle.repair_laws.specs.Closing.{pair_from}
use Rattle.si_repair.specs.Planning.{IsBeforeTurn, IsPartialPlan}
use Rattle.si_repair.proofs.plans.choosing.take_turns.Given as goal

-- from the plan that was handed in to the one that is made
abbrev pub invariant-loop-to : goal.invariant-loop-to
invariant-loop-to l =
    (nodes : List Path)
    → IsPartialPlan nodes l.fn.partial.plan.items l.fn.partial.left.items (IsBeforeTurn (pair_from l.from 0))
    → IsPartialPlan nodes l.next.plan.items l.next.left.items (IsBeforeTurn (pair_from l.from l.to))
