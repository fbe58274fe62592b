use Rattle.std.proofs.Common.{true, false}
use Rattle.prog_tree.specs.Tree.{draft_tree}
use Rattle.sirob.proofs.RepairLemmas.{repaired_by}
use Rattle.sirob.proofs.commands.repair.repair_set.Goals as goal
use Rattle.sirob.proofs.commands.repair.repair_set.Goals.{then-promoting+in_ok-repaired, else-promoting+in_ok-repaired-2}

pub returns-clause-ok : goal.returns-clause-ok
returns-clause-ok c =
    let planned = c.in_ok-plan.ensures in
    let set = draft_tree c.args.set.now in
    let pairs = c.in_ok-plan.plan.pairs in
    elim c.if-promoting.branch [
      | then-promoting+in_ok-repaired w ↦
          let made = w.in_ok-repaired.ensures.repaired in
          rw w.repaired-is
          (repaired_by c.args.promoting true set (draft_tree w.in_ok-repaired.repaired) pairs w.if-promoting.true
          planned.in_bounds planned.plan made)
      | else-promoting+in_ok-repaired-2 w ↦
          let made = w.in_ok-repaired-2.ensures.repaired in
          rw w.repaired-is
          (repaired_by c.args.promoting false set (draft_tree w.in_ok-repaired-2.repaired) pairs w.if-promoting.false
          planned.in_bounds planned.plan made)
    ]
