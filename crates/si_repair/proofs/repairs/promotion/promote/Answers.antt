use Rattle.std.proofs.Common.{List, subst}
use Rattle.std.specs.Prelude.{IfErr, IfOk}
use Rattle.prog_tree.specs.declared.program.Draft.{Draft}
use Rattle.prog_tree.specs.Tree.{draft_tree}
use Rattle.repair_laws.specs.declared.plan.Pair.{Pair}
use Rattle.repair_laws.specs.Promoted.{IsPromoted}
use Rattle.repair_laws.specs.Refusals.{StopsPromotion}
use Rattle.si_repair.specs.Promotion.{AreGathered}
use Rattle.si_repair.specs.Repairing.{IsCarriedOut, IsRepairFault}
use Rattle.si_repair.proofs.repairs.promotion.promote.Goals as goal

pub promoted_or_stop-requires-clause-sound : goal.promoted_or_stop-requires-clause-sound
promoted_or_stop-requires-clause-sound c = c.draft.ensures.sound

pub promoted_or_stop-requires-clause-gathered : goal.promoted_or_stop-requires-clause-gathered
promoted_or_stop-requires-clause-gathered c =
    let all = c.in_ok-gathered.gathered in
    subst (λ (d : Draft). AreGathered (draft_tree d) c.as_slice-pairs.result.now all.coverable.items all.fault) c.draft.ensures.same c.in_ok-gathered.ensures

pub returns-clause-repaired : goal.returns-clause-repaired
returns-clause-repaired c =
    let draft = draft_tree c.args.set.now in
    subst (λ (l : List Pair). IfOk c.promoted_or_stop.result (λ s. IsCarriedOut IsPromoted StopsPromotion draft l (draft_tree s))) c.as_slice-pairs.ensures c.promoted_or_stop.ensures.repaired

pub returns-clause-refused : goal.returns-clause-refused
returns-clause-refused c =
    let draft = draft_tree c.args.set.now in
    subst (λ (l : List Pair). IfErr c.promoted_or_stop.result (λ fault. IsRepairFault (StopsPromotion draft l) l fault)) c.as_slice-pairs.ensures c.promoted_or_stop.ensures.refused
