use Rattle.std.proofs.Common.{ℕ, List, subst}
use Rattle.std.specs.Prelude.{OnOk, IfErr}
use Rattle.std.proofs.lemmas.Result.{on_ok_weaker, IfErr-weaker}
use Rattle.order_facts.specs.Square.{Joins}
use Rattle.robust_cert.specs.Refused.{IsFirstFault}
use Rattle.robust_cert.specs.Accepted.{level_in}
use Rattle.robust_cert.specs.Levels.{RiseOver, IsLevelFault}
use Rattle.robust_cert.proofs.Verdicts.{accepted-from_rise, first-from_levels}
use Rattle.robust_cert.proofs.checking.checker.check_left.Goals as goal

pub returns-clause-accepted : goal.returns-clause-accepted
returns-clause-accepted c =
    let left = c.in_ok-left.left in
    let rise = subst (λ (l : List ℕ). OnOk c.check_levels.result (RiseOver left l)) c.as_slice.ensures c.check_levels.ensures.rise in
    on_ok_weaker c.check_levels.result (accepted-from_rise c.args.paths.now c.args.certificate.now c.requires left c.in_ok-left.ensures) rise

pub returns-clause-fault : goal.returns-clause-fault
returns-clause-fault c =
    let left = c.in_ok-left.left in
    let fault = subst (λ (l : List ℕ). IfErr c.check_levels.result (IsLevelFault (Joins left.edges) (Joins left.vulnerable) (level_in l))) c.as_slice.ensures c.check_levels.ensures.fault in
    IfErr-weaker c.check_levels.result (IsLevelFault (Joins left.edges) (Joins left.vulnerable) (level_in c.args.certificate.now.levels)) (IsFirstFault c.args.paths.now c.args.certificate.now) (first-from_levels c.args.paths.now c.args.certificate.now c.requires left c.in_ok-left.ensures) fault
