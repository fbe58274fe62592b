use Rattle.std.proofs.lemmas.Result.{IfOk-weaker}
use Rattle.si_repair.proofs.Exposed.{exposed-from_told}
use Rattle.si_repair.proofs.repairs.exposed.is_exposed.Goals as goal

pub returns : goal.returns
returns c =
    let misses = c.may_miss.ensures.0 c.if-not-may_miss.false in
    IfOk-weaker c.exposed_between.result _ _ (λ exposed told. exposed-from_told c.args.paths.now c.args.first.now c.args.second.now exposed c.requires.first c.requires.second misses told)
    c.exposed_between.ensures
