use Rattle.std.proofs.lemmas.Result.{IfOk-weaker}
use Rattle.prog_paths.specs.Questions.{numbers_of, question_between}
use Rattle.conflict_pairs.specs.Verdicts.{TellsExposed}
use Rattle.conflict_pairs.proofs.Moving.{TellsExposed-placed}
use Rattle.si_repair.proofs.repairs.exposed.exposed_between.Goals as goal

pub returns : goal.returns
returns c =
    let nodes = c.args.paths.now in
    let first = c.args.first.now in
    let second = c.args.second.now in
    IfOk-weaker c.is_exposed_question.result _ (λ told. TellsExposed nodes (numbers_of (question_between first second)) told)
    (λ told h. TellsExposed-placed nodes first second c.index-paths-first.result c.index-paths-second.result c.requires.first c.requires.second c.index-paths-first.is c.index-paths-second.is told h) c.is_exposed_question.ensures.exposed
