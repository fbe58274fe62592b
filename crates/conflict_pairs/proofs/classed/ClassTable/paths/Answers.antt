use Rattle.std.proofs.Common.{subst}
use Rattle.conflict_pairs.specs.Classed.{AnswersAll}
use Rattle.conflict_pairs.proofs.ClassAnswers.{answers-all}
use Rattle.conflict_pairs.proofs.classed.ClassTable.paths.Goals as goal

pub returns-clause-all : goal.returns-clause-all
returns-clause-all c =
    let inside = c.self.inside in
    subst AnswersAll c.self.view_is (answers-all inside.paths.now inside.classes inside.asked inside.judged c.self.invariant)
