use Rattle.std.proofs.Common.{subst, take_all, arith}
use Rattle.std.proofs.lemmas.List.Elements.{All-more}
use Rattle.std.specs.Prelude.{All}
use Rattle.robust_cert.specs.declared.entries.Told.{Told}
use Rattle.robust_cert.specs.Json.{QuestionFits}
use Rattle.robust_cert.proofs.text.pieces.questions_fit.Goals as goal

pub loop-next-preserved : goal.loop-next-preserved
loop-next-preserved c =
    All-more (λ (t : Told). QuestionFits t.question) c.args.told.now c.loop-next.next-index _ c.loop-next-test.true c.loop-next.invariant c.question_fits.ensures

pub returns : goal.returns
returns c =
    subst (All (λ (t : Told). QuestionFits t.question)) (take_all c.loop-next.next-index c.args.told.now (omega arith)) c.loop-next.invariant
