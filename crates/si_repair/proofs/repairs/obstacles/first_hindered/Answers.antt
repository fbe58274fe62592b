use Rattle.std.proofs.Common.{◌∙◌, sym, arith}
use Rattle.std.proofs.lemmas.Bool.{false≢true}
use Rattle.si_repair.specs.Obstacles.{IsRangeIn}
use Rattle.si_repair.proofs.Obstacles.{hindered-none, hindered-all, hindered-found, hindered-more}
use Rattle.si_repair.proofs.repairs.obstacles.first_hindered.Goals as goal

pub loop-question-init : goal.loop-question-init
loop-question-init c = hindered-none c.args.paths.now (IsRangeIn c.args.ranges.now) c.args.obstacle c.args.questions.now

pub access_at-read-requires : goal.access_at-read-requires
access_at-read-requires c = (c.requires c.loop-question.question-index _ (omega arith)).0

pub access_at-other-requires : goal.access_at-other-requires
access_at-other-requires c = (c.requires c.loop-question.question-index _ (omega arith)).1

pub returns-then-hinders : goal.returns-then-hinders
returns-then-hinders c =
    hindered-found c.args.paths.now (IsRangeIn c.args.ranges.now) c.args.obstacle c.args.questions.now c.loop-question.question-index _ (omega arith) c.access_at-read.result.now c.access_at-other.result.now c.access_at-read.ensures c.access_at-other.ensures
    c.loop-question.invariant (c.hinders.ensures.0 c.if-hinders.true)

pub loop-question-preserved : goal.loop-question-preserved
loop-question-preserved c =
    hindered-more c.args.paths.now (IsRangeIn c.args.ranges.now) c.args.obstacle c.args.questions.now c.loop-question.question-index _ (omega arith) c.access_at-read.result.now c.access_at-other.result.now c.access_at-read.ensures c.access_at-other.ensures
    c.loop-question.invariant (λ h. false≢true (sym c.if-hinders.false ∙ c.hinders.ensures.1 h))

pub returns : goal.returns
returns c =
    hindered-all c.args.paths.now (IsRangeIn c.args.ranges.now) c.args.obstacle c.args.questions.now c.loop-question.question-index (omega (arith, c.loop-question-test.false)) c.loop-question.invariant
