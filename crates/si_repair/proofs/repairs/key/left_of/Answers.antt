use Rattle.std.proofs.Common.{ℕ, List, ◌++◌, sym, subst, ap, arith}
use Rattle.std.proofs.lemmas.List.{append-nil, take_all}
use Rattle.prog_paths.specs.declared.accesses.questions.Question.{Question}
use Rattle.si_repair.specs.Key.{AreLeft, AreForced}
use Rattle.si_repair.proofs.Ranking.{AreForced-more}
use Rattle.si_repair.proofs.repairs.key.left_of.Goals as goal

pub loop-question-init : goal.loop-question-init
loop-question-init c earlier firsts seconds h =
    subst (λ (l : List Question). AreForced c.args.paths.now l firsts seconds c.args.pairs.items) (sym (append-nil earlier)) h

pub loop-question-preserved : goal.loop-question-preserved
loop-question-preserved c earlier firsts seconds h =
    let at = c.loop-question.question-index in
    let left = c.in_ok-left.left.items in
    AreForced-more c.args.paths.now firsts seconds earlier c.args.questions.now at _ c.in_ok-closed.closed c.loop-question.left.items left (omega arith) c.requires.single (c.requires.missed at _ (omega arith)) c.in_ok-closed.ensures
    (subst (λ (l : List (ℕ × ℕ)). AreLeft c.in_ok-closed.closed l left) c.deref.ensures.value c.in_ok-left.ensures) (c.loop-question.invariant earlier firsts seconds h)

pub returns : goal.returns
returns c earlier firsts seconds h =
    subst (λ (l : List Question). AreForced c.args.paths.now l firsts seconds c.loop-question.left.items)
    (ap (λ (l : List Question). earlier ++ l) (take_all c.loop-question.question-index c.args.questions.now (omega (arith, c.loop-question-test.false))))
    (c.loop-question.invariant earlier firsts seconds h)
