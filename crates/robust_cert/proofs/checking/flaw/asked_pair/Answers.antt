use Rattle.prog_paths.specs.Questions.{IsQuestion}
use Rattle.robust_cert.specs.Telling.{question_with}
use Rattle.robust_cert.proofs.checking.flaw.asked_pair.Goals as goal

pub returns-in_err-mine-clause-none : goal.returns-in_err-mine-clause-none
returns-in_err-mine-clause-none c = rw c.from_residual.ensures (λ (q : IsQuestion c.args.paths.now (question_with c.args.question)). c.in_err-mine.ensures.none q.mine q.asked.at_mine)

pub returns-in_err-theirs-clause-none : goal.returns-in_err-theirs-clause-none
returns-in_err-theirs-clause-none c = rw c.from_residual-in_err-theirs.ensures (λ (q : IsQuestion c.args.paths.now (question_with c.args.question)). c.in_err-theirs.ensures.none q.theirs q.asked.at_theirs)
