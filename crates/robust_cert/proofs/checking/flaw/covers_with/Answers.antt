use Rattle.robust_cert.proofs.checking.flaw.covers_with.Goals as goal

pub returns-in_err-mine-clause-none : goal.returns-in_err-mine-clause-none
returns-in_err-mine-clause-none c = rw c.from_residual.ensures (λ of_mine of_theirs covers. c.in_err-mine.ensures.none of_mine covers.cover.at_mine)

pub returns-in_err-theirs-clause-none : goal.returns-in_err-theirs-clause-none
returns-in_err-theirs-clause-none c = rw c.from_residual-in_err-theirs.ensures (λ of_mine of_theirs covers. c.in_err-theirs.ensures.none of_theirs covers.cover.at_theirs)
