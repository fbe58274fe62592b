use Rattle.job_counter.proofs.Steps.{closes, closes_whole}
use Rattle.job_counter.proofs.Counter.close.Goals as goal

pub returns-clause-account : goal.returns-clause-account
returns-clause-account c =
    let f = c.close_with-closed.ensures.values.2 in
    closes _ _ _ f.0 _ _ f.1.0 f.1.1 f.2 c.word-drawn.ensures

pub returns-clause-whole : goal.returns-clause-whole
returns-clause-whole c whole =
    let f = c.close_with-closed.ensures.values.2 in
    closes_whole _ _ _ f.0 _ _ f.1.0 f.1.1 f.2 c.word-drawn.ensures whole
