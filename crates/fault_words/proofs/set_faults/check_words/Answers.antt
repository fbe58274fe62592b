use Rattle.fault_words.proofs.set_faults.check_words.Goals as goal

pub returns-clause-said : goal.returns-clause-said
returns-clause-said c = rw c.in_ok-text.ensures at c.flaw_words.ensures.said

pub returns-clause-none : goal.returns-clause-none
returns-clause-none c = rw c.in_ok-text.ensures at c.flaw_words.ensures.none
