use Rattle.si_engine.proofs.output.printed.or_cut.Goals as goal

pub truncate-requires : goal.truncate-requires
truncate-requires c = λ _. (c.requires.0, λ _. c.requires.1)
