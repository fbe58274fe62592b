use Rattle.job_counter.proofs.Counter.split.Given as goal

abbrev pub ghosts-split_by : goal.ghosts-split_by
ghosts-split_by a = record { amount = a.give }
