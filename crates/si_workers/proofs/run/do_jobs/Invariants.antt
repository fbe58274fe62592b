use Rattle.si_workers.proofs.run.do_jobs.Given as goal

-- the list that was just opened
abbrev pub ghosts-run_logged : goal.ghosts-run_logged
ghosts-run_logged g a = record { book = a.opened.seen.book }
