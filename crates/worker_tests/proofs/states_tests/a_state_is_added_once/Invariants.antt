use Rattle.worker_tests.proofs.states_tests.a_state_is_added_once.Given as goal

-- the list that was just opened
abbrev pub ghosts-check_added : goal.ghosts-check_added
ghosts-check_added g a = record { book = a.opened.seen.book }
