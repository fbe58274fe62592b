use Rattle.std.proofs.Common.{◌≡◌, ◌+◌, min, length}
use Rattle.prog_paths.specs.Places.{all_from}
use Rattle.prog_paths.specs.Questions.{asked_among}
use Rattle.prog_paths.specs.Limits.{most_questions}
use Rattle.prog_paths.proofs.Walked.{before, left}
use Rattle.prog_paths.proofs.accesses.count.question_count.Given as goal

-- what the accesses of the tables before the next one ask
abbrev pub invariant-loop-next : goal.invariant-loop-next
invariant-loop-next l = l.count ≡ min (length (asked_among (before l.next (all_from 0 l.paths)) (all_from 0 l.paths))) (most_questions + 1)

abbrev pub decreases-loop-next : goal.decreases-loop-next
decreases-loop-next l = left l.next
