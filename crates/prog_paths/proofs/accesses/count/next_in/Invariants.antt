use Rattle.prog_paths.proofs.Walked.{IsNextOf}
use Rattle.prog_paths.proofs.accesses.count.next_in.Given as goal

abbrev pub invariant-loop-access : goal.invariant-loop-access
invariant-loop-access l = IsNextOf l.last l.fn.found l.accesses l.access-index l.next
