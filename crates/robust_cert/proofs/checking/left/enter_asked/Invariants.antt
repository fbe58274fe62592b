use Rattle.std.proofs.Common.{take}
use Rattle.prog_paths.specs.Questions.{asked_by}
use Rattle.robust_cert.specs.Leaving.{Passes}
use Rattle.robust_cert.proofs.checking.left.enter_asked.Given as goal

-- what is asked of the places so far is entered
abbrev pub invariant-loop-second : goal.invariant-loop-second
invariant-loop-second l = Passes l.entries (asked_by l.first (take l.second-index l.places)) l.cursor l.at l.fn.left l.left
