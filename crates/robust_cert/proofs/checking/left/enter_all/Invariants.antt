use Rattle.std.proofs.Common.{take}
use Rattle.prog_paths.specs.Questions.{asked_among}
use Rattle.robust_cert.specs.Leaving.{Passes}
use Rattle.robust_cert.proofs.checking.left.enter_all.Given as goal

-- what the places so far ask is entered
abbrev pub invariant-loop-first : goal.invariant-loop-first
invariant-loop-first l = Passes l.entries (asked_among (take l.first-index l.places) l.places) 0 l.at l.fn.left l.left
