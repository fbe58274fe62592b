use Rattle.std.proofs.Common.{take}
use Rattle.robust_cert.specs.Parts.{AreTailsOf}
use Rattle.robust_cert.proofs.text.tails.tails_of.Given as goal

-- the tails so far are written
abbrev pub invariant-loop-reason : goal.invariant-loop-reason
invariant-loop-reason l = AreTailsOf (take l.reason-index l.reasons) l.tails.items
