use Rattle.std.proofs.Common.{take}
use Rattle.si_repair.specs.Planning.{GoesOnIn}
use Rattle.si_repair.proofs.plans.nodes.goes_on_in.Given as goal

-- none of the earlier nodes
abbrev pub invariant-loop-y : goal.invariant-loop-y
invariant-loop-y l = GoesOnIn l.graph l.x (take l.y-index l.seconds) l.thirds → ⊥
