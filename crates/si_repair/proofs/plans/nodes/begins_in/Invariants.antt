use Rattle.std.proofs.Common.{take}
use Rattle.si_repair.specs.Planning.{BeginsIn}
use Rattle.si_repair.proofs.plans.nodes.begins_in.Given as goal

-- none of the earlier nodes
abbrev pub invariant-loop-x : goal.invariant-loop-x
invariant-loop-x l = BeginsIn l.graph (take l.x-index l.firsts) l.seconds l.thirds → ⊥
