use Rattle.std.proofs.Common.{take}
use Rattle.si_repair.specs.Planning.{EndsIn}
use Rattle.si_repair.proofs.plans.nodes.ends_in.Given as goal

-- none of the earlier nodes
abbrev pub invariant-loop-z : goal.invariant-loop-z
invariant-loop-z l = EndsIn l.graph l.x l.y (take l.z-index l.thirds) → ⊥
