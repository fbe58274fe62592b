use Rattle.std.proofs.Common.{take}
use Rattle.si_repair.specs.Key.{AreLeft}
use Rattle.si_repair.proofs.repairs.key.left_by.Given as goal

-- those of the pairs so far
abbrev pub invariant-loop-both : goal.invariant-loop-both
invariant-loop-both l = AreLeft l.closed (take l.both-index l.pairs) l.left.items
