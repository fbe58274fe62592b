use Rattle.std.proofs.Common.{◌≡◌, ◌++◌, length}
use Rattle.si_repair.specs.Telling.{firsts_in}
use Rattle.si_repair.proofs.entries.parts_of.Given as goal

-- the accesses of the parts so far, and those that are left, are all
abbrev pub invariant-loop-left : goal.invariant-loop-left
invariant-loop-left l = firsts_in l.parts.items ++ l.left ≡ l.places

abbrev pub decreases-loop-left : goal.decreases-loop-left
decreases-loop-left l = length l.left
