use Rattle.serial_orders.proofs.LateLaws.{AreNextFrom}
use Rattle.serial_orders.proofs.late.next_marked.Given as goal

-- from the number on, the next marks are known
abbrev pub invariant-loop-number : goal.invariant-loop-number
invariant-loop-number l = AreNextFrom l.marks l.next.items l.number

abbrev pub decreases-loop-number : goal.decreases-loop-number
decreases-loop-number l = l.number
