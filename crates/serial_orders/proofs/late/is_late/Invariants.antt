use Rattle.std.proofs.Common.{drop}
use Rattle.std.specs.Prelude.{All}
use Rattle.serial_orders.specs.Late.{IsSeenAt}
use Rattle.serial_orders.proofs.late.is_late.Given as goal

-- where the looks that are left saw all that is told, all looks did
abbrev pub invariant-loop-sight : goal.invariant-loop-sight
invariant-loop-sight l =
    All (IsSeenAt l.slots l.count l.trace.start) (drop l.sight-index l.sights) → All (IsSeenAt l.slots l.count l.trace.start) l.trace.looked
