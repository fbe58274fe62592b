use Rattle.std.proofs.Common.{◌<◌, length, subst}
use Rattle.std.specs.Prelude.{ℕ}
use Rattle.serial_orders.proofs.LateLaws.{enters_one}
use Rattle.serial_orders.proofs.late.enter.Goals as goal

pub returns : goal.returns
returns c =
    let slot = c.slot_of-slot.ensures in
    rw (c.max.ensures, slot.slot)
    (enters_one c.args.cell.now c.args.number c.args.slots.now (subst (λ (n : ℕ). n < length c.args.slots.now) slot.slot slot.within))
