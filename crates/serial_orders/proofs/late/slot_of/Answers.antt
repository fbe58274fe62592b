use Rattle.std.proofs.Common.{◌+◌, ◌*◌}
use Rattle.std.proofs.Math.Nat.{mod-lt}
use Rattle.serial_orders.proofs.late.slot_of.Goals as goal

pub returns-clause-within : goal.returns-clause-within
returns-clause-within c = mod-lt (c.folded.result + c.folded-2.result * 31) c.requires
