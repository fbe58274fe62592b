use Rattle.std.proofs.Common.{arith}
use Rattle.std.proofs.Math.Nat.{mod-lt}
use Rattle.serial_orders.proofs.late.folded.Goals as goal

pub returns-clause-small : goal.returns-clause-small
returns-clause-small c = mod-lt c.unsigned_abs.result (omega arith)
