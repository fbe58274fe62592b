use Rattle.std.proofs.Common.{◌≡◌, drop, ◌++◌, map}
use Rattle.serial_orders.specs.Traces.{sight_of}
use Rattle.serial_orders.proofs.trace.sights_of.Given as goal

abbrev pub invariant-loop-look : goal.invariant-loop-look
invariant-loop-look l = (l.sights.items ++ map sight_of (drop l.look-index l.looks)) ≡ map sight_of l.looks
