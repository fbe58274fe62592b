use Rattle.std.proofs.Common.{length}
use Rattle.serial_orders.specs.Reduced.{region_pairs, AllRiseWithin}
use Rattle.serial_orders.proofs.PairLaws.{Walk}
use Rattle.serial_orders.proofs.reduced.add_region.Given as goal

abbrev pub invariant-loop-cell : goal.invariant-loop-cell
invariant-loop-cell l =
    Walk (region_pairs l.reader l.start l.region l.own l.cell-iterator) (region_pairs l.reader l.start l.region l.own l.writers) l.fn.precedence l.precedence
    × AllRiseWithin (length l.fn.precedence) l.cell-iterator
