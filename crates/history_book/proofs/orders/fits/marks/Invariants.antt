use Rattle.std.proofs.Common.{◌≡◌, map, take}
use Rattle.std.specs.List.{range_with_len}
use Rattle.serial_orders.specs.Orders.{is_one_of}
use Rattle.history_book.proofs.orders.fits.marks.Given as goal

abbrev pub invariant-loop-number : goal.invariant-loop-number
invariant-loop-number l = l.marks.items ≡ map (is_one_of (take l.number-index l.order)) (range_with_len 1 l.n)
