use Rattle.std.proofs.Common.{◌∙◌}
use Rattle.history_book.proofs.OnceLaws.{none_marked}
use Rattle.history_book.proofs.orders.fits.marks.Goals as goal

pub loop-number-init : goal.loop-number-init
loop-number-init c = c.in_ok-marks.ensures.items_if_clones_equal (λ y is. is) ∙ none_marked 1 c.args.n
