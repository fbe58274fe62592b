-- Whether any order fits.
use Rattle.std.specs.Prelude.{ℕ, ◌<◌, ◌≤◌}
use Rattle.history_book.specs.declared.orders.fits.AnyFitFault.{AnyFitFault}
use Rattle.history_book.specs.declared.orders.fits.AnyFitFault.TheVariants as any

-- of more commits no order is looked for
abbrev pub most_ordered : ℕ
most_ordered = 6

-- why none was looked for among so many commits; want of memory last
abbrev pub IsAnyFitFault : ℕ → AnyFitFault → Type 0
IsAnyFitFault commits any.TooMany = most_ordered < commits
IsAnyFitFault commits any.Memory = commits ≤ most_ordered
