use Rattle.std.proofs.Common.{◌≡◌, ◌-◌, ◌*◌, length}
use Rattle.history_book.proofs.SerialBooks.{NoneUpTo}
use Rattle.history_book.proofs.book.Book.+placing.Given as goal

abbrev pub decreases-complete : goal.decreases-complete
decreases-complete l = 2 * (length l.self.now.rows - length l.placed.now.items)

abbrev pub decreases-place : goal.decreases-place
decreases-place l = 2 * (length l.self.now.rows - length l.placed.now.items) - 1

abbrev pub invariant-complete-loop-before : goal.invariant-complete-loop-before
invariant-complete-loop-before l = (l.placed.items ≡ l.initial.placed.items) × NoneUpTo l.self l.placed.items l.before
