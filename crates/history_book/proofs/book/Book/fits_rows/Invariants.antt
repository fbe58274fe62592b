use Rattle.history_book.proofs.SerialBooks.{IsSerial}
use Rattle.history_book.proofs.book.Book.fits_rows.Given as goal

abbrev pub invariant-loop-number : goal.invariant-loop-number
invariant-loop-number l = IsSerial l.self l.serial l.order l.number-index
