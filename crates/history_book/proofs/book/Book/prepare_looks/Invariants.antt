use Rattle.std.proofs.Common.{◌≡◌}
use Rattle.history_book.proofs.book.Book.prepare_looks.Given as goal

abbrev pub invariant-loop-look : goal.invariant-loop-look
invariant-loop-look l = l.self ≡ l.initial.self
