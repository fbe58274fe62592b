use Rattle.std.proofs.Common.{take}
use Rattle.prog_run.specs.Looks.{AreFound}
use Rattle.history_book.specs.View.{state_in}
use Rattle.history_book.proofs.book.Book.foreign_look.Given as goal

abbrev pub invariant-loop-number : goal.invariant-loop-number
invariant-loop-number l = AreFound (state_in l.self l.start) (take l.number l.looks)
