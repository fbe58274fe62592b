use Rattle.std.proofs.Common.{length, ◌-◌}
use Rattle.prog_run.specs.Looks.{AreFound}
use Rattle.prog_run.specs.View.{SameBegin, meaning}
use Rattle.history_book.specs.View.{state_in}
use Rattle.history_book.proofs.book.Book.finish.Given as goal

abbrev pub invariant-steps : goal.invariant-steps
invariant-steps l = AreFound (state_in l.self l.start) l.run.looks × SameBegin l.initial.run l.run

abbrev pub decreases-steps : goal.decreases-steps
decreases-steps l = length (meaning l.run (state_in l.self l.start)).deeds - length l.run.deeds
