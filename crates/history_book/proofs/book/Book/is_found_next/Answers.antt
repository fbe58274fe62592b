use Rattle.std.proofs.Common.{◌-◌, length, refl}
use Rattle.history_book.specs.View.{state_in}
use Rattle.prog_run.proofs.AgainLaws.{one_found}
use Rattle.history_book.proofs.book.Book.is_found_next.Goals as goal

pub returns-then-is_last : goal.returns-then-is_last
returns-then-is_last c =
    let before = c.args.before.now in
    let last = c.is_last.ensures.0 c.if-is_last.true in
    (λ _. one_found (state_in c.args.self.now c.args.start) before (length before - 1) c.args.look.now last c.requires.found, λ _. refl)
