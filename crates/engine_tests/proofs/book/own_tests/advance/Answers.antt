use Rattle.std.proofs.Common.{◌≡◌, ℕ, subst, sym}
use Rattle.prog_run.specs.Looks.{AreFound}
use Rattle.history_book.specs.Refusals.{IsOfInstance}
use Rattle.history_book.specs.View.{BookView, state_in}
use Rattle.history_book.proofs.ActiveLaws.{with_start-is}
use Rattle.engine_tests.proofs.OwnRuns.{stays_own}
use Rattle.engine_tests.proofs.book.own_tests.advance.Goals as goal

pub advance-requires-clause-found : goal.advance-requires-clause-found
advance-requires-clause-found g c =
    let own = c.requires in
    let starts : own.instance.start ≡ c.args.ticket.now.start = (with_start-is c.args.ticket.now.start _ own.instance own.active).1 in
    subst (λ (n : ℕ). AreFound (state_in c.args.book.now n) c.args.run.now.looks) starts own.own.found

pub returns-clause-own : goal.returns-clause-own
returns-clause-own g c =
    let own = c.requires in
    let new = c.advance.new.run in
    let starts : own.instance.start ≡ c.args.ticket.now.start = (with_start-is c.args.ticket.now.start _ own.instance own.active).1 in
    let found = subst (λ (n : ℕ). AreFound (state_in c.args.book.now n) new.looks) (sym starts) c.advance.ensures.own.found in
    subst (λ (v : BookView). IsOfInstance v c.args.ticket.now new) (sym c.advance.ensures.same) (stays_own c.args.book.now c.args.ticket.now c.args.run.now new own c.advance.ensures.own.same found)
