use Rattle.std.proofs.Common.{sym, subst}
use Rattle.history_book.specs.Refusals.{IsOfInstance}
use Rattle.si_engine.proofs.HeldLaws.{of_instance}
use Rattle.si_engine.proofs.active.ActiveRun.end.Goals as goal

pub end_own-requires-clause-own : goal.end_own-requires-clause-own
end_own-requires-clause-own c =
    subst (IsOfInstance c.args.book.now c.args.self.ticket) (sym c.deref.ensures) (of_instance c.args.book.now c.args.self c.requires.active)
