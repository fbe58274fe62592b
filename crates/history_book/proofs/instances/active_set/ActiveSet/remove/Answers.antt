use Rattle.std.proofs.Common.{refl, sym, ap}
use Rattle.history_book.specs.History.{Instance}
use Rattle.history_book.proofs.StartLaws.{one_ends}
use Rattle.history_book.proofs.instances.active_set.ActiveSet.remove.Goals as goal

pub invariant_of-self : goal.invariant_of-self
invariant_of-self c =
    one_ends _ _ _ c.remove-in-Some.new.self _ c.args.number c.in-Some.active _ (ap (λ (x : Instance). x.start) c.active.view_is) refl c.self.invariant (sym c.in-Some.ensures.value) c.remove.ensures.ordered c.in-Some.ensures.updates.0 c.remove-in-Some.ensures.updates.0
