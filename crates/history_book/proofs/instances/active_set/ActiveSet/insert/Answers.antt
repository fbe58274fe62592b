use Rattle.std.proofs.Common.{◌≡◌, ◌<◌, List, max, rules, refl, ap, sym, subst, All}
use Rattle.history_book.specs.History.{Instance}
use Rattle.history_book.proofs.ActiveLaws.{Entry}
use Rattle.history_book.proofs.StartLaws.{one_begins, taken_back}
use Rattle.history_book.proofs.instances.active_set.ActiveSet.insert.Goals as goal

pub invariant_of-self-in-Ok : goal.invariant_of-self-in-Ok
invariant_of-self-in-Ok c =
    let below = subst (λ (es : List Entry). All (λ e. e.0 < c.args.number) es) (sym c.self.view_is) c.requires in
    let greater : c.max-self-inside.result ≡ max c.self.inside.newest c.active.inside.start = search rules in
    rw greater
    (one_begins _ _ _ c.note.new.out_of_turn _ c.args.number c.args.active _ (ap (λ (x : Instance). x.start) c.active.view_is) refl c.self.invariant below c.in-Ok.ensures.ordered c.in-Ok.ensures.updates.0 c.in_ok-note.ensures.ok)

pub invariant_of-self-in-Err : goal.invariant_of-self-in-Err
invariant_of-self-in-Err c =
    let below = subst (λ (es : List Entry). All (λ e. e.0 < c.args.number) es) (sym c.self.view_is) c.requires in
    taken_back _ _ _ c.note.new.out_of_turn c.remove.new.self _ c.args.number _ refl c.self.invariant below c.in_ok-note.ensures.ok c.remove.ensures.updates.0 c.in-Err.ensures.err
