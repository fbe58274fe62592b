use Rattle.std.proofs.Common.{◌≡◌, length, sym, ◌∙◌, subst}
use Rattle.std.specs.Prelude.{option_map}
use Rattle.std.proofs.lemmas.List.{length-map}
use Rattle.si_engine.specs.View.{EngineView, active_in, numbered}
use Rattle.si_engine.proofs.engine.Engine.book.Goals as goal

pub returns-clause-active : goal.returns-clause-active
returns-clause-active c =
    let e = c.self.inside in
    subst (λ (x : EngineView). e.book.active ≡ numbered 0 x.machine.begun) c.self.view_is c.self.invariant.active

pub returns-clause-begun : goal.returns-clause-begun
returns-clause-begun c =
    let e = c.self.inside in
    subst (λ (x : EngineView). e.book.begun ≡ length x.machine.begun) c.self.view_is
    (sym c.self.invariant.counted ∙ sym (length-map e.begun.items (option_map active_in)))
