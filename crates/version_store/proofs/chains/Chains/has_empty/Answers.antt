use Rattle.std.proofs.Common.{◌≡◌, ◌∙◌, true, false, ap, subst, sym}
use Rattle.std.specs.Prelude.{Option, unwrap_or}
use Rattle.version_store.specs.StandsFor.{VersionChain, no_chain, HoldsSome}
use Rattle.version_store.proofs.HoldLaws.{hold_beside}
use Rattle.version_store.proofs.chains.Chains.has_empty.Goals as goal

pub returns-in-Some-clause-empty : goal.returns-in-Some-clause-empty
returns-in-Some-clause-empty c =
    rw (← c.self.view_is) (λ empty. ap (λ (o : Option VersionChain). unwrap_or o no_chain) (sym c.in-Some.ensures.value) ∙ c.is_empty.ensures.0 empty)

pub returns-in-Some-clause-left : goal.returns-in-Some-clause-left
returns-in-Some-clause-left c =
    rw (← c.self.view_is)
    (λ left others. hold_beside c.self.inside.chains.entries c.args.cell.now
    (subst HoldsSome c.in-Some.ensures.value (λ none. let clash : true ≡ false = sym (c.is_empty.ensures.1 none) ∙ left in cc)) others)

pub returns-in-None-clause-left : goal.returns-in-None-clause-left
returns-in-None-clause-left c =
    rw (← c.self.view_is) (λ left others. hold_beside c.self.inside.chains.entries c.args.cell.now (subst HoldsSome c.in-None.ensures.value tt) others)
