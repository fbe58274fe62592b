use Rattle.std.proofs.Common.{List, subst}
use Rattle.order_facts.specs.declared.steps.Fact.{Fact}
use Rattle.order_facts.specs.Chain.{IsConsistent}
use Rattle.order_facts.proofs.Exact.{Entails-exact}
use Rattle.order_facts.proofs.closed.Closed.entails.Goals as goal

pub returns-else-not-self : goal.returns-else-not-self
returns-else-not-self c =
    let consistent = subst (λ (w : List Fact). IsConsistent w) c.self.view_is (c.self.invariant.consistent.0 c.if-not-self.false) in
    Entails-exact c.args.self.now c.args.x c.args.y c.reaches.result consistent (rw (c.as_slice.ensures, c.self.view_is) at c.reaches.ensures)
