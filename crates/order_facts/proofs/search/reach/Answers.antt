use Rattle.order_facts.proofs.Levels.{Adds-none, Adds-new}
use Rattle.order_facts.proofs.search.reach.Goals as goal

pub returns-in_ok-push : goal.returns-in_ok-push
returns-in_ok-push c =
    let found = rw c.deref-then-not-has_reached.ensures.value at c.in-Some.ensures.found in
    Adds-new c.args.facts.now c.args.reached.now.items _ c.args.known c.args.node c.args.steps c.in-Some.next c.requires found.0 found.1 c.in_ok-push.ensures.items

pub returns-in_default : goal.returns-in_default
returns-in_default c =
    let none = rw c.deref-then-not-has_reached.ensures.value at c.in_default.ensures.none in
    Adds-none c.args.facts.now c.args.reached.now.items c.args.known c.args.node c.args.steps c.requires none
