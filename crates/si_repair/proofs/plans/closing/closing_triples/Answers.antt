use Rattle.std.proofs.Common.{sym, subst, ◌∙◌, arith}
use Rattle.si_repair.specs.Planning.{NodesBy, ClosesFrom, AddsTriples}
use Rattle.si_repair.proofs.Closings.{AreClosingBelow, all-more}
use Rattle.si_repair.proofs.plans.closing.closing_triples.Goals as goal

pub push_from-requires-clause-graph : goal.push_from-requires-clause-graph
push_from-requires-clause-graph c = c.requires ∙ sym c.in_ok-nodes.ensures.paths

pub loop-first-preserved : goal.loop-first-preserved
loop-first-preserved c =
    let old = c.loop-first.triples.items in
    let new = c.push_from.new.triples.items in
    let first = c.loop-first.first in
    let paths = c.in_ok-nodes.ensures.paths in
    let programs = c.in_ok-nodes.ensures.programs in
    let more = subst (λ (n : NodesBy). AddsTriples old new (ClosesFrom n.paths first n.programs n.programs)) (λ i. record { paths = paths i; programs = programs i }) c.in_ok-push_from.ensures in
    all-more c.args.paths.now c.args.programs first old new c.loop-first.invariant more

pub returns : goal.returns
returns c = subst (λ n. AreClosingBelow c.args.paths.now c.args.programs n c.loop-first.triples.items) (omega arith) c.loop-first.invariant
