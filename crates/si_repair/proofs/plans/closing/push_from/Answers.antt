use Rattle.std.proofs.Common.{subst, arith}
use Rattle.si_repair.specs.Planning.{ClosesFrom, AddsTriples}
use Rattle.si_repair.proofs.Closings.{from-more}
use Rattle.si_repair.proofs.plans.closing.push_from.Goals as goal

pub loop-second-preserved : goal.loop-second-preserved
loop-second-preserved c =
    let nodes = c.args.nodes.now in
    from-more nodes.paths nodes.programs c.args.first c.loop-second.second c.args.triples.now.items c.loop-second.triples.items c.push_behind.new.triples.items c.loop-second.invariant c.in_ok-push_behind.ensures

pub returns : goal.returns
returns c = subst (λ n. AddsTriples c.args.triples.now.items c.loop-second.triples.items (ClosesFrom c.args.nodes.now.paths c.args.first n c.args.nodes.now.programs)) (omega arith) c.loop-second.invariant
