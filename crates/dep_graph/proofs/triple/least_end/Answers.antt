use Rattle.std.proofs.Common.{ℕ, ◌∙◌}
use Rattle.std.proofs.lemmas.Bool.{false≢true}
use Rattle.dep_graph.specs.Triple.{ClosesAt}
use Rattle.dep_graph.proofs.Nexts.{next-passed}
use Rattle.dep_graph.proofs.triple.least_end.Goals as goal

pub loop-z-preserved : goal.loop-z-preserved
loop-z-preserved c =
    let closes : ℕ → Type 0 = λ z. ClosesAt c.args.vulnerable.now c.args.reach.now c.args.x c.args.y z in
    next-passed closes c.args.vulnerable.now c.args.y c.loop-z.start (λ z p. p.second) c.loop-z.invariant c.in-Some.z c.in-Some.ensures.found (λ p. false≢true (c.if-get.ensures ∙ p.back.joined))
