use Rattle.std.proofs.Common.{arith}
use Rattle.std.proofs.lemmas.Bool.{false≢true, both_ways}
use Rattle.prog_paths.specs.StaticGraph.{StaticEdge, IsVulnerable, IsDangerousAt}
use Rattle.si_repair.proofs.Searching.{any-more, any-end}
use Rattle.si_repair.proofs.plans.nodes.ends_in.Goals as goal
use Rattle.si_repair.proofs.plans.nodes.ends_in.Goals.{else-vulnerable-via-then-vulnerable+else-reaches, else-vulnerable-via-else-vulnerable}

pub loop-z-preserved : goal.loop-z-preserved
loop-z-preserved c =
    any-more (λ z. IsDangerousAt (StaticEdge c.args.graph.now) (IsVulnerable c.args.graph.now) c.args.x c.args.y z) c.args.thirds.now c.loop-z.z-index 0 (omega arith) c.loop-z.invariant (λ d. elim c.else-vulnerable.branch [
      | else-vulnerable-via-then-vulnerable+else-reaches w ↦ both_ways w.reaches.result w.if-reaches.false (w.reaches.ensures.1 d.back)
      | else-vulnerable-via-else-vulnerable w ↦ both_ways c.vulnerable-in-loop-z.result w.if-vulnerable.false (c.vulnerable-in-loop-z.ensures.1 d.second)
    ])

pub returns : goal.returns
returns c = (λ e. absurd (false≢true e), λ h. absurd (any-end (λ z. IsDangerousAt (StaticEdge c.args.graph.now) (IsVulnerable c.args.graph.now) c.args.x c.args.y z) c.args.thirds.now c.loop-z.z-index (omega arith) c.loop-z.invariant h))
