use Rattle.std.proofs.Common.{◌≤◌, length, arith}
use Rattle.prog_paths.specs.StaticGraph.{StaticEdge, Leads}
use Rattle.dep_graph.specs.Counting.{IsCountOf}
use Rattle.si_repair.proofs.Fitting.{count-within, small_from, pushed}
use Rattle.si_repair.proofs.certificate.levels_of.Goals as goal

pub as_u32-requires : goal.as_u32-requires
as_u32-requires c =
    let nodes = c.args.graph.now in
    let within = count-within _ (length nodes) c.level.result c.level.ensures in
    let bound : length nodes ≤ 512 = c.requires.paths in
    small_from c.level.result (omega (arith, within, bound))

pub loop-x-preserved : goal.loop-x-preserved
loop-x-preserved c =
    let nodes = c.args.graph.now in
    record {
      one_each = omega (arith, c.in_ok-push.ensures.len, c.loop-x.invariant.one_each);
      counted = pushed (λ x n. IsCountOf (λ u. Leads (StaticEdge nodes) u x) (length nodes) n) c.loop-x.levels.items c.push.new.self.items c.as_u32.result c.loop-x.x c.loop-x.invariant.one_each c.in_ok-push.ensures.items c.loop-x.invariant.counted (rw c.as_u32.ensures c.level.ensures);
    }

pub returns : goal.returns
returns c = record {
  one_each = omega (arith, c.loop-x.invariant.one_each);
  counted = λ x inside. c.loop-x.invariant.counted x (omega (arith, inside));
}
