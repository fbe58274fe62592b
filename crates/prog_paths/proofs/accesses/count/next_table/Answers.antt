use Rattle.prog_paths.proofs.Walked.{next_node}
use Rattle.prog_paths.proofs.accesses.count.next_table.Goals as goal

pub loop-path-preserved : goal.loop-path-preserved
loop-path-preserved c = record {
  rises = c.next_in-next.ensures.rises c.loop-path.invariant.rises;
  all = next_node c.args.last c.loop-path.next c.next_in-next.result c.loop-path.path-index c.args.paths.now c.path-item.result c.as_slice.result.now c.loop-path-test.true c.path-item.is c.as_slice.ensures c.next_in-next.ensures.keeps (c.next_in-next.ensures.all c.loop-path.invariant.rises) c.loop-path.invariant.all;
}
