use Rattle.prog_run.proofs.SeenLemmas.{merge_more, merge_one}
use Rattle.prog_run.proofs.region.merge.Goals as goal

pub loop-cell-preserved : goal.loop-cell-preserved
loop-cell-preserved c =
    let loop = c.loop-cell in
    let own = c.args.own.now in
    let parts = c.split_at.result in
    let count = c.count_before.ensures.count in
    record {
      merged = merge_one own loop.cell-index _ loop.left.now c.count_before.result c.loop-cell-test.true count loop.invariant.more
          loop.seen.items parts.0.now parts.1.now c.extend_from_slice.new.self.items c.add_own.new.rows.items _
          c.split_at.ensures.front c.split_at.ensures.back c.in_ok-extend_from_slice.ensures.items c.in_ok-add_own.ensures loop.invariant.merged;
      more = merge_more own loop.cell-index _ loop.left.now c.count_before.result c.loop-cell-test.true count loop.invariant.more parts.1.now c.split_at.ensures.back;
    }
