use Rattle.version_store.proofs.EndLaws.{done_ends, gone_more, gone_all}
use Rattle.version_store.proofs.blocks.Blocks.end_changed.Goals as goal

pub loop-cell-preserved-then-not-is_done : goal.loop-cell-preserved-then-not-is_done
loop-cell-preserved-then-not-is_done c = record {
  ended = gone_more c.args.number c.args.changes.now.cells c.loop-cell.cell-iterator c.next.new.self c.in-Some.cell.now _ c.loop-cell.self c.end_at-done.new.self
      c.in-Some.ensures.steps c.loop-cell.invariant.ended c.end_at-done.ensures.ended c.end_at-done.ensures.others;
  done = c.end_at-done.ensures.region;
  stays = λ chains floor all. c.end_at-done.ensures.stays chains floor (c.loop-cell.invariant.stays chains floor all);
}

pub loop-cell-preserved : goal.loop-cell-preserved
loop-cell-preserved c = record {
  ended = gone_more c.args.number c.args.changes.now.cells c.loop-cell.cell-iterator c.next.new.self c.in-Some.cell.now _ c.loop-cell.self c.loop-cell.self
      c.in-Some.ensures.steps c.loop-cell.invariant.ended (done_ends c.args.number c.loop-cell.done c.loop-cell.self c.in-Some.cell.now c.loop-cell.invariant.done (c.is_done.ensures.0 c.if-not-is_done.false))
      (λ cell ended. ended);
  done = c.loop-cell.invariant.done;
  stays = c.loop-cell.invariant.stays;
}

pub returns-clause-ended : goal.returns-clause-ended
returns-clause-ended c = gone_all c.args.number c.args.changes.now.cells c.loop-cell.cell-iterator c.loop-cell.self c.in-None.ensures.steps.0 c.loop-cell.invariant.ended
