use Rattle.prog_tree.specs.Tree.{draft_tree}
use Rattle.repair_laws.specs.Refusals.{StopsMaterialising}
use Rattle.analysis_words.proofs.Stopped.{done, stopped}
use Rattle.analysis_words.proofs.ways.is_repaired_by_tables.Goals as goal
use Rattle.analysis_words.proofs.ways.is_repaired_by_tables.Goals.{in-Ok, in-Err}

pub returns : goal.returns
returns c = elim c.match-materialise.branch [
  | in-Ok w ↦ done c.match-materialise.result _ w.result-is w.in-Ok.ensures.repaired.goes
  | in-Err w ↦ rw w.result-is
      (stopped w.stopped_by.result w.in-Err.fault (StopsMaterialising (draft_tree c.args.set.now) c.args.plan.now.pairs) c.args.plan.now.pairs
      w.stopped_by.ensures w.in-Err.ensures.refused)
]
