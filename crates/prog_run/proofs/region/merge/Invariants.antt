use Rattle.std.proofs.Common.{◌≡◌, ◌++◌, drop}
use Rattle.prog_tree.specs.ChangeSet.{changed}
use Rattle.prog_run.proofs.SeenLemmas.{IsToMerge}
use Rattle.prog_run.proofs.region.merge.Given as goal

abbrev pub invariant-loop-cell : goal.invariant-loop-cell
invariant-loop-cell l = record {
  merged : l.seen.items ++ changed l.left (drop l.cell-index l.own) ≡ changed l.rows l.own;
  more : IsToMerge l.left (drop l.cell-index l.own);
}
