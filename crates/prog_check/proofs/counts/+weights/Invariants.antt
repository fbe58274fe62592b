use Rattle.std.proofs.Common.{◌≡◌, ◌≤◌, drop}
use Rattle.std.specs.Prelude.{Some}
use Rattle.prog_tree.specs.Tree.{stmts_tree, block_tree}
use Rattle.prog_check.specs.Counts.{added_weights, heaviest, up_to}
use Rattle.prog_check.proofs.counts.+weights.Given as goal

-- the accesses so far, with those of the statements that are left
abbrev pub invariant-heaviest_path-loop-stmt : goal.invariant-heaviest_path-loop-stmt
invariant-heaviest_path-loop-stmt l = record {
  few : l.weight ≤ 25;
  accesses : up_to 25 (added_weights (Some l.weight) (heaviest l.tables (stmts_tree (drop l.stmt-index l.stmt-items)))) ≡ up_to 25 (heaviest l.tables (block_tree l.block));
}
