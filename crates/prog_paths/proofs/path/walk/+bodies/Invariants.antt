use Rattle.std.proofs.Common.{◌≡◌, ◌+◌, ◌*◌, ◌≤◌, drop}
use Rattle.prog_tree.specs.Tree.{stmt_tree, stmts_tree, block_tree}
use Rattle.prog_check.specs.Paths.{statement_count}
use Rattle.prog_paths.specs.Trails.{IsLow, alone, past_body}
use Rattle.prog_paths.proofs.path.walk.+bodies.Given as goal

-- a body calls for its statements, and a statement for its blocks
abbrev pub decreases-pass_body : goal.decreases-pass_body
decreases-pass_body l = 2 * statement_count (block_tree l.body.now) + 1

abbrev pub decreases-pass_inside : goal.decreases-pass_inside
decreases-pass_inside l = 2 * statement_count (alone (stmt_tree l.stmt.now))

-- the trail so far, past the statements that are left
abbrev pub invariant-pass_body-loop-stmt : goal.invariant-pass_body-loop-stmt
invariant-pass_body-loop-stmt l = record {
  number : l.number + statement_count (stmts_tree (drop l.stmt-index l.stmt-items)) ≡ l.fn.number + statement_count (block_tree l.body);
  past : l.fn.number ≤ l.number;
  low : IsLow l.number l.trail;
  trail : past_body l.set.tables.items l.params l.number (stmts_tree (drop l.stmt-index l.stmt-items)) l.trail ≡ past_body l.set.tables.items l.params l.fn.number (block_tree l.body) l.fn.trail;
}
