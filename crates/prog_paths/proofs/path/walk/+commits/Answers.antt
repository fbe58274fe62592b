use Rattle.std.proofs.Common.{◌∙◌, ap}
use Rattle.prog_tree.specs.Tree.{stmt_tree, test_tree, block_tree}
use Rattle.prog_tree.proofs.TreeLemmas.{fork_tree}
use Rattle.prog_paths.proofs.Walking.{lets_first, lets_second}
use Rattle.prog_paths.proofs.path.walk.+commits.Goals as goal

pub lets_on-returns-then-commits : goal.lets_on-returns-then-commits
lets_on-returns-then-commits t c =
    let branch = c.in-Branch in
    lets_first (stmt_tree c.args.stmt.now) (test_tree branch.test) (block_tree branch.then) (block_tree branch.otherwise) c.commits.result
    (ap stmt_tree branch.is ∙ fork_tree branch.test branch.then branch.otherwise) c.if-commits.true c.commits.ensures

pub lets_on-returns-else-commits : goal.lets_on-returns-else-commits
lets_on-returns-else-commits t c =
    let branch = c.in-Branch in
    lets_second (stmt_tree c.args.stmt.now) (test_tree branch.test) (block_tree branch.then) (block_tree branch.otherwise) c.commits.result c.commits-else-commits.result
    (ap stmt_tree branch.is ∙ fork_tree branch.test branch.then branch.otherwise) c.if-commits.false c.commits.ensures c.commits-else-commits.ensures
