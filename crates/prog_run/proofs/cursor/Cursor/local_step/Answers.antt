use Rattle.std.proofs.Common.{ap, ◌∙◌}
use Rattle.prog_tree.specs.Tree.{with_stmt, stmts_tree}
use Rattle.prog_tree.proofs.TreeLemmas.{branch_tree}
use Rattle.prog_run.proofs.cursor.Cursor.local_step.Goals as goal

pub enter_branch-requires : goal.enter_branch-requires
enter_branch-requires c =
    let s = c.in-Branch in
    let rest = stmts_tree c.in-Some.rest.now in
    ap stmts_tree c.in-Some.ensures.cases.0
    ∙ ap (λ x. with_stmt x rest) s.is
    ∙ ap (λ f. f rest) (branch_tree s.test s.then s.otherwise)
