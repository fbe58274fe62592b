use Rattle.std.proofs.Common.{ap, sym, ◌∙◌}
use Rattle.prog_tree.specs.Tree.{stmt_tree, stmts_tree}
use Rattle.prog_run.specs.Cursor.{cursor_tree, is_store}
use Rattle.prog_run.specs.Task.{task_tree}
use Rattle.prog_run.proofs.StatementLemmas.{begun_looks}
use Rattle.prog_run.proofs.StepLemmas.{step_of_stmt, store_first}
use Rattle.prog_run.proofs.cursor.Cursor.store_step.Goals as goal

pub task_of-requires : goal.task_of-requires
task_of-requires c =
    let at = ap stmts_tree c.in-Some.ensures.cases.0 in
    sym (store_first (stmt_tree c.in-Some.stmt.now) (stmts_tree c.in-Some.rest.now)) ∙ ap is_store (sym at) ∙ c.requires

pub returns-clause-step : goal.returns-clause-step
returns-clause-step c =
    let p = c.args.progress.now in
    let old = cursor_tree c.args.self.now in
    let new = cursor_tree c.go_on.new.self in
    let stmt = stmt_tree c.in-Some.stmt.now in
    let rest = stmts_tree c.in-Some.rest.now in
    let at = ap stmts_tree c.in-Some.ensures.cases.0 in
    let task = task_tree c.in-Some-task_of.task in
    step_of_stmt c.args.set.now.tables.items stmt rest old new p c.begin.new.progress at task (sym c.in-Some-task_of.ensures) c.in_ok-step.step c.go_on.ensures c.in_ok-step.ensures.begun

pub returns-clause-looks : goal.returns-clause-looks
returns-clause-looks c = begun_looks (task_tree c.in-Some-task_of.task) c.in_ok-step.step c.args.progress.now c.begin.new.progress c.in_ok-step.ensures.begun
