use Rattle.std.proofs.Common.{ap, sym, ◌∙◌}
use Rattle.prog_tree.specs.Tree.{stmt_tree}
use Rattle.prog_tree.proofs.TreeLemmas.{loop_tree}
use Rattle.prog_run.specs.Task.{task_of_stmt}
use Rattle.prog_run.proofs.task.task_of.Goals as goal

pub returns-in-Each : goal.returns-in-Each
returns-in-Each c =
    let s = c.in-Each in
    c.look_in-in-Each.ensures ∙ sym (ap (λ x. task_of_stmt c.args.set.now.tables.items x c.args.env.now) (ap stmt_tree s.is ∙ loop_tree s.listing s.body))
