use Rattle.std.proofs.Common.{◌∙◌}
use Rattle.prog_tree.specs.Tree.{stmt_tree}
use Rattle.prog_paths.proofs.Walking.{more_past}
use Rattle.prog_paths.proofs.path.walk.pass_all.Goals as goal

pub loop-trail-preserved : goal.loop-trail-preserved
loop-trail-preserved c =
    let before = c.loop-trail.passed.items in
    c.in_ok-push.ensures.items
    ∙ more_past c.args.set.now.tables.items c.args.params.now c.args.number (stmt_tree c.args.stmt.now) c.loop-trail.yielded c.in-Some.trail c.pass_whole.new.trail before c.in_ok-pass_whole.ensures c.loop-trail.invariant
