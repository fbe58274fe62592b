use Rattle.std.proofs.Common.{◌≡◌}
use Rattle.prog_tree.specs.Tree.{stmt_tree}
use Rattle.prog_check.specs.Paths.{routes}
use Rattle.prog_paths.specs.Trails.{alone, all_along}
use Rattle.prog_paths.proofs.path.walk.pass_all.Given as goal

-- the trails so far are behind the statement
abbrev pub invariant-loop-trail : goal.invariant-loop-trail
invariant-loop-trail l = l.passed.items ≡ all_along l.set.tables.items l.params l.yielded (routes l.number (alone (stmt_tree l.stmt)))
