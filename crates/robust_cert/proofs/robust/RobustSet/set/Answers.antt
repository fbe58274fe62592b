use Rattle.std.proofs.Common.{subst}
use Rattle.prog_tree.specs.declared.program.Draft.{Draft}
use Rattle.prog_tree.specs.Tree.{draft_tree}
use Rattle.prog_check.specs.Paths.{paths_of}
use Rattle.prog_paths.specs.StaticGraph.{IsDangerous}
use Rattle.robust_cert.proofs.robust.RobustSet.set.Goals as goal

pub returns-clause-safe : goal.returns-clause-safe
returns-clause-safe c = subst (λ (d : Draft). IsDangerous (paths_of (draft_tree d)) → ⊥) c.self.view_is c.self.invariant
