use Rattle.prog_tree.specs.Tree.{draft_tree}
use Rattle.prog_check.specs.Paths.{paths_of}
use Rattle.robust_cert.proofs.Safety.{law_of_acceptance}
use Rattle.robust_cert.proofs.Verdicts.{only_memory}
use Rattle.robust_cert.proofs.checking.checker.verify.Goals as goal

pub accepted-requires : goal.accepted-requires
accepted-requires c = law_of_acceptance (draft_tree c.args.set) c.args.certificate.now c.in-Ok.ensures.accepted

pub returns-in-Err-clause-taken : goal.returns-in-Err-clause-taken
returns-in-Err-clause-taken c = λ a. only_memory (paths_of (draft_tree c.args.set)) c.args.certificate.now a c.in-Err.fault c.in-Err.ensures.fault
