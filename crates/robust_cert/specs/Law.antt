-- The law of the checker: what it accepts is safe.
use Rattle.prog_tree.specs.Syntax.{DraftTree}
use Rattle.prog_check.specs.Paths.{paths_of}
use Rattle.prog_paths.specs.StaticGraph.{IsDangerous}
use Rattle.robust_cert.specs.declared.certificate.Certificate.{Certificate}
use Rattle.robust_cert.specs.Accepted.{IsAccepted}

-- a set with an accepted certificate has no dangerous structure
abbrev pub LawOfAcceptance : Type 0
LawOfAcceptance =
    (draft : DraftTree) (c : Certificate) → IsAccepted (paths_of draft) c → ¬ IsDangerous (paths_of draft)
