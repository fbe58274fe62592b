-- What an analysis has to find of a list of paths, and why a set is not analysed.
use Rattle.std.specs.Prelude.{ℕ, ◌<◌, ◌≤◌, List, length, All}
use Rattle.prog_tree.specs.Syntax.{DraftTree}
use Rattle.prog_check.specs.declared.path.Access.{Access}
use Rattle.prog_check.specs.declared.path.Path.{Path}
use Rattle.prog_check.specs.Paths.{paths_of}
use Rattle.prog_paths.specs.StaticGraph.{AsksOf, StaticEdge, Leads}
use Rattle.prog_paths.specs.StaticGraph as graph
use Rattle.prog_paths.specs.Questions.{IsQuestion, questions_of}
use Rattle.prog_paths.specs.Limits.{most_questions}
use Rattle.conflict_pairs.specs.declared.fault.PairFault.{PairFault}
use Rattle.conflict_pairs.specs.declared.fault.PairFault as pairs
use Rattle.conflict_pairs.specs.declared.verdicts.Verdict.{Verdict}
use Rattle.conflict_pairs.specs.declared.verdicts.Verdict.TheVariants as verdict
use Rattle.conflict_pairs.specs.Verdicts.{IsRight, IsExposedQuestion}
use Rattle.dep_graph.specs.Counting.{IsCountOf}
use Rattle.dep_graph.specs.Danger.{IsLeastDanger}
use Rattle.robust_cert.specs.declared.certificate.Certificate.{Certificate}
use Rattle.robust_cert.specs.declared.entries.Reason.{Reason}
use Rattle.robust_cert.specs.declared.entries.Reason.TheVariants.{Apart, Cover}
use Rattle.robust_cert.specs.Accepted.{question_of, level_in, IsTold, IsAccepted}
use Rattle.robust_cert.specs.Sharing.{Entry}
use Rattle.si_repair.specs.declared.fault.AnalyseFault.{AnalyseFault}
use Rattle.si_repair.specs.declared.fault.AnalyseFault as faults
use Rattle.si_repair.specs.declared.finding.Finding.{Finding}
use Rattle.si_repair.specs.declared.finding.Finding.TheVariants.{Robust, Refused}

-- a set asks no more questions than an analysis answers
abbrev pub AsksFew : DraftTree → Type 0
AsksFew draft = length (questions_of (paths_of draft)) ≤ most_questions

-- it asks more
abbrev pub AsksTooMany : DraftTree → Type 0
AsksTooMany draft = most_questions < length (questions_of (paths_of draft))

-- why a set is not analysed whose questions have no table
abbrev pub fault_of : PairFault → AnalyseFault
fault_of pairs.TheVariants.TooLarge = faults.TheVariants.TooLarge
fault_of pairs.TheVariants.Memory = faults.TheVariants.Memory

-- the verdict that a reason tells
abbrev pub verdict_told : Reason → Verdict
verdict_told (Apart chain) = verdict.Apart chain
verdict_told (Cover m t chains) = verdict.Covered m t chains

-- an entry tells the right verdict on its question: that it can't meet, or the least cover;
-- with chains of the fewest nodes
abbrev pub IsOwnEntry : List Path → Entry → Type 0
IsOwnEntry nodes e = IsRight nodes (question_of e) (verdict_told e.reason)

-- each question that is not exposed has an entry
abbrev pub TellsEach : List Path → List Entry → Type 0
TellsEach nodes entries =
    (q : graph.QuestionNumbers) → IsQuestion nodes q → (mine theirs : Access) → AsksOf nodes q mine theirs
    → ¬ IsExposedQuestion nodes q mine theirs → IsTold entries q

-- for each node the number of nodes that lead to it, itself counted
abbrev pub AreCounted : List Path → (levels : List ℕ) → Type 0
AreCounted nodes levels =
    (x : ℕ) → x < length nodes
    → IsCountOf (λ u. Leads (StaticEdge nodes) u x) (length nodes) (level_in levels x)

-- the certificate of a list of paths: an entry for each question that is not exposed, and the levels of the nodes
pub record IsCertificateOf (nodes : List Path) (c : Certificate) : Type 0 where
  pub own : All (IsOwnEntry nodes) c.entries
  pub each : TellsEach nodes c.entries
  pub levels : AreCounted nodes c.levels

-- the checker accepts the certificate, which is that of the paths; or the structure is the least dangerous one
abbrev pub IsRightFinding : List Path → Finding → Type 0
IsRightFinding nodes (Robust c) = IsAccepted nodes c × IsCertificateOf nodes c
IsRightFinding nodes (Refused d) = IsLeastDanger nodes d
