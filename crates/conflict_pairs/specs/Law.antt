-- The laws of verdicts: they are exact.
use Rattle.std.specs.Prelude.{◌≡◌, ◌↔◌, List, true, false}
use Rattle.prog_check.specs.declared.path.Access.{Access}
use Rattle.prog_check.specs.declared.path.Path.{Path}
use Rattle.prog_paths.specs.Meeting.{CanMeet}
use Rattle.prog_paths.specs.StaticGraph.{QuestionNumbers, AsksOf, AsksReadWrite, IsCovered}
use Rattle.conflict_pairs.specs.declared.verdicts.Verdict.{Verdict}
use Rattle.conflict_pairs.specs.declared.verdicts.Verdict.TheVariants.{Covered}
use Rattle.conflict_pairs.specs.Verdicts.{IsRight, can_meet, is_exposed, IsExposedQuestion}

abbrev pub IsCoveredVerdict : Verdict → Type 0
IsCoveredVerdict (Covered m t chains) = Unit {0}
IsCoveredVerdict _ = ⊥

-- the question asks for a read-write dependency, can meet, and is covered
abbrev pub IsCoveredQuestion : List Path → QuestionNumbers → Access → Access → Type 0
IsCoveredQuestion nodes q mine theirs =
    AsksReadWrite mine.kind theirs.kind × CanMeet mine theirs × IsCovered nodes q.x q.y mine theirs

-- which of the three a verdict is
pub record IsExact (nodes : List Path) (q : QuestionNumbers) (mine theirs : Access) (verdict : Verdict) : Type 0 where
  pub apart : (can_meet verdict ≡ false) ↔ ¬ CanMeet mine theirs
  pub covered : IsCoveredVerdict verdict ↔ IsCoveredQuestion nodes q mine theirs
  pub exposed : (is_exposed verdict ≡ true) ↔ IsExposedQuestion nodes q mine theirs

-- a right verdict is apart just where the two accesses can't meet, covered just where the question is, else exposed
abbrev pub LawOfVerdicts : Type 0
LawOfVerdicts =
    (nodes : List Path) (q : QuestionNumbers) (mine theirs : Access) (verdict : Verdict)
    → AsksOf nodes q mine theirs → IsRight nodes q verdict → IsExact nodes q mine theirs verdict
