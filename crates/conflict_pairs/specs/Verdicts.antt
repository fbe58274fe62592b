-- When a verdict on a question is right.
use Rattle.std.specs.Prelude.{◌≡◌, ◌↔◌, ℕ, ◌<◌, ◌≤◌, ℤ, ◌<ℤ◌, Bool, true, false, List, length, All, Contains}
use Rattle.prog_tree.specs.Number.{IsI64}
use Rattle.order_facts.specs.declared.steps.Node.{Node}
use Rattle.order_facts.specs.declared.steps.Node.TheVariants.{Mine, MineUnknown, Theirs, TheirsUnknown, Number}
use Rattle.order_facts.specs.declared.steps.Fact.{Fact}
use Rattle.order_facts.specs.declared.sample.Choice.{Choice}
use Rattle.order_facts.specs.Chain.{RunsBetween}
use Rattle.order_facts.specs.Sample.{sample_number, IsSampled}
use Rattle.prog_check.specs.declared.path.Access.{Access}
use Rattle.prog_check.specs.declared.path.Path.{Path}
use Rattle.prog_paths.specs.Meeting.{Assignment, MeetsUnder, CanMeet}
use Rattle.prog_paths.specs.Facts.{question_facts}
use Rattle.prog_paths.specs.StaticGraph.{IsUpToPair, QuestionNumbers, AsksOf, AsksReadWrite, IsCovered}
use Rattle.conflict_pairs.specs.declared.verdicts.Verdict.{Verdict}
use Rattle.conflict_pairs.specs.declared.verdicts.Verdict.TheVariants.{Apart, Covered, Exposed}
use Rattle.prog_paths.specs.Shown.{Falls, Runs, key_pairs, ShowEqual}

-- ---- apart

-- both nodes are numbers, the second smaller
pub record IsFall (from to : Node) : Type 0 where
  pub greater : ℤ
  pub smaller : ℤ
  pub from_is : from ≡ Number greater
  pub to_is : to ≡ Number smaller
  pub falls : smaller <ℤ greater

-- some fact puts a number at most a smaller one
pub record HasFall (facts : List Fact) : Type 0 where
  pub fact : Fact
  pub given : Contains facts fact
  pub falls : IsFall fact.lo fact.hi

-- in a column of the question's two accesses two numbers stand that can't meet: a fact of them falls
pub record NumbersFall (nodes : List Path) (q : QuestionNumbers) : Type 0 where
  pub mine : Access
  pub theirs : Access
  pub asked : AsksOf nodes q mine theirs
  pub falls : HasFall (question_facts mine theirs)

-- a chain falls, and none that falls between numbers of i64 has fewer nodes
pub record FallsShortest (facts : List Fact) (chain : List Node) : Type 0 where
  pub falls : Falls facts chain
  pub fewest : (other : List Node) (h : Falls facts other) → IsI64 h.greater → IsI64 h.smaller
      → length chain ≤ length other

-- ---- covered

-- no chain of the facts between the same two nodes has fewer nodes
abbrev pub IsShortest : List Fact → List Node → Type 0
IsShortest facts chain =
    (from to : Node) (other : List Node) → RunsBetween from to chain → Runs facts from to other
    → length chain ≤ length other

-- these two accesses cover the question, and no pair before them does
pub record IsLeastCover (nodes : List Path) (q : QuestionNumbers) (mine theirs : Access) (m t : ℕ) : Type 0 where
  pub cover : IsCovered nodes q.x q.y mine theirs
  pub mine_is : cover.first ≡ m
  pub theirs_is : cover.second ≡ t
  pub least : (other : IsCovered nodes q.x q.y mine theirs) → IsUpToPair m t other.first other.second

-- the question asks for a read-write dependency and can meet, and these two accesses cover it, as the chains show
pub record IsCoveredBy (nodes : List Path) (q : QuestionNumbers) (mine theirs : Access) (m t : ℕ)
    (chains : List (List Node)) : Type 0 where
  pub asks : AsksReadWrite mine.kind theirs.kind
  pub can_meet : CanMeet mine theirs
  pub least : IsLeastCover nodes q mine theirs m t
  pub equal : ShowEqual (question_facts mine theirs) (key_pairs least.cover.of_first least.cover.of_second) chains
  pub shortest : All (IsShortest (question_facts mine theirs)) chains

-- ---- exposed

-- a sample's numbers for the first instance
abbrev pub mine_of : List Choice → Assignment
mine_of sample = record {
  parameter = λ i. sample_number sample (Mine i);
  unknown = λ i. sample_number sample (MineUnknown i);
}

-- a sample's numbers for the second instance
abbrev pub theirs_of : List Choice → Assignment
theirs_of sample = record {
  parameter = λ i. sample_number sample (Theirs i);
  unknown = λ i. sample_number sample (TheirsUnknown i);
}

-- the accesses meet under the sample, and no pair covers what may be a read-write dependency
pub record IsExposedBy (nodes : List Path) (q : QuestionNumbers) (mine theirs : Access)
    (sample : List Choice) : Type 0 where
  pub meets : MeetsUnder (mine_of sample) (theirs_of sample) mine theirs
  pub nearest : (n : Node) → IsSampled (question_facts mine theirs) n (sample_number sample n)
  pub uncovered : AsksReadWrite mine.kind theirs.kind → ¬ IsCovered nodes q.x q.y mine theirs

-- ---- the verdict

-- a verdict is right of the question between these two accesses
abbrev pub IsRightOf : List Path → QuestionNumbers → Access → Access → Verdict → Type 0
IsRightOf nodes q mine theirs (Apart chain) =
    ¬ CanMeet mine theirs × FallsShortest (question_facts mine theirs) chain
IsRightOf nodes q mine theirs (Covered m t chains) = IsCoveredBy nodes q mine theirs m t chains
IsRightOf nodes q mine theirs (Exposed sample) = IsExposedBy nodes q mine theirs sample

-- a verdict is right of a question of the paths
abbrev pub IsRight : List Path → QuestionNumbers → Verdict → Type 0
IsRight nodes q verdict =
    (mine theirs : Access) → AsksOf nodes q mine theirs → IsRightOf nodes q mine theirs verdict

-- ---- what a verdict says

-- the two accesses can meet
abbrev pub can_meet : Verdict → Bool
can_meet (Apart _) = false
can_meet (Covered _ _ _) = true
can_meet (Exposed _) = true

-- the question is exposed
abbrev pub is_exposed : Verdict → Bool
is_exposed (Apart _) = false
is_exposed (Covered _ _ _) = false
is_exposed (Exposed _) = true

-- ---- whether a question is exposed

-- it can meet, and is not covered where it asks for a read-write dependency
abbrev pub IsExposedQuestion : List Path → QuestionNumbers → Access → Access → Type 0
IsExposedQuestion nodes q mine theirs =
    CanMeet mine theirs × (AsksReadWrite mine.kind theirs.kind → ¬ IsCovered nodes q.x q.y mine theirs)

-- the answer says whether it is
abbrev pub TellsExposed : List Path → QuestionNumbers → Bool → Type 0
TellsExposed nodes q told =
    (mine theirs : Access) → AsksOf nodes q mine theirs → (told ≡ true) ↔ IsExposedQuestion nodes q mine theirs
