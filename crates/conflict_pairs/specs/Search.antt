-- What the search for a verdict finds, over the facts alone.
use Rattle.std.specs.Prelude.{◌≡◌, ◌≤◌, ℕ, List, length, All, Option, None, Some, slice_get}
use Rattle.order_facts.specs.declared.steps.Node.{Node}
use Rattle.order_facts.specs.declared.steps.Fact.{Fact}
use Rattle.order_facts.specs.Chain.{IsConsistent, IsValuationOfI64, Meets}
use Rattle.order_facts.specs.Sample.{sample_number, valuation_of, IsSampled}
use Rattle.prog_check.specs.declared.path.Kind.{Kind}
use Rattle.prog_paths.specs.StaticGraph.{AsksReadWrite}
use Rattle.prog_check.specs.declared.path.Access.{Access}
use Rattle.prog_paths.specs.Facts.{question_facts}
use Rattle.conflict_pairs.specs.Verdicts.{IsFall, FallsShortest, IsShortest}
use Rattle.conflict_pairs.specs.declared.verdicts.Verdict.{Verdict}
use Rattle.conflict_pairs.specs.declared.verdicts.Verdict.TheVariants.{Apart, Covered, Exposed}
use Rattle.prog_paths.specs.Shown.{Falls, Runs, ShowEqual, key_pairs, CoversAt, CoversFirst}

-- ---- apart

-- some chain of the facts runs from the first node to the second, which are numbers that fall
pub record FallsBetween (facts : List Fact) (from to : Node) : Type 0 where
  pub fall : IsFall from to
  pub chain : List Node
  pub runs : Runs facts from to chain

-- a chain was found, of at most so many nodes
abbrev pub FoundWithin : Option (List Node) → ℕ → Type 0
FoundWithin None count = ⊥
FoundWithin (Some chain) count = length chain ≤ count

-- a chain of two nodes falls
pub record FallsAtOnce (facts : List Fact) (chain : List Node) : Type 0 where
  pub falls : Falls facts chain
  pub two : length chain ≡ 2

-- ---- covered

-- such a pair is found for a question that asks for a read-write dependency and can meet
pub record IsCoverFound (facts : List Fact) (mine theirs : Kind) (xs ys : List Access)
    (m t : ℕ) : Type 0 where
  pub consistent : IsConsistent facts
  pub asks : AsksReadWrite mine theirs
  pub first : CoversFirst facts xs ys m t

-- where such a question can meet there is none
abbrev pub IsNoCover : List Fact → Kind → Kind → List Access → List Access → Type 0
IsNoCover facts mine theirs xs ys =
    IsConsistent facts → AsksReadWrite mine theirs → (m t : ℕ) → ¬ CoversAt facts xs ys m t

-- the facts of two accesses can be met, and nothing in their lists covers by them
abbrev pub IsLeftOpen : List Access → List Access → Access → Access → Type 0
IsLeftOpen xs ys mine theirs =
    IsConsistent (question_facts mine theirs)
    × IsNoCover (question_facts mine theirs) mine.kind theirs.kind xs ys

-- what the facts say where nothing covers: a chain falls, or they are met by the sample, and not covered
abbrev pub IsUncovered : List Fact → Verdict → Type 0
IsUncovered facts (Apart chain) = FallsShortest facts chain
IsUncovered facts (Covered m t chains) = ⊥
IsUncovered facts (Exposed sample) =
    (IsValuationOfI64 (valuation_of sample) × Meets (valuation_of sample) facts)
    × ((n : Node) → IsSampled facts n (sample_number sample n))

-- the chains show that the two accesses at these places have one cell
abbrev pub ShowEqualAt : List Fact → List Access → List Access → ℕ → ℕ → List (List Node) → Type 0
ShowEqualAt facts xs ys m t chains =
    (mine theirs : Access) → slice_get xs m ≡ Some mine → slice_get ys t ≡ Some theirs
    → ShowEqual facts (key_pairs mine theirs) chains

-- the verdict says what the facts say of two accesses of two paths
abbrev pub IsJudged : List Access → List Access → Access → Access → Verdict → Type 0
IsJudged xs ys mine theirs (Apart chain) = IsUncovered (question_facts mine theirs) (Apart chain)
IsJudged xs ys mine theirs (Covered m t chains) =
    IsCoverFound (question_facts mine theirs) mine.kind theirs.kind xs ys m t
    × ShowEqualAt (question_facts mine theirs) xs ys m t chains
    × All (IsShortest (question_facts mine theirs)) chains
IsJudged xs ys mine theirs (Exposed sample) =
    IsUncovered (question_facts mine theirs) (Exposed sample)
    × IsNoCover (question_facts mine theirs) mine.kind theirs.kind xs ys
