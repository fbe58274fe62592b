-- When one verdict serves two questions: their accesses are equal but for their places, and so are the covers of their
-- paths.
use Rattle.std.specs.Prelude.{◌≡◌, ℕ, ◌<◌, List, [], length, Option, Some, None, slice_get, slice_index_or, true}
use Rattle.prog_check.specs.declared.path.Access.{Access}
use Rattle.prog_check.specs.declared.path.Path.{Path}
use Rattle.prog_paths.specs.declared.accesses.places.Placed.{Placed}
use Rattle.prog_paths.specs.declared.accesses.questions.Question.{Question}
use Rattle.prog_paths.specs.Questions.{asks, question_between}
use Rattle.prog_paths.specs.Meeting.{MayCover}
use Rattle.prog_paths.specs.Places.{AreAlike, IsAt}
use Rattle.prog_paths.specs.StaticGraph.{IsAccessOf}
use Rattle.conflict_pairs.specs.declared.verdicts.Verdict.{Verdict}
use Rattle.conflict_pairs.specs.Search.{IsJudged}

-- ---- accesses

-- where one of two accesses may cover they are alike
abbrev pub CoverAlike : Access → Access → Type 0
CoverAlike a b = (MayCover a → AreAlike a b) × (MayCover b → AreAlike b a)

-- ---- paths

-- each access of the first list that may cover has one that is alike at its number in the second
abbrev pub CoversToo : List Access → List Access → Type 0
CoversToo xs ys = (k : ℕ) (a : Access) → slice_get xs k ≡ Some a → MayCover a
    → (b : Access) × (slice_get ys k ≡ Some b) × AreAlike a b

-- what may cover in two lists is alike
abbrev pub HaveSameCovers : List Access → List Access → Type 0
HaveSameCovers xs ys = CoversToo xs ys × CoversToo ys xs

abbrev pub accesses_in : Option Path → List Access
accesses_in None = []
accesses_in (Some path) = path.accesses

-- the accesses of a node
abbrev pub accesses_at : List Path → ℕ → List Access
accesses_at paths x = accesses_in (slice_get paths x)

-- each node has the number of one with the same covers
pub record AreCoverClasses (paths : List Path) (classes : List ℕ) : Type 0 where
  pub one_each : length classes ≡ length paths
  pub same : (x : ℕ) → x < length classes
      → HaveSameCovers (accesses_at paths x) (accesses_at paths (slice_index_or classes x 0))

-- ---- questions

-- the question is what an access of the paths asks of another
pub record IsAsked (paths : List Path) (q : Question) : Type 0 where
  pub first : Placed
  pub second : Placed
  pub at_first : IsAt paths first
  pub at_second : IsAt paths second
  pub asks_it : asks first second ≡ true
  pub is : q ≡ question_between first second

-- a node has an access of this number
abbrev pub HasAccess : List Path → ℕ → ℕ → Type 0
HasAccess paths x a = (access : Access) × IsAccessOf paths x a access

-- an access of one node and one of another are alike
pub record AreAlikeAt (paths : List Path) (x a y b : ℕ) : Type 0 where
  pub one : Access
  pub other : Access
  pub at_one : IsAccessOf paths x a one
  pub at_other : IsAccessOf paths y b other
  pub alike : AreAlike one other

-- they are, and so are the covers of the nodes
pub record IsLikeAt (paths : List Path) (x a y b : ℕ) : Type 0 where
  pub accesses : AreAlikeAt paths x a y b
  pub covers : HaveSameCovers (accesses_at paths x) (accesses_at paths y)

-- two questions are alike on both sides
abbrev pub IsLike : List Path → Question → Question → Type 0
IsLike paths q r = IsLikeAt paths q.x q.a r.x r.a × IsLikeAt paths q.y q.b r.y r.b

-- ---- verdicts

-- a verdict says what the facts say of a question's accesses
abbrev pub IsJudgedAt : List Path → Question → Verdict → Type 0
IsJudgedAt paths q verdict =
    (mine theirs : Access) → IsAccessOf paths q.x q.a mine → IsAccessOf paths q.y q.b theirs
    → IsJudged (accesses_at paths q.x) (accesses_at paths q.y) mine theirs verdict

-- a verdict says what the facts say of some question of the paths
pub record IsOnAsked (paths : List Path) (verdict : Verdict) : Type 0 where
  pub question : Question
  pub asked : IsAsked paths question
  pub judged : IsJudgedAt paths question verdict
