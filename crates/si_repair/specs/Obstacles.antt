-- Why no keep covers a read, and, for private clauses, which statements of a program are ranges.
use Rattle.std.specs.Prelude.{◌≡◌, ℕ, Bool, true, false, List, [], ◌∷◌, ◌++◌, take, Contains, Option, Some, None, slice_get, slice_index_or}
use Rattle.std.specs.Option.{option_map_or}
use Rattle.prog_tree.specs.Syntax.{BlockTree, BlockEnd, Then, Branch, Each, ProgramTree, DraftTree}
use Rattle.prog_check.specs.declared.path.Access.{Access}
use Rattle.prog_check.specs.declared.path.Path.{Path}
use Rattle.prog_check.specs.Paths.{paths_of}
use Rattle.prog_check.specs.Uses.{as_count}
use Rattle.prog_paths.specs.StaticGraph.{IsAccessOf}
use Rattle.prog_paths.specs.declared.accesses.questions.Question.{Question}
use Rattle.repair_laws.specs.declared.plan.Pair.{Pair}
use Rattle.repair_laws.specs.Refusals.{is_range, HasRangeRead, HasUnknownKey, IsCoverable, IsRangeAt, MeetInBody, StopsAtBody, StopsAtKey}
use Rattle.si_repair.specs.Exposed.{AreExposed}
use Rattle.si_repair.specs.declared.repairs.fault.RepairFault.{RepairFault}
use Rattle.si_repair.specs.declared.repairs.fault.RepairFault.TheVariants as fault
use Rattle.si_repair.specs.declared.repairs.obstacles.Obstacle.{Obstacle}
use Rattle.si_repair.specs.declared.repairs.obstacles.Obstacle.TheVariants.{RangeRead, UnknownKey, BodyRead}

-- which reads of the pair no keep covers: a range comes before an unknown key, and that before an access in a body
abbrev pub IsObstacle : DraftTree → Pair → Option Obstacle → Type 0
IsObstacle draft pair None = IsCoverable draft pair
IsObstacle draft pair (Some RangeRead) = HasRangeRead draft pair
IsObstacle draft pair (Some UnknownKey) = StopsAtKey draft pair
IsObstacle draft pair (Some BodyRead) = StopsAtBody draft pair

-- no keep covers some exposed read of the pair, or memory is wanting
abbrev pub IsObstacleFault : DraftTree → Pair → RepairFault → Type 0
IsObstacleFault draft pair (fault.RangeRead p) = (p ≡ pair) × HasRangeRead draft pair
IsObstacleFault draft pair (fault.UnknownKey p) = (p ≡ pair) × StopsAtKey draft pair
IsObstacleFault draft pair (fault.BodyRead p) = (p ≡ pair) × StopsAtBody draft pair
IsObstacleFault draft pair (fault.TooMany p) = ⊥
IsObstacleFault draft pair fault.Memory = Unit {0}

-- ---- ranges

-- for each statement of a block in the order of the text, whether it is a range
abbrev pub range_list : BlockTree → List Bool
range_list BlockEnd = []
range_list (Then statement rest) = is_range statement ∷ range_list rest
range_list (Branch test a b rest) = false ∷ (range_list a ++ (range_list b ++ range_list rest))
range_list (Each l body rest) = is_range (as_count l) ∷ (range_list body ++ range_list rest)

-- the same for a program, where there is one
abbrev pub program_ranges : Option ProgramTree → List Bool
program_ranges program = option_map_or (λ (p : ProgramTree). range_list p.body) program []

-- the statement of this number is listed as one
abbrev pub IsRangeIn : List Bool → (number : ℕ) → Type 0
IsRangeIn ranges number = slice_index_or ranges number false ≡ true

-- ---- reads

-- What keeps a read from being promoted, with the access that it may miss: its statement is one of the program's
-- ranges, no parameters and numbers tell its key, or one of the two stands in the body of an `each`.
abbrev pub Hinders : Obstacle → (RangeAt : ℕ → Type 0) → (read other : Access) → Type 0
Hinders RangeRead RangeAt read other = RangeAt read.place
Hinders UnknownKey RangeAt read other = HasUnknownKey read
Hinders BodyRead RangeAt read other = MeetInBody read other

-- it keeps that of a question
pub record IsHindered (nodes : List Path) (RangeAt : ℕ → Type 0) (obstacle : Obstacle) (q : Question) : Type 0 where
  pub read : Access
  pub other : Access
  pub at_read : IsAccessOf nodes q.x q.a read
  pub at_other : IsAccessOf nodes q.y q.b other
  pub hinders : Hinders obstacle RangeAt read other

-- or that of some of these
abbrev pub HasHindered : List Path → (RangeAt : ℕ → Type 0) → Obstacle → List Question → Type 0
HasHindered nodes RangeAt obstacle questions =
    (q : Question) × Contains questions q × IsHindered nodes RangeAt obstacle q

-- the first of them that it keeps, or none
abbrev pub IsFirstHindered : List Path → (RangeAt : ℕ → Type 0) → Obstacle → List Question → Option Question → Type 0
IsFirstHindered nodes RangeAt obstacle questions None = ¬ HasHindered nodes RangeAt obstacle questions
IsFirstHindered nodes RangeAt obstacle questions (Some q) =
    (n : ℕ) × (slice_get questions n ≡ Some q) × IsHindered nodes RangeAt obstacle q
    × ¬ HasHindered nodes RangeAt obstacle (take n questions)

-- the same of the exposed questions of a pair
abbrev pub IsFirstHinderedOf : DraftTree → Pair → Obstacle → Option Question → Type 0
IsFirstHinderedOf draft pair obstacle found =
    (questions : List Question) × AreExposed (paths_of draft) pair questions
    × IsFirstHindered (paths_of draft) (IsRangeAt draft pair.from) obstacle questions found
