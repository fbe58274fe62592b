-- Questions, static dependency edges, vulnerable edges, and dangerous structures over the committing paths of a set.
use Rattle.std.specs.Prelude.{◌≡◌, ℕ, List, [], ◌∷◌, ◌<◌, ◌≤◌, ◌⊎◌, All, slice_get, Some}
use Rattle.prog_check.specs.declared.path.Kind.{Kind}
use Rattle.prog_check.specs.declared.path.Kind.TheVariants.{Reads, Sees, Lacks, Writes, Adds}
use Rattle.prog_check.specs.declared.path.Access.{Access}
use Rattle.prog_check.specs.declared.path.Path.{Path}
use Rattle.prog_paths.specs.Meeting.{Assignment, MayCover, AreSameCell, MeetsUnder, CanMeet}

-- ---- before, by one number and then by another

-- the first two numbers stand before the second two, by the first number and then by the second
abbrev pub Precedes : ℕ → ℕ → ℕ → ℕ → Type 0
Precedes a b c d = (a < c) ⊎ ((a ≡ c) × (b < d))

-- they stand before them, or are the same
abbrev pub IsUpToPair : ℕ → ℕ → ℕ → ℕ → Type 0
IsUpToPair a b c d = (a < c) ⊎ ((a ≡ c) × (b ≤ d))

-- each stands before all that follow
abbrev pub Rises : {A : Type 0} → (A → A → Type 0) → List A → Type 0
Rises IsBefore [] = Unit {0}
Rises IsBefore (x ∷ rest) = All (IsBefore x) rest × Rises IsBefore rest

-- ---- questions

-- access `a` of node `x`, which is a place in the list of paths, is this access
abbrev pub IsAccessOf : List Path → ℕ → ℕ → Access → Type 0
IsAccessOf nodes x a access =
    (path : Path) × (slice_get nodes x ≡ Some path) × (slice_get path.accesses a ≡ Some access)

-- access `a` of node `x` against access `b` of node `y`
pub record QuestionNumbers : Type 0 where
  pub x : ℕ
  pub a : ℕ
  pub y : ℕ
  pub b : ℕ

-- what the first access does not see, the second changes: a read-write dependency, first to second
abbrev pub AsksReadWrite : Kind → Kind → Type 0
AsksReadWrite a b = ((a ≡ Reads) × ((b ≡ Writes) ⊎ (b ≡ Adds))) ⊎ ((a ≡ Lacks) × (b ≡ Adds))

-- what the second changes, the first sees: a write-read dependency, second to first
abbrev pub AsksWriteRead : Kind → Kind → Type 0
AsksWriteRead a b = ((a ≡ Reads) × ((b ≡ Writes) ⊎ (b ≡ Adds))) ⊎ ((a ≡ Sees) × (b ≡ Adds))

-- the first access stands at the second or before it, by node and then by number
abbrev pub IsInOrder : QuestionNumbers → Type 0
IsInOrder q = IsUpToPair q.x q.a q.y q.b

-- both change a cell: a write-write dependency, either way; such a pair is asked once
abbrev pub AsksWriteWrite : QuestionNumbers → Kind → Kind → Type 0
AsksWriteWrite q a b = (a ≡ Writes) × (b ≡ Writes) × IsInOrder q

-- the two accesses that a question asks about, which use one table
pub record AsksOf (nodes : List Path) (q : QuestionNumbers) (mine theirs : Access) : Type 0 where
  pub at_mine : IsAccessOf nodes q.x q.a mine
  pub at_theirs : IsAccessOf nodes q.y q.b theirs
  pub table : mine.table ≡ theirs.table

-- a question of node x against node y, of these kinds, whose accesses are P
pub record HasQuestion (asks : QuestionNumbers → Kind → Kind → Type 0) (P : QuestionNumbers → Access → Access → Type 0)
    (nodes : List Path) (x y : ℕ) : Type 0 where
  pub question : QuestionNumbers
  pub from : question.x ≡ x
  pub to : question.y ≡ y
  pub mine : Access
  pub theirs : Access
  pub asked : AsksOf nodes question mine theirs
  pub kinds : asks question mine.kind theirs.kind
  pub holds : P question mine theirs

-- a question for a read-write dependency
abbrev pub HasReadWrite : (QuestionNumbers → Access → Access → Type 0) → List Path → ℕ → ℕ → Type 0
HasReadWrite = HasQuestion (λ q. AsksReadWrite)

-- a question for a write-read dependency
abbrev pub HasWriteRead : (QuestionNumbers → Access → Access → Type 0) → List Path → ℕ → ℕ → Type 0
HasWriteRead = HasQuestion (λ q. AsksWriteRead)

-- ---- edges

-- the edges that the questions with P give
abbrev pub EdgeOf : (QuestionNumbers → Access → Access → Type 0) → List Path → ℕ → ℕ → Type 0
EdgeOf P nodes x y =
    HasReadWrite P nodes x y ⊎ HasWriteRead P nodes y x
    ⊎ HasQuestion AsksWriteWrite P nodes x y ⊎ HasQuestion AsksWriteWrite P nodes y x

-- instances of x and y can have a dependency, x before y
abbrev pub StaticEdge : List Path → ℕ → ℕ → Type 0
StaticEdge = EdgeOf (λ q mine theirs. CanMeet mine theirs)

-- a pair of accesses, one of x and one of y, that change or keep the same single cell wherever the question meets
pub record IsCovered (nodes : List Path) (x y : ℕ) (mine theirs : Access) : Type 0 where
  pub first : ℕ
  pub second : ℕ
  pub of_first : Access
  pub of_second : Access
  pub at_first : IsAccessOf nodes x first of_first
  pub at_second : IsAccessOf nodes y second of_second
  pub first_covers : MayCover of_first
  pub second_covers : MayCover of_second
  pub same : (v w : Assignment) → MeetsUnder v w mine theirs → AreSameCell v of_first w of_second

-- the question whether a read-write dependency is possible is not covered, and can meet
abbrev pub IsExposed : List Path → QuestionNumbers → Access → Access → Type 0
IsExposed nodes q mine theirs = CanMeet mine theirs × (IsCovered nodes q.x q.y mine theirs → ⊥)

-- instances of x and y can be concurrent with a read-write dependency
abbrev pub IsVulnerable : List Path → ℕ → ℕ → Type 0
IsVulnerable nodes x y = HasReadWrite (IsExposed nodes) nodes x y

-- ---- dangerous structures

-- a walk along edges, of no step or more
pub data Leads (edge : ℕ → ℕ → Type 0) : ℕ → ℕ → Type 0 where
  here : {x : ℕ} → Leads edge x x
  onward : {x y z : ℕ} → edge x y → Leads edge y z → Leads edge x z

-- two vulnerable edges in a row, and a way back
pub record IsDangerousAt (edge vulnerable : ℕ → ℕ → Type 0) (x y z : ℕ) : Type 0 where
  pub first : vulnerable x y
  pub second : vulnerable y z
  pub back : Leads edge z x

abbrev pub IsDangerous : List Path → Type 0
IsDangerous nodes = (x : ℕ) × (y : ℕ) × (z : ℕ) × IsDangerousAt (StaticEdge nodes) (IsVulnerable nodes) x y z

-- ---- which of several is told

-- the one list of nodes is the other, or stands before it in node order
abbrev pub IsAtMost : List ℕ → List ℕ → Type 0
IsAtMost [] others = Unit {0}
IsAtMost (x ∷ xs) [] = ⊥
IsAtMost (x ∷ xs) (y ∷ ys) = (x < y) ⊎ ((x ≡ y) × IsAtMost xs ys)
