-- What the static graph of a set says about its lawful histories: each committed instance follows a node, each
-- dependency is an edge between the nodes that its instances follow, a concurrent read-write dependency is a
-- vulnerable edge, a cycle ends in two of these, and so it shows a dangerous structure.
use Rattle.std.specs.Prelude.{◌≡◌, ◌≢◌, ℕ, ℤ, ◌<◌, ◌≤◌, ◌⊎◌, ◌↔◌, true, List, [], ◌∷◌, ◌++◌, length, Some, slice_get}
use Rattle.prog_tree.specs.declared.cell.Cell.{Cell}
use Rattle.prog_tree.specs.Syntax.{DraftTree}
use Rattle.prog_tree.specs.Table.{TableState, HasI64Rows}
use Rattle.prog_check.specs.declared.path.Path.{Path}
use Rattle.prog_check.specs.Paths.{paths_of}
use Rattle.prog_check.specs.Sound.{IsSound}
use Rattle.prog_check.specs.Tables.{grows}
use Rattle.prog_paths.specs.Follows.{Changes, HasRow, Follows}
use Rattle.prog_paths.specs.Meeting.{Assignment, IsOfI64, MeetAsOwn}
use Rattle.prog_paths.specs.StaticGraph.{HasQuestion, HasReadWrite, HasWriteRead, AsksWriteWrite, IsVulnerable, IsDangerous}
use Rattle.history_book.specs.History.{Instance, IsLawful, nth_instance, state_after}
use Rattle.serial_orders.specs.Orders.{IsUpTo, IsCycle}
use Rattle.history_book.specs.Dependencies.{start_at, evaluation_at, read_write, depends}

-- a question that gives the edge x to y is met by runs under this pair of assignments, the first of x, the second of y
abbrev pub EdgeUnder : Assignment → Assignment → List Path → ℕ → ℕ → Type 0
EdgeUnder v w nodes x y =
    HasReadWrite (λ q a b. MeetAsOwn v w a b) nodes x y
    ⊎ HasWriteRead (λ q a b. MeetAsOwn w v a b) nodes y x
    ⊎ HasQuestion AsksWriteWrite (λ q a b. MeetAsOwn v w a b) nodes x y
    ⊎ HasQuestion AsksWriteWrite (λ q a b. MeetAsOwn w v a b) nodes y x

-- an instance of this number was committed
abbrev pub HasCommitted : List Instance → ℕ → Type 0
HasCommitted h = IsUpTo (length h)

-- neither of two instances saw the other's commit
abbrev pub AreConcurrent : List Instance → ℕ → ℕ → Type 0
AreConcurrent h i j = (start_at h i < j) × (start_at h j < i)

-- the table of this number is a grow table
abbrev pub Grows : DraftTree → ℕ → Type 0
Grows set n = grows (slice_get set.tables n) ≡ true

module _ (set : DraftTree) (opening : TableState) (h : List Instance) where
  -- the node that the instance of a number follows, and an assignment with its arguments that says what it did
  pub record FollowsNode (i : ℕ) : Type 0 where
    pub instance : Instance
    pub at : nth_instance h i ≡ Some instance
    pub node : ℕ
    pub path : Path
    pub path_at : slice_get (paths_of set) node ≡ Some path
    pub program : path.program ≡ instance.program
    pub v : Assignment
    pub arguments : (k : ℕ) (x : ℤ) → slice_get instance.args k ≡ Some x → v.parameter k ≡ x
    pub of_i64 : IsOfI64 v
    pub follows : Follows (state_after set opening h (start_at h i)) path v (evaluation_at set opening h i)

  -- a lawful history of a sound set, from rows of i64
  pub record IsHistory : Type 0 where
    pub sound : IsSound set
    pub opening_rows : HasI64Rows opening
    pub lawful : IsLawful set opening h

  -- two instances, neither of which saw the other's commit: the first looked
  -- at a cell that the second changed
  pub record Misses (i j : ℕ) : Type 0 where
    pub other : i ≢ j
    pub concurrent : AreConcurrent h i j
    pub missed : read_write set opening h i j ≡ true

  -- of the last two numbers of a cycle each missed a change: the first that of the second, and the
  -- second that of c
  pub record EndsInMisses (numbers : List ℕ) (c : ℕ) : Type 0 where
    pub front : List ℕ
    pub a : ℕ
    pub b : ℕ
    pub last_two : numbers ≡ front ++ a ∷ b ∷ []
    pub earlier : Misses a b
    pub last : Misses b c

  -- the instance of a number changed the cell
  abbrev pub HasChanged : ℕ → Cell → Type 0
  HasChanged i cell = Changes (evaluation_at set opening h i).changes cell

-- each committed instance follows a node
abbrev pub LawOfNodes : Type 0
LawOfNodes =
    (set : DraftTree) (opening : TableState) (h : List Instance) → IsHistory set opening h
    → (i : ℕ) → HasCommitted h i → FollowsNode set opening h i

-- a row of a grow table that an instance inserts is there from its commit on, and at no time before
abbrev pub LawOfInserts : Type 0
LawOfInserts =
    (set : DraftTree) (opening : TableState) (h : List Instance) → IsHistory set opening h
    → (j : ℕ) (cell : Cell) → HasCommitted h j → Grows set cell.table → HasChanged set opening h j cell
    → (n : ℕ) → n ≤ length h → HasRow (state_after set opening h n) cell ↔ (j ≤ n)

-- no two instances insert the same row of a grow table
abbrev pub LawOfSingleInserts : Type 0
LawOfSingleInserts =
    (set : DraftTree) (opening : TableState) (h : List Instance) → IsHistory set opening h
    → (i j : ℕ) (cell : Cell) → HasCommitted h i → HasCommitted h j → Grows set cell.table
    → HasChanged set opening h i cell → HasChanged set opening h j cell → i ≡ j

-- each dependency has a question of its edge that meets under the assignments followed, whichever those are
abbrev pub LawOfStaticEdges : Type 0
LawOfStaticEdges =
    (set : DraftTree) (opening : TableState) (h : List Instance) → IsHistory set opening h
    → (i j : ℕ) → HasCommitted h i → HasCommitted h j → depends set opening h i j ≡ true
    → (mine : FollowsNode set opening h i) (theirs : FollowsNode set opening h j)
    → EdgeUnder mine.v theirs.v (paths_of set) mine.node theirs.node

-- a read-write dependency between concurrent instances is a vulnerable edge
abbrev pub LawOfVulnerableEdges : Type 0
LawOfVulnerableEdges =
    (set : DraftTree) (opening : TableState) (h : List Instance) → IsHistory set opening h
    → (i j : ℕ) → HasCommitted h i → HasCommitted h j → i ≢ j → AreConcurrent h i j
    → read_write set opening h i j ≡ true
    → (mine : FollowsNode set opening h i) (theirs : FollowsNode set opening h j)
    → IsVulnerable (paths_of set) mine.node theirs.node

-- the last step of a cycle of dependencies, which goes to its least commit, and the step before it
-- are read-write dependencies between concurrent instances
abbrev pub LawOfLastSteps : Type 0
LawOfLastSteps =
    (set : DraftTree) (opening : TableState) (h : List Instance) → IsLawful set opening h
    → (numbers : List ℕ) (cycle : IsCycle (depends set opening h) numbers)
    → EndsInMisses set opening h numbers cycle.first

-- a cycle of dependencies shows a dangerous structure
abbrev pub LawOfCycles : Type 0
LawOfCycles =
    (set : DraftTree) (opening : TableState) (h : List Instance) → IsHistory set opening h
    → (numbers : List ℕ) → IsCycle (depends set opening h) numbers → IsDangerous (paths_of set)

-- a set without a dangerous structure has no lawful history with a cycle of dependencies
abbrev pub LawOfSafeSets : Type 0
LawOfSafeSets =
    (set : DraftTree) (opening : TableState) (h : List Instance) → ¬ IsDangerous (paths_of set)
    → IsHistory set opening h → (numbers : List ℕ) → ¬ IsCycle (depends set opening h) numbers
