-- Which questions a list of paths asks, and of what.
use Rattle.std.specs.Prelude.{ℕ, List, [], ◌∷◌, ◌++◌, ◌⊎◌, All, Bool, true, false, ◌||◌, ◌&&◌, ◌==◌, nat_lt, nat_le, if◌then◌else◌}
use Rattle.prog_tree.specs.Syntax.{DraftTree}
use Rattle.prog_check.specs.Paths.{paths_of}
use Rattle.prog_check.specs.declared.path.Kind.{Kind}
use Rattle.prog_check.specs.declared.path.Kind.TheVariants.{Reads, Sees, Lacks, Writes, Adds}
use Rattle.prog_check.specs.declared.path.Access.{Access}
use Rattle.prog_check.specs.declared.path.Path.{Path}
use Rattle.prog_paths.specs.Meeting.{MayTouch, IsSingle}
use Rattle.prog_paths.specs.StaticGraph.{QuestionNumbers, AsksOf, AsksReadWrite, AsksWriteRead, AsksWriteWrite}
use Rattle.prog_paths.specs.declared.accesses.places.Placed.{Placed}
use Rattle.prog_paths.specs.Places.{all_from}
use Rattle.prog_paths.specs.declared.accesses.questions.Question.{Question}

-- what the kinds of two accesses ask: whether instances can have some dependency by them
abbrev pub Asks : QuestionNumbers → Kind → Kind → Type 0
Asks q mine theirs = AsksReadWrite mine theirs ⊎ AsksWriteRead mine theirs ⊎ AsksWriteWrite q mine theirs

-- a question of the paths: its two accesses are there, use one table, and ask something
pub record IsQuestion (nodes : List Path) (q : QuestionNumbers) : Type 0 where
  pub mine : Access
  pub theirs : Access
  pub asked : AsksOf nodes q mine theirs
  pub asks : Asks q mine.kind theirs.kind

-- what a path changes or keeps is one cell each time
abbrev pub ChangesSingleCells : Path → Type 0
ChangesSingleCells path = All (λ a. MayTouch a → IsSingle a) path.accesses

-- so it is on the paths of a draft, which may be asked for their pairs
abbrev pub LawOfSingleChanges : Type 0
LawOfSingleChanges = (draft : DraftTree) → All ChangesSingleCells (paths_of draft)

-- ---- a question between two paths

-- two paths as the nodes 0 and 1
abbrev pub two : Path → Path → List Path
two x y = x ∷ y ∷ []

-- access `a` of the first of two paths against access `b` of the second
abbrev pub between : ℕ → ℕ → QuestionNumbers
between a b = record { x = 0; a = a; y = 1; b = b }

-- ---- all questions of a list of paths

-- the first kind may miss what the second changes
abbrev pub asks_read_write : Kind → Kind → Bool
asks_read_write Reads Writes = true
asks_read_write Reads Adds = true
asks_read_write Lacks Adds = true
asks_read_write _ _ = false

-- the first kind may see what the second changes
abbrev pub asks_write_read : Kind → Kind → Bool
asks_write_read Reads Writes = true
asks_write_read Reads Adds = true
asks_write_read Sees Adds = true
asks_write_read _ _ = false

-- the second kind changes what the first depends on
abbrev pub kinds_depend : Kind → Kind → Bool
kinds_depend mine theirs = asks_read_write mine theirs || asks_write_read mine theirs

-- both kinds change plain rows
abbrev pub both_write : Kind → Kind → Bool
both_write Writes Writes = true
both_write _ _ = false

-- the first access stands at the second or before it, by node and then by number
abbrev pub is_in_order : Placed → Placed → Bool
is_in_order first second =
    nat_lt first.node second.node || ((first.node == second.node) && nat_le first.number second.number)

-- two accesses ask something: they use one table, and one depends on what the other changes, or both write
abbrev pub asks : Placed → Placed → Bool
asks first second =
    (first.access.table == second.access.table)
    && (kinds_depend first.access.kind second.access.kind
    || (both_write first.access.kind second.access.kind && is_in_order first second))

-- the question of an access against another
abbrev pub question_between : Placed → Placed → Question
question_between first second = record {
  x = first.node;
  a = first.number;
  y = second.node;
  b = second.number;
  mine = first.access.kind;
  theirs = second.access.kind;
}

-- what one access asks of each of some
abbrev pub asked_by : Placed → List Placed → List Question
asked_by first [] = []
asked_by first (second ∷ rest) =
    if asks first second then question_between first second ∷ asked_by first rest else asked_by first rest

-- what each of some accesses asks of each of others
abbrev pub asked_among : List Placed → List Placed → List Question
asked_among [] seconds = []
asked_among (first ∷ rest) seconds = asked_by first seconds ++ asked_among rest seconds

-- a question's four numbers
abbrev pub numbers_of : Question → QuestionNumbers
numbers_of q = record { x = q.x; a = q.a; y = q.y; b = q.b }

-- all questions of a list of paths, by the first access and then by the second
abbrev pub questions_of : List Path → List Question
questions_of paths = asked_among (all_from 0 paths) (all_from 0 paths)
