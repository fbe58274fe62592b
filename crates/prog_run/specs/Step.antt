-- A step of a run at the store.
use Rattle.std.specs.Prelude.{◌≡◌, ℕ, List, [], ◌∷◌, ◌++◌, length, Option, Some, None}
use Rattle.prog_tree.specs.declared.cell.Region.{Region}
use Rattle.prog_tree.specs.declared.deed.Deed.{Deed}
use Rattle.prog_tree.specs.declared.deed.End.{End}
use Rattle.prog_tree.specs.declared.progress.Progress.{Progress}
use Rattle.prog_tree.specs.declared.table.TableDecl.{TableDecl}
use Rattle.prog_tree.specs.Syntax.{BlockTree, BlockEnd, Then, Branch, Each}
use Rattle.prog_tree.specs.ChangeSet.{ChangeSet}
use Rattle.prog_tree.specs.Table.{TableState}
use Rattle.prog_tree.specs.Evaluation.{turns_of, as_evaluation, ended}
use Rattle.prog_run.specs.Todo.{CursorTree, listed, with_rest, todo}
use Rattle.prog_run.specs.Cursor.{BeginsWith, KeepsStore}
use Rattle.prog_run.specs.Task.{RegionUseTree, Lists, AskedTree, Ask, asked_tree, next_task, rows_flow}
use Rattle.prog_run.specs.Statement.{changes_with, IsFlow}
use Rattle.prog_run.specs.Looks.{AreFound, FoundBefore, asked_by, question_of}
use Rattle.prog_run.specs.declared.next.Next.{Next}
use Rattle.prog_run.specs.declared.next.Next.TheVariants.{Get, Scan, Did, Done}
use Rattle.prog_run.specs.declared.next.Step.{Step}
use Rattle.prog_run.specs.declared.next.Step.TheVariants as step
use Rattle.prog_run.specs.declared.task.Asked.{Asked}
use Rattle.prog_run.specs.declared.task.Asked.TheVariants as asked

-- what a run answers to its caller where it asks
abbrev pub next_asking : Asked → Next
next_asking asked = question_of (asked_tree asked)

-- what a run answers to its caller where a step comes to this
abbrev pub next_of : Step → Next
next_of (step.Asks asked) = next_asking asked
next_of (step.Did deed) = Did deed
next_of (step.Over end) = Done end

-- what waits for an answer after a step
abbrev pub asked_after : Step → Option Asked
asked_after (step.Asks asked) = Some asked
asked_after _ = None

-- what the run asks after a step
abbrev pub question_after : Next → Option Next
question_after (Get cell) = Some (Get cell)
question_after (Scan region) = Some (Scan region)
question_after _ = None

-- the deeds after a step
abbrev pub deeds_after : Next → List Deed → List Deed
deeds_after (Did deed) deeds = deeds ++ deed ∷ []
deeds_after _ deeds = deeds

-- the changes after a step
abbrev pub changes_after : Next → ChangeSet → ChangeSet
changes_after (Did deed) changes = changes_with deed changes
changes_after _ changes = changes

-- the end after a step, if it was the last
abbrev pub end_after : Next → Option End
end_after (Done end) = Some end
end_after _ = None

-- the rest of a block behind its first statement
abbrev pub rest_after : BlockTree → BlockTree
rest_after BlockEnd = BlockEnd
rest_after (Then statement rest) = rest
rest_after (Branch test a b rest) = rest
rest_after (Each l body rest) = rest

-- the cursor goes on after a statement that is done
abbrev pub cursor_after : Step → CursorTree → CursorTree
cursor_after (step.Did deed) c = with_rest (rest_after c.here.rest) c
cursor_after _ c = c

-- the cursor goes on once these rows are seen: before the turns of an `each`, or after a count or a sum that is done
abbrev pub cursor_behind : RegionUseTree → TableState → (names : ℕ) → Step → CursorTree → CursorTree
cursor_behind (Lists l body) rows names n c =
    listed (record { key = l.key; value = l.value; body = body; left = turns_of l.range rows }) names (rest_after c.here.rest) c
cursor_behind usage rows names n c = cursor_after n c

-- these rows were used: what was to be done with them was done, and the cursor goes on
pub record IsUsed (usage : RegionUseTree) (region : Region) (rows : TableState) (n : Step)
    (c : CursorTree) (p : Progress) (d : CursorTree) (q : Progress) : Type 0 where
  pub flow : IsFlow (rows_flow usage region rows p) n p q
  pub cursor : d ≡ cursor_behind usage rows (length p.env) n c

-- what is left is the same, on each table state that holds what the looks found
abbrev pub GoesTo : List TableDecl → CursorTree → Progress → CursorTree → Progress → Type 0
GoesTo tables c p d q = (m : TableState) → AreFound m q.looks → todo tables m d q ≡ todo tables m c p

-- the run ends so, on each such state
abbrev pub EndsAs : List TableDecl → End → CursorTree → Progress → Progress → Type 0
EndsAs tables end c p q = (m : TableState) → AreFound m q.looks → ended (todo tables m c p) ≡ as_evaluation end q

-- the run stands before a statement whose task is this look, at nothing that it has changed
abbrev pub IsAt : List TableDecl → AskedTree → CursorTree → Progress → Type 0
IsAt tables asked c p =
    (next_task tables c.here.rest p.env ≡ Some (Ask asked))
    × (asked_by p.changes (Ask asked) ≡ Some (question_of asked))

-- a step that comes to a question, a deed or the end
abbrev pub IsStep : List TableDecl → Step → CursorTree → Progress → CursorTree → Progress → Type 0
-- nothing is done at the store
IsStep tables (step.Asks asked) c p d q =
    GoesTo tables c p d q × FoundBefore p q × KeepsStore p q × IsAt tables (asked_tree asked) d q
IsStep tables (step.Did deed) c p d q =
    GoesTo tables c p d q × FoundBefore p q × (q.deeds ≡ p.deeds ++ deed ∷ [])
    × (q.changes ≡ changes_with deed p.changes) × BeginsWith p.replies q.replies
IsStep tables (step.Over end) c p d q =
    EndsAs tables end c p q × FoundBefore p q × (q.deeds ≡ p.deeds) × (q.changes ≡ p.changes)
    × BeginsWith p.replies q.replies
