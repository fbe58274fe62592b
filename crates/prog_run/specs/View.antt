-- What contracts see of a run.
use Rattle.std.specs.Prelude.{◌≡◌, ℤ, ◌==◌, List, [], ◌∷◌, ◌++◌, Option, Some, None, Result, Ok, Err, IfSome, option_map, take, length, if◌then◌else◌}
use Rattle.std.specs.List.{list_all}
use Rattle.std.specs.Option.{option_or}
use Rattle.prog_tree.specs.declared.cell.Cell.{Cell}
use Rattle.prog_tree.specs.declared.cell.Region.{Region}
use Rattle.prog_tree.specs.declared.deed.Deed.{Deed}
use Rattle.prog_tree.specs.declared.deed.End.{End}
use Rattle.prog_tree.specs.declared.look.Look.{Look}
use Rattle.prog_tree.specs.declared.look.Look.TheVariants.{One}
use Rattle.prog_tree.specs.declared.program.Program.{Program}
use Rattle.prog_tree.specs.declared.progress.Progress.{Progress}
use Rattle.prog_tree.specs.declared.table.TableDecl.{TableDecl}
use Rattle.prog_tree.specs.ChangeSet.{ChangeSet, no_changes, change_at}
use Rattle.prog_tree.specs.Syntax.{ProgramTree}
use Rattle.prog_tree.specs.Table.{is_in, TableState}
use Rattle.prog_tree.specs.Evaluation.{Evaluation, as_evaluation, ended, eval}
use Rattle.prog_tree.specs.Tree.{program_tree}
use Rattle.prog_run.specs.Todo.{CursorTree, todo}
use Rattle.prog_run.specs.Task.{asked_tree}
use Rattle.prog_run.specs.Looks.{AreFound, question_of, region_look}
use Rattle.prog_run.specs.Cursor.{BeginsWith}
use Rattle.prog_run.specs.Step.{IsAt, deeds_after, changes_after, question_after, end_after}
use Rattle.prog_run.specs.declared.fault.AnswerFault.{AnswerFault}
use Rattle.prog_run.specs.declared.fault.AnswerFault.TheVariants.{NotAsked, BadRows, Memory}
use Rattle.prog_run.specs.declared.fault.RunFault.{RunFault}
use Rattle.prog_run.specs.declared.fault.RunFault.TheVariants.{NoSuchProgram, WrongArguments}
use Rattle.prog_run.specs.declared.fault.RunFault.TheVariants as b
use Rattle.prog_run.specs.declared.next.Next.{Next}
use Rattle.prog_run.specs.declared.next.Next.TheVariants.{Get, Scan, Done}
use Rattle.prog_run.specs.declared.task.Asked.{Asked}

-- a run: what it was begun with, what it has done, what it waits for, and how it ended
pub record RunView : Type 0 where
  pub tables : List TableDecl
  pub program : Program
  pub args : List ℤ
  pub deeds : List Deed
  pub replies : List ℤ
  pub changes : ChangeSet
  pub looks : List Look
  pub asked : Option Next
  pub end : Option End

-- what the program does on a table state
abbrev pub meaning : RunView → TableState → Evaluation
meaning v m = eval v.tables (program_tree v.program) v.args m

-- what the run came to, with this ending
abbrev pub result_of : End → RunView → Evaluation
result_of end v = record { ending = end; deeds = v.deeds; replies = v.replies; changes = v.changes; looks = v.looks }

-- On a table state that holds what its looks found, the run does what the program means: its deeds and its replies are
-- the first of the program's, and at its end all is the program's.
pub record IsTrueAt (v : RunView) (m : TableState) : Type 0 where
  pub deeds : take (length v.deeds) (meaning v m).deeds ≡ v.deeds
  pub replies : take (length v.replies) (meaning v m).replies ≡ v.replies
  pub ending : (end : End) → v.end ≡ Some end → result_of end v ≡ meaning v m

-- this holds on every such table state
abbrev pub IsTrueRun : RunView → Type 0
IsTrueRun v = (m : TableState) → AreFound m v.looks → IsTrueAt v m

-- what a run that waits or is over answers to each call
abbrev pub standing_next : RunView → Option Next
standing_next v = option_or v.asked (option_map (λ end. Done end) v.end)

-- it has the same program, tables and arguments
pub record SameBegin (old new : RunView) : Type 0 where
  pub tables : new.tables ≡ old.tables
  pub program : new.program ≡ old.program
  pub args : new.args ≡ old.args

-- A step without an answer has no look. One that finishes a statement finishes just one, and changes what its deed
-- tells. Replies only come behind those before.
pub record IsAdvance (next : Next) (old new : RunView) : Type 0 where
  pub deeds : new.deeds ≡ deeds_after next old.deeds
  pub changes : new.changes ≡ changes_after next old.changes
  pub replies : BeginsWith old.replies new.replies
  pub looks : new.looks ≡ old.looks
  pub asked : new.asked ≡ question_after next
  pub end : new.end ≡ end_after next

-- an answer adds its look, and finishes the statement or the run; it makes no reply
pub record IsAnswered (look : Look) (next : Next) (old new : RunView) : Type 0 where
  pub deeds : new.deeds ≡ deeds_after next old.deeds
  pub changes : new.changes ≡ changes_after next old.changes
  pub replies : new.replies ≡ old.replies
  pub looks : new.looks ≡ old.looks ++ look ∷ []
  pub asked : new.asked ≡ None
  pub finished : question_after next ≡ None
  pub end : new.end ≡ end_after next

-- the cell that the run asks for
abbrev pub asked_cell : Option Next → Option Cell
asked_cell (Some (Get cell)) = Some cell
asked_cell _ = None

-- the region that the run asks for
abbrev pub asked_region : Option Next → Option Region
asked_region (Some (Scan region)) = Some region
asked_region _ = None

-- the cell that the run asked for was answered with what it holds
abbrev pub IsHeldAnswered : Option ℤ → Next → (old new : RunView) → Type 0
IsHeldAnswered held next old new = IfSome (asked_cell old.asked) (λ cell. IsAnswered (One cell held) next old new)

-- the region that the run asked for was answered with its rows
abbrev pub IsRowsAnswered : TableState → Next → (old new : RunView) → Type 0
IsRowsAnswered rows next old new =
    IfSome (asked_region old.asked) (λ region. IsAnswered (region_look old.changes region rows) next old new)

-- the cell that the run asks for is one that it has not changed
abbrev pub AsksUnchanged : Next → RunView → Type 0
AsksUnchanged next v = (cell : Cell) → next ≡ Get cell → change_at v.changes cell ≡ None

-- what is wrong with an answer about a cell
abbrev pub get_fault : Option Cell → Option AnswerFault
get_fault (Some cell) = None
get_fault None = Some NotAsked

-- what is wrong with an answer of rows
abbrev pub scan_fault : Option Region → TableState → Option AnswerFault
scan_fault (Some region) rows = if list_all (λ row. is_in region row.0) rows then None else Some BadRows
scan_fault None rows = Some NotAsked

-- what is wrong with a begin
abbrev pub begin_fault : Option Program → List ℤ → Option RunFault
begin_fault (Some program) args = if length program.params.items == length args then None else Some WrongArguments
begin_fault None args = Some NoSuchProgram

-- The answer is refused by just this fault. Want of memory comes where there is none.
abbrev pub IsRefusedBy : {X : Type 0} → Option AnswerFault → Result X AnswerFault → Type 0
IsRefusedBy fault (Ok x) = fault ≡ None
IsRefusedBy fault (Err Memory) = fault ≡ None
IsRefusedBy fault (Err found) = fault ≡ Some found

-- A begin, likewise.
abbrev pub IsRunRefusedBy : {X : Type 0} → Option RunFault → Result X RunFault → Type 0
IsRunRefusedBy fault (Ok x) = fault ≡ None
IsRunRefusedBy fault (Err b.Memory) = fault ≡ None
IsRunRefusedBy fault (Err found) = fault ≡ Some found

-- a run before its first statement
abbrev pub begun : List TableDecl → Program → List ℤ → RunView
begun tables program args =
    record { tables = tables; program = program; args = args; deeds = []; replies = []; changes = no_changes; looks = []; asked = None; end = None }

-- what the run will have come to: its end, or what is left
abbrev pub comes_to : List TableDecl → TableState → Option End → CursorTree → Progress → Evaluation
comes_to tables m (Some end) c p = as_evaluation end p
comes_to tables m None c p = ended (todo tables m c p)

-- on every table state that holds what the looks found, the run comes to what the program means there
abbrev pub IsTrueTo : List TableDecl → ProgramTree → List ℤ → Option End → CursorTree → Progress → Type 0
IsTrueTo tables program args over c p =
    (m : TableState) → AreFound m p.looks → comes_to tables m over c p ≡ eval tables program args m

-- the question that waits, as a caller sees it
abbrev pub question_in : Option Asked → Option Next
question_in = option_map (λ asked. question_of (asked_tree asked))

-- a look that waits is that of the next statement, and the run is not over
abbrev pub IsWaiting : List TableDecl → Option Asked → Option End → CursorTree → Progress → Type 0
IsWaiting tables waits over c p =
    (asked : Asked) → waits ≡ Some asked → (over ≡ None) × IsAt tables (asked_tree asked) c p
