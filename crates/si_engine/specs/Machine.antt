-- The event machine.
use Rattle.std.specs.Prelude.{ℕ, ◌+◌, ℤ, min, nat_le, nat_lt, ◌==◌, Bool, false, true, not, ◌||◌, List, [], ◌∷◌, ◌++◌, length, Option, Some, None, is_none, slice_get, slice_set, if◌then◌else◌}
use Rattle.prog_tree.specs.declared.cell.Cell.{Cell}
use Rattle.prog_tree.specs.declared.deed.Deed.{Deed}
use Rattle.prog_tree.specs.declared.deed.End.{End}
use Rattle.prog_tree.specs.declared.deed.End.TheVariants as run
use Rattle.prog_tree.specs.Evaluation.{Evaluation}
use Rattle.prog_tree.specs.Syntax.{ProgramTree, DraftTree}
use Rattle.prog_tree.specs.Table.{TableState}
use Rattle.version_store.specs.Clash.{clash_of}
use Rattle.version_store.specs.Versions.{reclaimed}
use Rattle.history_book.specs.History.{Instance, evaluation, commits_of}
use Rattle.history_book.specs.View.{most_endings, most_begins}
use Rattle.si_engine.specs.declared.event.Event.{Event}
use Rattle.si_engine.specs.declared.event.Event.TheVariants as event
use Rattle.si_engine.specs.declared.event.Reply.{Reply}
use Rattle.si_engine.specs.declared.event.Reply.TheVariants as reply

-- an active instance: how many deeds it was stepped through, and whether a step answered that it is
-- ready
pub record Active : Type 0 where
  pub instance : Instance
  pub steps : ℕ
  pub ready : Bool

-- the commits; each instance that was begun, or none where it has ended; how many have left an
-- ending; and the floor of the last vacuum
pub record Machine : Type 0 where
  pub history : List Instance
  pub begun : List (Option Active)
  pub endings : ℕ
  pub floor : ℕ

abbrev pub new_machine : Machine
new_machine = record { history = []; begun = []; endings = 0; floor = 0 }

-- how many are active
abbrev pub active_of : List (Option Active) → ℕ
active_of [] = 0
active_of (Some a ∷ begun) = active_of begun + 1
active_of (None ∷ begun) = active_of begun

-- the least start of an active instance, or n where that is less
abbrev pub least_start : ℕ → List (Option Active) → ℕ
least_start n [] = n
least_start n (Some a ∷ begun) = min a.instance.start (least_start n begun)
least_start n (None ∷ begun) = least_start n begun

-- no begin can succeed
abbrev pub is_full : Machine → Bool
is_full s =
    nat_le most_endings (s.endings + active_of s.begun) || nat_le most_begins (length s.begun)

-- an instance before its first step
abbrev pub at_begin : Instance → Active
at_begin i = record { instance = i; steps = 0; ready = false }

-- what an instance answers where no deed is left, and how it is then; none where it has ended
abbrev pub at_end : End → List ℤ → Active → Reply × Option Active
at_end run.Ready replies a = (reply.Ready replies, Some (record a { ready = true }))
at_end (run.Aborted cause) replies a = (reply.Aborted cause, None)

-- the next deed, or the end
abbrev pub deed_or_end : Option Deed → Evaluation → Active → Reply × Option Active
deed_or_end (Some d) e a = (reply.Did d, Some (record a { steps = a.steps + 1 }))
deed_or_end None e a = at_end e.ending e.replies a

-- what an active instance answers to a step, and how it is then
abbrev pub stepped : Evaluation → Active → Reply × Option Active
stepped e a = deed_or_end (slice_get e.deeds a.steps) e a

-- the instance of a number is now so; where it ends, it leaves an ending or none
abbrev pub with_begun : Machine → ℕ → Option Active → (ends : Bool) → Machine
with_begun s i a ends =
    record s { begun = slice_set s.begun i a; endings = if ends then s.endings + 1 else s.endings }

abbrev pub if_active :
    Option (Option Active) → Machine → (Active → Reply × Machine) → Reply × Machine
if_active None s go = (reply.NoSuchInstance, s)
if_active (Some None) s go = (reply.Ended, s)
if_active (Some (Some a)) s go = go a

-- goes on with the active instance of a number, or refuses
abbrev pub with_active : Machine → ℕ → (Active → Reply × Machine) → Reply × Machine
with_active s i go = if_active (slice_get s.begun i) s go

-- an instance begins at a number, if there is room for it
abbrev pub admitted : Machine → (start program : ℕ) → List ℤ → Reply × Machine
admitted s start program args =
    let i : Instance = record { program = program; args = args; start = start } in
    if is_full s then (reply.Full, s)
    else
    (reply.Begun (length s.begun) start, record s { begun = s.begun ++ Some (at_begin i) ∷ [] })

-- a begin at the number of commits
abbrev pub begin_by : Option ProgramTree → Machine → (program : ℕ) → List ℤ → Reply × Machine
begin_by None s program args = (reply.NoSuchProgram, s)
begin_by (Some p) s program args =
    if not (length p.params == length args) then (reply.WrongArguments, s)
    else admitted s (length s.history) program args

-- a begin at a number: none below the floor of the last vacuum, and none above the number of commits
abbrev pub begin_at_by :
    Option ProgramTree → Machine → (start program : ℕ) → List ℤ → Reply × Machine
begin_at_by None s start program args = (reply.NoSuchProgram, s)
begin_at_by (Some p) s start program args =
    if not (length p.params == length args) then (reply.WrongArguments, s)
    else if nat_lt start s.floor then (reply.TooOld s.floor, s)
    else if nat_lt (length s.history) start then (reply.TooNew (length s.history), s)
    else admitted s start program args

-- the instance joins the history, or a commit above its start changed or kept a cell that it
-- changes or keeps
abbrev pub commit_by : Option (Cell × ℕ) → Machine → ℕ → Instance → Reply × Machine
commit_by (Some clash) s i instance =
    (reply.Clashed (record { cell = clash.0; number = clash.1 }), with_begun s i None true)
commit_by None s i instance =
    let t = with_begun s i None true in
    (reply.Committed (length s.history + 1), record t { history = s.history ++ instance ∷ [] })

module _ (set : DraftTree) (opening : TableState) where
  -- what an event answers, and the machine after it
  abbrev pub machine_step : Event → Machine → Reply × Machine
  machine_step (event.Begin program args) s =
      begin_by (slice_get set.programs program) s program args
  machine_step (event.BeginAt start program args) s =
      begin_at_by (slice_get set.programs program) s start program args
  machine_step (event.Step i) s = with_active s i (λ a.
      let r = stepped (evaluation set opening s.history a.instance) a in
      (r.0, with_begun s i r.1 (is_none r.1)))
  machine_step (event.Commit i) s = with_active s i (λ a.
      let e = evaluation set opening s.history a.instance in
      let clash = clash_of (commits_of set opening s.history) a.instance.start e.changes in
      if a.ready then commit_by clash s i a.instance else (reply.NotReady, s))
  machine_step (event.Abort i) s =
      with_active s i (λ a. (reply.Withdrawn, with_begun s i None false))
  machine_step event.Vacuum s =
      let floor = least_start (length s.history) s.begun in
      (reply.Vacuumed (reclaimed opening (commits_of set opening s.history) s.floor floor), record s { floor = floor })

  -- the replies to events, one after another, and the machine after them
  abbrev pub replies_of : List Event → Machine → List Reply
  replies_of [] s = []
  replies_of (e ∷ es) s = let r = machine_step e s in r.0 ∷ replies_of es r.1

  abbrev pub machine_after : List Event → Machine → Machine
  machine_after [] s = s
  machine_after (e ∷ es) s = machine_after es (machine_step e s).1
