-- What contracts see of an engine, and what its fields keep.
use Rattle.std.specs.Prelude.{◌≡◌, ℕ, ◌+◌, ◌≤◌, Bool, true, false, List, [], ◌∷◌, length, map, Option, Some, None, option_map, slice_get, Result, IfOk, OnErr}
use Rattle.std.specs.declared.alloc.AllocError.{AllocError}
use Rattle.prog_tree.specs.declared.deed.End.TheVariants.{Ready}
use Rattle.prog_tree.specs.declared.program.Draft.{Draft}
use Rattle.prog_tree.specs.Table.{TableState}
use Rattle.prog_tree.specs.Tree.{draft_tree}
use Rattle.prog_run.specs.View.{IsTrueRun}
use Rattle.history_book.specs.History.{Instance}
use Rattle.history_book.specs.Runs.{IsOwnRun, IsCommitted, IsClashed, ended_in}
use Rattle.history_book.specs.View.{BookView, history_of, active_at}
use Rattle.history_book.specs.declared.fault.BeginFault.{BeginFault}
use Rattle.history_book.specs.declared.fault.BeginFault.TheVariants as fault
use Rattle.history_book.specs.declared.instances.row.Ending.{Ending}
use Rattle.si_engine.specs.Machine.{Active, Machine, machine_step}
use Rattle.si_engine.specs.declared.active.ActiveRun.{ActiveRun}
use Rattle.si_engine.specs.declared.event.Event.{Event}
use Rattle.si_engine.specs.declared.event.Reply.{Reply}
use Rattle.si_engine.specs.declared.event.Reply.TheVariants as reply

pub record EngineView : Type 0 where
  pub set : Draft
  pub opening : TableState
  pub machine : Machine

-- ---- the machine of an engine

-- the instance of a run
abbrev pub instance_in : ActiveRun → Instance
instance_in a = record { program = a.program; args = a.run.value.args; start = a.ticket.start }

-- how far it has come
abbrev pub active_in : ActiveRun → Active
active_in a = record { instance = instance_in a; steps = length a.run.value.deeds; ready = a.ready }

-- each instance that was begun, or none where it has ended
abbrev pub begun_of : List (Option ActiveRun) → List (Option Active)
begun_of = map (option_map active_in)

abbrev pub machine_of : BookView → List (Option ActiveRun) → Machine
machine_of v runs =
    record {
      history = history_of v.rows;
      begun = begun_of runs;
      endings = length v.endings;
      floor = v.floor;
    }

-- ---- what holds of an active instance

-- the instance of a number: its ticket has the number, its run is one of it, and it has answered
-- that it is ready only where its run is
pub record IsHeld (v : BookView) (number : ℕ) (a : ActiveRun) : Type 0 where
  pub place : a.ticket.number ≡ number
  pub start : a.ticket.start ≤ length v.rows
  pub own : IsOwnRun v (instance_in a) a.run.value
  pub is_true : IsTrueRun a.run.value
  pub ready : a.ready ≡ true → a.run.value.end ≡ Some Ready

-- the book has it among its active instances
pub record IsActive (v : BookView) (a : ActiveRun) : Type 0 where
  pub active : active_at v a.ticket ≡ Some (instance_in a)
  pub held : IsHeld v a.ticket.number a

-- ---- what an engine keeps

-- the active instances with their numbers, of which the first is this
abbrev pub numbered : ℕ → List (Option Active) → List (ℕ × Instance)
numbered number [] = []
numbered number (Some a ∷ begun) = (number, a.instance) ∷ numbered (number + 1) begun
numbered number (None ∷ begun) = numbered (number + 1) begun

-- as many were begun as in the book, the same are active, and each is held at its place
pub record IsEngine (v : BookView) (runs : List (Option ActiveRun)) : Type 0 where
  pub counted : length runs ≡ v.begun
  pub active : v.active ≡ numbered 0 (begun_of runs)
  pub held :
      (number : ℕ) → (a : ActiveRun) → slice_get runs number ≡ Some (Some a) → IsHeld v number a

-- ---- what an event leaves

-- the set and the opening rows are as before
abbrev pub StaysOver : (old new : EngineView) → Type 0
StaysOver old new = (new.set ≡ old.set) × (new.opening ≡ old.opening)

-- the reply and the machine after it are those of the event machine
abbrev pub IsAnswerTo : Event → (old new : EngineView) → Reply → Type 0
IsAnswerTo event old new reply =
    (reply, new.machine) ≡ machine_step (draft_tree old.set) old.opening event old.machine

-- what is answered to a begin that the book refuses; want of memory is no answer
abbrev pub answer_to : BeginFault → Option Reply
answer_to fault.NoSuchProgram = Some reply.NoSuchProgram
answer_to fault.WrongArguments = Some reply.WrongArguments
answer_to (fault.TooOld floor) = Some (reply.TooOld floor)
answer_to (fault.TooNew commits) = Some (reply.TooNew commits)
answer_to fault.Full = Some reply.Full
answer_to fault.Memory = None

-- what is answered of the place of a number where no active instance stands
abbrev pub answer_without : Option (Option ActiveRun) → Option Reply
answer_without None = Some reply.NoSuchInstance
answer_without (Some None) = Some reply.Ended
answer_without (Some (Some active)) = None

-- a reply that takes memory: more is kept of an instance or in the book, or replies are given out
abbrev pub takes_memory : Reply → Bool
takes_memory (reply.Begun instance start) = true
takes_memory (reply.Did deed) = true
takes_memory (reply.Ready replies) = true
takes_memory (reply.Aborted cause) = true
takes_memory (reply.Committed number) = true
takes_memory (reply.Clashed clash) = true
takes_memory _ = false

-- the event machine's reply to an event takes memory
abbrev pub MayLackMemory : Event → EngineView → Type 0
MayLackMemory event v = takes_memory (machine_step (draft_tree v.set) v.opening event v.machine).0 ≡ true

-- an event was applied, and answered as the event machine answers it; or memory ran out, where the
-- reply takes some, and nothing has changed
pub record Applies (event : Event) (old new : EngineView) (result : Result Reply AllocError) : Type 0 where
  pub over : StaysOver old new
  pub step : IfOk result (IsAnswerTo event old new)
  pub err : OnErr result (new ≡ old)
  pub memory : OnErr result (MayLackMemory event old)

-- ---- what a call on an active instance leaves

-- after a step it is held as it was, and the book is the same; or it has left the book, with an
-- ending
abbrev pub IsAfterStep : (old new : BookView) → ActiveRun → Option ActiveRun → Type 0
IsAfterStep old new a (Some b) =
    (new ≡ old) × IsHeld old a.ticket.number b × (instance_in b ≡ instance_in a)
IsAfterStep old new a None = (ending : Ending) × (new ≡ ended_in old a.ticket.number ending)

-- it has committed or clashed, as is answered
abbrev pub IsCommitReply : (old new : BookView) → ActiveRun → Reply → Type 0
IsCommitReply old new a (reply.Committed number) = IsCommitted old new a.ticket a.run.value number
IsCommitReply old new a (reply.Clashed clash) = IsClashed old new a.ticket a.run.value clash
IsCommitReply old new a _ = ⊥
