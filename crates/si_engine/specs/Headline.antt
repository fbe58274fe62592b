-- The headline: what comes of any events on a robust set.
use Rattle.std.specs.Prelude.{◌≡◌, ◌↔◌, ℕ, ℤ, true, List, [], ◌∷◌, length, Option, Some, None, slice_get}
use Rattle.std.specs.List.{Contains, flat_map, zip}
use Rattle.prog_tree.specs.declared.deed.End.TheVariants.{Ready}
use Rattle.prog_tree.specs.ChangeSet.{changed}
use Rattle.prog_tree.specs.Evaluation.{Evaluation}
use Rattle.prog_tree.specs.Syntax.{DraftTree}
use Rattle.prog_tree.specs.Table.{TableState}
use Rattle.history_book.specs.Dependencies.{depends}
use Rattle.history_book.specs.History.{nth_item, eval_found, state_after}
use Rattle.serial_orders.specs.Orders.{least_order}
use Rattle.history_book.specs.Serial.{is_each_once}
use Rattle.si_engine.specs.declared.event.Event.{Event}
use Rattle.si_engine.specs.declared.event.Event.TheVariants as event
use Rattle.si_engine.specs.declared.event.Reply.{Reply}
use Rattle.si_engine.specs.declared.event.Reply.TheVariants as reply
use Rattle.si_engine.specs.declared.robust.run.Outcome.{Outcome}
use Rattle.si_engine.specs.Machine.{Machine, new_machine, replies_of, machine_after}

-- ---- what events were answered

-- an event, and what it was answered
abbrev pub Exchange : Type 0
Exchange = Event × Reply

-- a program by its number, and its arguments: what a begin asks for
pub record Call : Type 0 where
  pub program : ℕ
  pub args : List ℤ

-- what an event that begins an instance asks for
abbrev pub call_in : Event → Option Call
call_in (event.Begin program args) = Some (record { program = program; args = args })
call_in (event.BeginAt start program args) = Some (record { program = program; args = args })
call_in event = None

module _ (said : List Exchange) where
  -- the instance of a number was begun by this call
  abbrev pub IsBegunBy : (instance : ℕ) → Call → Type 0
  IsBegunBy instance call =
      (begin : Event) × (start : ℕ)
      × (call_in begin ≡ Some call) × Contains said (begin, reply.Begun instance start)

  -- it was told that it is ready with these replies, and never with others
  pub record IsReadyWith (instance : ℕ) (replies : List ℤ) : Type 0 where
    pub told : Contains said (event.Step instance, reply.Ready replies)
    pub never_others : (others : List ℤ) → Contains said (event.Step instance, reply.Ready others) → others ≡ replies

  -- it was told that its commit has this number
  abbrev pub IsCommittedAs : (instance number : ℕ) → Type 0
  IsCommittedAs instance number = Contains said (event.Commit instance, reply.Committed number)

-- ---- one instance after another

-- what a call does on a table state
abbrev pub run_of : DraftTree → Call → TableState → Evaluation
run_of set call m = eval_found (slice_get set.programs call.program) set.tables call.args m

-- the instance of a commit number
abbrev pub committed_at : List ℕ → (number : ℕ) → Option ℕ
committed_at committed number = nth_item committed number

-- the commit of a number is of an instance that this call began, and that was ready with these replies
pub record IsCommitOf (said : List Exchange) (committed : List ℕ) (n : ℕ) (call : Call) (replies : List ℤ) : Type 0 where
  pub instance : ℕ
  pub at : committed_at committed n ≡ Some instance
  pub begun : IsBegunBy said instance call
  pub ready : IsReadyWith said instance replies

module _ (set : DraftTree) (said : List Exchange) (committed : List ℕ) (table : TableState) where
  -- from a state, the commits of these numbers one after another, each on what the one before left: each ends ready,
  -- with the replies that its instance was told; the last one leaves the table
  abbrev pub RunsAlong : (order : List ℕ) → TableState → Type 0
  RunsAlong [] m = m ≡ table
  RunsAlong (n ∷ ns) m =
      (call : Call) × (let e = run_of set call m in
      (e.ending ≡ Ready) × IsCommitOf said committed n call e.replies × RunsAlong ns (changed m e.changes.cells))

-- ---- the whole

-- the rows of the machine after its last commit
abbrev pub rows_of_machine : DraftTree → TableState → Machine → TableState
rows_of_machine set opening s = state_after set opening s.history (length s.history)

-- The replies are the event machine's, and the table is its. Each commit number has the instance that was told it.
-- The order has each commit number once, and a serial run along it, from the opening rows, gives each instance the
-- replies that it was told, and leaves the table.
pub record Headline (set : DraftTree) (opening : TableState) (events : List Event) (o : Outcome) : Type 0 where
  pub replies : o.replies ≡ replies_of set opening events new_machine
  pub committed :
      (number instance : ℕ) → (committed_at o.committed number ≡ Some instance)
      ↔ IsCommittedAs (zip events o.replies) instance number
  pub once : is_each_once (length o.committed) o.order ≡ true
  pub serial : RunsAlong set (zip events o.replies) o.committed o.table o.order opening
  pub table : o.table ≡ rows_of_machine set opening (machine_after set opening events new_machine)

-- the order is the least serial order of what the machine committed
abbrev pub IsLeastOrdered : DraftTree → TableState → List Event → Outcome → Type 0
IsLeastOrdered set opening events o =
    let h = (machine_after set opening events new_machine).history in
    least_order (depends set opening h) (length h) ≡ Some o.order

-- ---- the instances that committed

-- the instance of an exchange that is a commit
abbrev pub commit_in : Exchange → List ℕ
commit_in (event.Commit instance, reply.Committed number) = instance ∷ []
commit_in exchange = []

-- the instances of all commits, in their order
abbrev pub commits_said : List Exchange → List ℕ
commits_said said = flat_map commit_in said
