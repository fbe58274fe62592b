-- Worked examples of the event machine, computed from the definitions.
use Rattle.std.proofs.Common.{◌≡◌, [], ◌∷◌, ◌++◌, refl, false}
use Rattle.std.specs.Prelude.{ℕ, ℤ, pos, negsuc, codes, List, length, Some, None}
use Rattle.prog_tree.specs.declared.cell.Cell.{Cell}
use Rattle.prog_tree.specs.declared.cell.Region.{Region}
use Rattle.prog_tree.specs.declared.deed.Cause.TheVariants as cause
use Rattle.prog_tree.specs.declared.deed.Deed.TheVariants as deed
use Rattle.prog_tree.specs.Table.{TableState}
use Rattle.prog_tree.specs.declared.table.Arity.TheVariants as arity
use Rattle.prog_tree.specs.Syntax.{Literal, Named, Plus, KeyTree, One, BlockTree, BlockEnd, Then, Each, ProgramTree, DraftTree}
use Rattle.prog_tree.specs.Syntax as s
use Rattle.history_book.specs.History.{eval_of, state_after}
use Rattle.si_engine.specs.Machine.{new_machine, machine_step, replies_of, machine_after}
use Rattle.si_engine.specs.declared.event.Event.{Event}
use Rattle.si_engine.specs.declared.event.Event.TheVariants.{Begin, BeginAt, Step, Commit, Abort, Vacuum}
use Rattle.si_engine.specs.declared.event.Reply.TheVariants as reply

abbrev pub cell : ℤ → Cell
cell k = record { table = 0; first = k; second = pos 0 }

abbrev pub key : List ℕ → KeyTree
key name = One (Named name)

abbrev pub set_of : List ProgramTree → DraftTree
set_of programs = record { tables = record { name = codes "t"; arity = arity.One; grow = false } ∷ []; programs = programs }

-- ---- the register set

abbrev pub registers : DraftTree
registers = set_of (
    -- let x = get t[k] else -1; reply x;
    record {
      name = codes "Look";
      params = codes "k" ∷ [];
      body = Then (s.Get (codes "x") (codes "t") (key (codes "k")) (Literal (negsuc 0))) (Then (s.Reply (Named (codes "x"))) BlockEnd);
    }
    -- put t[k] = v;
    ∷ record { name = codes "Set"; params = codes "k" ∷ codes "v" ∷ []; body = Then (s.Put (codes "t") (key (codes "k")) (Named (codes "v"))) BlockEnd }
    -- delete t[k];
    ∷ record { name = codes "Cut"; params = codes "k" ∷ []; body = Then (s.Delete (codes "t") (key (codes "k"))) BlockEnd }
    ∷ [])

-- a look at an absent cell
abbrev look_events : List Event
look_events = Begin 0 (pos 7 ∷ []) ∷ Step 0 ∷ Step 0 ∷ Commit 0 ∷ []

pub look : replies_of registers [] look_events new_machine
    ≡ reply.Begun 0 0 ∷ reply.Did (deed.Read (cell (pos 7)) None) ∷ reply.Ready (negsuc 0 ∷ []) ∷ reply.Committed 1 ∷ []
unfolding eval_of
look = refl

-- a write commits between a look's begin and its first step, and the look does not see it
abbrev pub snapshot_events : List Event
snapshot_events =
    Begin 0 (pos 1 ∷ []) ∷ Begin 1 (pos 1 ∷ pos 5 ∷ []) ∷ Step 1 ∷ Step 1 ∷ Commit 1 ∷ Step 0 ∷ Step 0 ∷ Commit 0 ∷ []

pub snapshot : replies_of registers [] snapshot_events new_machine
    ≡ reply.Begun 0 0 ∷ reply.Begun 1 0 ∷ reply.Did (deed.Put (cell (pos 1)) (pos 5)) ∷ reply.Ready [] ∷ reply.Committed 1
    ∷ reply.Did (deed.Read (cell (pos 1)) None) ∷ reply.Ready (negsuc 0 ∷ []) ∷ reply.Committed 2 ∷ []
unfolding eval_of
snapshot = refl

pub snapshot_rows : let h = (machine_after registers [] snapshot_events new_machine).history in
    state_after registers [] h (length h) ≡ (cell (pos 1), pos 5) ∷ []
unfolding eval_of
snapshot_rows = refl

-- two writes of one cell: the first committer wins
abbrev clash_events : List Event
clash_events =
    Begin 1 (pos 1 ∷ pos 5 ∷ []) ∷ Begin 1 (pos 1 ∷ pos 6 ∷ []) ∷ Step 0 ∷ Step 1 ∷ Commit 1 ∷ Step 0 ∷ Step 1 ∷ Commit 0 ∷ Commit 1 ∷ Step 1
    ∷ Commit 2 ∷ Begin 1 [] ∷ Begin 3 [] ∷ []

pub clash : replies_of registers [] clash_events new_machine
    ≡ reply.Begun 0 0 ∷ reply.Begun 1 0 ∷ reply.Did (deed.Put (cell (pos 1)) (pos 5)) ∷ reply.Did (deed.Put (cell (pos 1)) (pos 6)) ∷ reply.NotReady
    ∷ reply.Ready [] ∷ reply.Ready [] ∷ reply.Committed 1 ∷ reply.Clashed (record { cell = cell (pos 1); number = 1 }) ∷ reply.Ended
    ∷ reply.NoSuchInstance ∷ reply.WrongArguments ∷ reply.NoSuchProgram ∷ []
unfolding eval_of
clash = refl

-- an old look holds the floor at its start, and sees what it saw
abbrev zero_row : TableState
zero_row = (cell (pos 1), pos 0) ∷ []

abbrev events_before_vacuum : List Event
events_before_vacuum =
    Begin 1 (pos 1 ∷ pos 1 ∷ []) ∷ Step 0 ∷ Step 0 ∷ Commit 0 ∷ Begin 0 (pos 1 ∷ []) ∷ Begin 1 (pos 1 ∷ pos 2 ∷ []) ∷ Step 2 ∷ Step 2 ∷ Commit 2
    ∷ Begin 1 (pos 1 ∷ pos 3 ∷ []) ∷ Step 3 ∷ Step 3 ∷ Commit 3 ∷ []

abbrev vacuum_events : List Event
vacuum_events = events_before_vacuum ++ Vacuum ∷ []

-- then the look goes on, and ends
abbrev look_goes_on : List Event
look_goes_on = Step 1 ∷ Step 1 ∷ Commit 1 ∷ Vacuum ∷ Begin 2 (pos 1 ∷ []) ∷ Step 4 ∷ Step 4 ∷ Commit 4 ∷ Vacuum ∷ []

pub vacuum_floor : (machine_after registers zero_row vacuum_events new_machine).floor ≡ 1
unfolding eval_of
vacuum_floor = refl

pub first_vacuum : (machine_step registers zero_row Vacuum (machine_after registers zero_row events_before_vacuum new_machine)).0 ≡ reply.Vacuumed 1
unfolding eval_of
first_vacuum = refl

pub vacuum : replies_of registers zero_row look_goes_on (machine_after registers zero_row vacuum_events new_machine)
    ≡ reply.Did (deed.Read (cell (pos 1)) (Some (pos 1))) ∷ reply.Ready (pos 1 ∷ []) ∷ reply.Committed 4 ∷ reply.Vacuumed 2
    ∷ reply.Begun 4 4 ∷ reply.Did (deed.Removed (cell (pos 1))) ∷ reply.Ready [] ∷ reply.Committed 5 ∷ reply.Vacuumed 2 ∷ []
unfolding eval_of
vacuum = refl

pub vacuum_ends : let m = machine_after registers zero_row (vacuum_events ++ look_goes_on) new_machine in
    (m.floor ≡ 5) × (state_after registers zero_row m.history (length m.history) ≡ [])
unfolding eval_of
vacuum_ends = (refl, refl)

-- a look at an older number sees what stood then, and commits last; there are not so many commits as 3; and what a
-- vacuum gave up can't be named any more
abbrev older_events : List Event
older_events =
    Begin 1 (pos 1 ∷ pos 5 ∷ []) ∷ Step 0 ∷ Step 0 ∷ Commit 0 ∷ BeginAt 0 0 (pos 1 ∷ []) ∷ Step 1 ∷ Step 1 ∷ Commit 1
    ∷ BeginAt 3 0 (pos 1 ∷ []) ∷ Vacuum ∷ BeginAt 0 0 (pos 1 ∷ []) ∷ []

pub older : replies_of registers zero_row older_events new_machine
    ≡ reply.Begun 0 0 ∷ reply.Did (deed.Put (cell (pos 1)) (pos 5)) ∷ reply.Ready [] ∷ reply.Committed 1
    ∷ reply.Begun 1 0 ∷ reply.Did (deed.Read (cell (pos 1)) (Some (pos 0))) ∷ reply.Ready (pos 0 ∷ []) ∷ reply.Committed 2
    ∷ reply.TooNew 2 ∷ reply.Vacuumed 1 ∷ reply.TooOld 2 ∷ []
unfolding eval_of
older = refl

-- a write as of an older number clashes with the commit that it does not see
abbrev older_write_events : List Event
older_write_events =
    Begin 1 (pos 1 ∷ pos 5 ∷ []) ∷ Step 0 ∷ Step 0 ∷ Commit 0 ∷ BeginAt 0 1 (pos 1 ∷ pos 6 ∷ []) ∷ Step 1 ∷ Step 1 ∷ Commit 1 ∷ []

pub older_write : replies_of registers [] older_write_events new_machine
    ≡ reply.Begun 0 0 ∷ reply.Did (deed.Put (cell (pos 1)) (pos 5)) ∷ reply.Ready [] ∷ reply.Committed 1
    ∷ reply.Begun 1 0 ∷ reply.Did (deed.Put (cell (pos 1)) (pos 6)) ∷ reply.Ready []
    ∷ reply.Clashed (record { cell = cell (pos 1); number = 1 }) ∷ []
unfolding eval_of
older_write = refl

-- an instance that began later at an older number holds the floor there; what refuses a begin comes in its order
abbrev oldest_events : List Event
oldest_events =
    Begin 1 (pos 1 ∷ pos 5 ∷ []) ∷ Step 0 ∷ Step 0 ∷ Commit 0 ∷ Begin 0 (pos 1 ∷ []) ∷ BeginAt 0 0 (pos 1 ∷ []) ∷ Vacuum ∷ Abort 2 ∷ Vacuum
    ∷ BeginAt 1 0 (pos 1 ∷ []) ∷ BeginAt 2 3 [] ∷ BeginAt 2 0 [] ∷ BeginAt 0 0 (pos 1 ∷ []) ∷ BeginAt 2 0 (pos 1 ∷ []) ∷ []

pub oldest : replies_of registers zero_row oldest_events new_machine
    ≡ reply.Begun 0 0 ∷ reply.Did (deed.Put (cell (pos 1)) (pos 5)) ∷ reply.Ready [] ∷ reply.Committed 1
    ∷ reply.Begun 1 1 ∷ reply.Begun 2 0 ∷ reply.Vacuumed 0 ∷ reply.Withdrawn ∷ reply.Vacuumed 1
    ∷ reply.Begun 3 1 ∷ reply.NoSuchProgram ∷ reply.WrongArguments ∷ reply.TooOld 1 ∷ reply.TooNew 1 ∷ []
unfolding eval_of
oldest = refl

-- ---- the overflow set

abbrev overflows : DraftTree
overflows = set_of (
    -- let s = sum t[1..2]; reply s;
    record {
      name = codes "Total";
      params = [];
      body = Then (s.Sum (codes "s") (codes "t") (s.OneRange (Literal (pos 1)) (Literal (pos 2)))) (Then (s.Reply (Named (codes "s"))) BlockEnd);
    }
    -- if v < 0 { abort; } else { put t[9] = v; }
    ∷ record {
      name = codes "Maybe";
      params = codes "v" ∷ [];
      body = s.Branch ((record { negated = false; left = Named (codes "v"); relation = s.Less; right = Literal (pos 0) } ∷ []) ∷ []) (Then s.Abort BlockEnd) (Then (s.Put (codes "t") (One (Literal (pos 9))) (Named (codes "v"))) BlockEnd) BlockEnd;
    }
    ∷ [])

abbrev two_rows : TableState
two_rows = (cell (pos 1), pos 9223372036854775807) ∷ (cell (pos 2), pos 1) ∷ []

-- an overflow, an abort that is asked for, each refusal of an event, and a withdrawal, which leaves no ending
abbrev refused_events : List Event
refused_events =
    Begin 0 [] ∷ Step 0 ∷ Step 0 ∷ Begin 1 (negsuc 0 ∷ []) ∷ Commit 1 ∷ Step 1 ∷ Begin 1 [] ∷ Begin 1 (pos 4 ∷ []) ∷ Abort 2 ∷ Commit 2 ∷ Step 5 ∷ Vacuum ∷ []

pub every_refusal : replies_of overflows two_rows refused_events new_machine
    ≡ reply.Begun 0 0 ∷ reply.Aborted cause.Overflow ∷ reply.Ended ∷ reply.Begun 1 0 ∷ reply.NotReady ∷ reply.Aborted cause.Asked
    ∷ reply.WrongArguments ∷ reply.Begun 2 0 ∷ reply.Withdrawn ∷ reply.Ended ∷ reply.NoSuchInstance ∷ reply.Vacuumed 0 ∷ []
unfolding eval_of
every_refusal = refl

pub endings_left : (machine_after overflows two_rows refused_events new_machine).endings ≡ 2
unfolding eval_of
endings_left = refl

-- ---- the pay-each set

abbrev pays : DraftTree
pays = set_of (
    -- each k, x in t[1..3] { put t[k] = x + v; }
    record {
      name = codes "Pay";
      params = codes "v" ∷ [];
      body =
          Each (record { key = codes "k"; value = codes "x"; table = codes "t"; range = s.OneRange (Literal (pos 1)) (Literal (pos 3)) })
          (Then (s.Put (codes "t") (key (codes "k")) (Plus (Named (codes "x")) (Named (codes "v")))) BlockEnd) BlockEnd;
    }
    ∷ [])

abbrev paid_rows : TableState
paid_rows = (cell (pos 1), pos 5) ∷ (cell (pos 3), pos 7) ∷ []

-- the listing of two rows is a step, and each turn's write is one
abbrev pay_events : List Event
pay_events = Begin 0 (pos 2 ∷ []) ∷ Step 0 ∷ Step 0 ∷ Step 0 ∷ Step 0 ∷ Commit 0 ∷ []

abbrev one_to_three : Region
one_to_three = record { table = 0; first_low = pos 1; first_high = pos 3; second_low = pos 0; second_high = pos 0 }

pub pay : replies_of pays paid_rows pay_events new_machine
    ≡ reply.Begun 0 0 ∷ reply.Did (deed.Listed one_to_three 2) ∷ reply.Did (deed.Put (cell (pos 1)) (pos 7))
    ∷ reply.Did (deed.Put (cell (pos 3)) (pos 9)) ∷ reply.Ready [] ∷ reply.Committed 1 ∷ []
unfolding eval_of
pay = refl

pub pay_rows : let h = (machine_after pays paid_rows pay_events new_machine).history in
    state_after pays paid_rows h (length h) ≡ (cell (pos 1), pos 7) ∷ (cell (pos 3), pos 9) ∷ []
unfolding eval_of
pay_rows = refl
