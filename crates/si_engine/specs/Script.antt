-- What a script says: its rows and its events, or its first fault.
use Rattle.std.specs.Prelude.{ℕ, ◌+◌, nat_lt, ◌==◌, not, Bool, List, [], ◌∷◌, length, fold, replicate, Option, Some, None, Result, if◌then◌else◌}
use Rattle.std.specs.List.{flat_map}
use Rattle.prog_tree.specs.Syntax.{DraftTree}
use Rattle.prog_tree.specs.Table.{TableState, row_at, with_row}
use Rattle.si_engine.specs.declared.input.command.Command.{Command}
use Rattle.si_engine.specs.declared.input.command.Command.TheVariants as says
use Rattle.si_engine.specs.declared.event.Event.{Event}
use Rattle.si_engine.specs.declared.event.Event.TheVariants.{Step}
use Rattle.si_engine.specs.declared.input.script.Script.{Script}
use Rattle.si_engine.specs.declared.input.line_fault.LineFault.{LineFault}
use Rattle.si_engine.specs.declared.input.line_fault.LineFault.TheVariants.{TooManyEvents}
use Rattle.si_engine.specs.declared.input.part_fault.PartFault.{PartFault}
use Rattle.si_engine.specs.Commands.{line_command}
use Rattle.si_engine.specs.Limits.{most_events}
use Rattle.si_engine.specs.RowLines.{row_fault}
use Rattle.si_engine.specs.Sayings.{made_of, IsPart, IsPartFault}

-- the row of a command, among others
abbrev pub with_row_of : TableState → Command → TableState
with_row_of rows (says.Row row) = with_row rows row.cell row.value
with_row_of rows command = rows

-- the rows of commands
abbrev pub rows_of : List Command → TableState
rows_of commands = fold with_row_of [] commands

-- the events of a command
abbrev pub events_in : Command → List Event
events_in (says.Event event) = event ∷ []
events_in (says.Steps instance times) = replicate times (Step instance)
events_in command = []

-- the events of commands, in their order
abbrev pub events_of : List Command → List Event
events_of commands = flat_map events_in commands

-- so many events more are too many
abbrev pub room_fault : (line : ℕ) → List Event → (more : ℕ) → Option LineFault
room_fault line events more = if nat_lt most_events (length events + more) then Some (TooManyEvents line) else None

-- there are events
abbrev pub is_begun : List Event → Bool
is_begun events = not (length events == 0)

-- what is wrong with a command behind these rows and events, or nothing
abbrev pub order_fault : (line : ℕ) → TableState → List Event → Command → Option LineFault
order_fault line rows events says.Skip = None
order_fault line rows events (says.Row row) = row_fault line (is_begun events) (row_at rows row.cell)
order_fault line rows events (says.Event event) = room_fault line events 1
order_fault line rows events (says.Steps instance times) = room_fault line events times

-- the same behind commands
abbrev pub fault_behind : (line : ℕ) → List Command → Command → Option LineFault
fault_behind line before command = order_fault line (rows_of before) (events_of before) command

-- the rows and events of commands
abbrev pub script_with : List Command → Script
script_with commands = record { rows = rows_of commands; events = events_of commands }

-- the script that the commands of all lines of a part make, or the first fault
abbrev pub script_of : DraftTree → List ℕ → Result Script LineFault
script_of draft part = made_of (line_command draft) fault_behind script_with part

-- the bytes are a script without a fault
abbrev pub IsScript : DraftTree → List ℕ → Script → Type 0
IsScript draft part script = IsPart (script_of draft part) part script

-- the bytes are no script without a fault, and this is the first; want of memory says nothing of them
abbrev pub IsScriptFault : DraftTree → List ℕ → PartFault → Type 0
IsScriptFault draft part f = IsPartFault (script_of draft part) part f
