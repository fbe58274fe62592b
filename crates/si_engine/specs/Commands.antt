-- What a line of a script says.
use Rattle.std.specs.Prelude.{ℕ, List, [], ◌∷◌, Option, Result, Ok, Err, codes, bytes_eq, option_map, option_and_then, if◌then◌else◌}
use Rattle.std.specs.Option.{ok_or}
use Rattle.prog_tree.specs.Syntax.{DraftTree}
use Rattle.prog_check.specs.Faults.{program_names}
use Rattle.si_engine.specs.declared.input.command.ProgramCall.{ProgramCall}
use Rattle.si_engine.specs.declared.input.command.Command.{Command}
use Rattle.si_engine.specs.declared.input.command.Command.TheVariants as says
use Rattle.si_engine.specs.declared.event.Event.TheVariants.{Begin, BeginAt, Commit, Abort, Vacuum}
use Rattle.si_engine.specs.declared.input.line_fault.LineFault.{LineFault}
use Rattle.si_engine.specs.declared.input.line_fault.LineFault.TheVariants.{BadLine, UnknownName}
use Rattle.si_engine.specs.Limits.{greatest_instance, most_steps}
use Rattle.si_engine.specs.Lines.{is_skipped, words_of}
use Rattle.si_engine.specs.Names.{number_named}
use Rattle.si_engine.specs.Numbers.{numbers_of, number_between, u64_of}
use Rattle.si_engine.specs.LineFaults.{◌>>=◌}
use Rattle.si_engine.specs.RowLines.{row_line_of}

-- the words behind `row`: TABLE K = V, or TABLE K1 K2 = V
unfoldable pub row_command : DraftTree → (line : ℕ) → List (List ℕ) → Result Command LineFault
row_command draft line words = do
  row ← row_line_of draft line words
  Ok (says.Row row)

-- PROGRAM ARG*: a program by its name, and its arguments
unfoldable pub program_call : DraftTree → (line : ℕ) → List (List ℕ) → Result ProgramCall LineFault
program_call draft line [] = Err (BadLine line)
program_call draft line (name ∷ words) = do
  args ← ok_or (numbers_of words) (BadLine line)
  program ← ok_or (number_named (program_names draft) name) (UnknownName line)
  Ok (record { program = program; args = args })

-- the words behind `begin`: PROGRAM ARG*
unfoldable pub begin_command : DraftTree → (line : ℕ) → List (List ℕ) → Result Command LineFault
begin_command draft line words = do
  call ← program_call draft line words
  Ok (says.Event (Begin call.program call.args))

-- the words behind `begin-at`: START PROGRAM ARG*
unfoldable pub begin_at_command : DraftTree → (line : ℕ) → List (List ℕ) → Result Command LineFault
begin_at_command draft line [] = Err (BadLine line)
begin_at_command draft line (start ∷ words) = do
  number ← ok_or (u64_of start) (BadLine line)
  call ← program_call draft line words
  Ok (says.Event (BeginAt number call.program call.args))

-- the number of an instance
abbrev pub instance_number : List ℕ → Option ℕ
instance_number word = number_between 0 greatest_instance word

-- so many steps of an instance
abbrev pub steps_of : (number times : List ℕ) → Option Command
steps_of number times =
    option_and_then (λ i. option_map (says.Steps i) (number_between 1 most_steps times)) (instance_number number)

-- the words behind `step`: I, or I N
unfoldable pub step_command : (line : ℕ) → List (List ℕ) → Result Command LineFault
step_command line (instance ∷ []) = ok_or (option_map (λ i. says.Steps i 1) (instance_number instance)) (BadLine line)
step_command line (instance ∷ times ∷ []) = ok_or (steps_of instance times) (BadLine line)
step_command line words = Err (BadLine line)

-- one word, the number of an instance
unfoldable pub one_instance : (line : ℕ) → List (List ℕ) → Result ℕ LineFault
one_instance line (number ∷ []) = ok_or (instance_number number) (BadLine line)
one_instance line words = Err (BadLine line)

-- the words behind `commit`: I
unfoldable pub commit_command : (line : ℕ) → List (List ℕ) → Result Command LineFault
commit_command line words = do
  instance ← one_instance line words
  Ok (says.Event (Commit instance))

-- the words behind `abort`: I
unfoldable pub abort_command : (line : ℕ) → List (List ℕ) → Result Command LineFault
abort_command line words = do
  instance ← one_instance line words
  Ok (says.Event (Abort instance))

-- the words behind `vacuum`: none
unfoldable pub vacuum_command : (line : ℕ) → List (List ℕ) → Result Command LineFault
vacuum_command line [] = Ok (says.Event Vacuum)
vacuum_command line words = Err (BadLine line)

-- the words of a line that is not skipped; the first says what it is
unfoldable pub command_of : DraftTree → (line : ℕ) → List (List ℕ) → Result Command LineFault
command_of draft line [] = Err (BadLine line)
command_of draft line (word ∷ words) =
    if bytes_eq word (codes "row") then row_command draft line words
    else if bytes_eq word (codes "begin") then begin_command draft line words
    else if bytes_eq word (codes "begin-at") then begin_at_command draft line words
    else if bytes_eq word (codes "step") then step_command line words
    else if bytes_eq word (codes "commit") then commit_command line words
    else if bytes_eq word (codes "abort") then abort_command line words
    else if bytes_eq word (codes "vacuum") then vacuum_command line words
    else Err (BadLine line)

-- a line, with its number
unfoldable pub line_command : DraftTree → (line : ℕ) → List ℕ → Result Command LineFault
line_command draft line bytes = if is_skipped bytes then Ok says.Skip else command_of draft line (words_of bytes)
