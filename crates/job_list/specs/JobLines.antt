-- What a list of jobs says: its rows and its jobs, or its first fault.
use Rattle.std.specs.Prelude.{ℕ, List, [], ◌∷◌, Option, Result, Ok, Err, codes}
use Rattle.std.specs.Option.{ok_or}
use Rattle.prog_tree.specs.Syntax.{DraftTree}
use Rattle.prog_check.specs.Faults.{program_names}
use Rattle.si_engine.specs.declared.input.item_list.ItemList.{ItemList}
use Rattle.si_engine.specs.declared.input.list_line.ListLine.{ListLine}
use Rattle.si_engine.specs.declared.input.line_fault.LineFault.{LineFault}
use Rattle.si_engine.specs.declared.input.line_fault.LineFault.TheVariants.{BadLine, UnknownName}
use Rattle.si_engine.specs.ListLines.{list_line, list_of}
use Rattle.si_engine.specs.Names.{number_named}
use Rattle.si_engine.specs.Numbers.{number_between, numbers_of}
use Rattle.si_engine.specs.LineFaults.{◌>>=◌}
use Rattle.job_list.specs.declared.job.Job.{Job}

-- how often a job may be begun anew at most
abbrev pub most_retries : ℕ
most_retries = 4294967295

-- how often a job may be begun anew
abbrev pub retries_of : List ℕ → Option ℕ
retries_of word = number_between 0 most_retries word

-- the words behind `job`: RETRIES PROGRAM ARG*
unfoldable pub job_of : DraftTree → (line : ℕ) → List (List ℕ) → Result Job LineFault
job_of draft line [] = Err (BadLine line)
job_of draft line (word ∷ []) = Err (BadLine line)
job_of draft line (word ∷ name ∷ words) = do
  retries ← ok_or (retries_of word) (BadLine line)
  args ← ok_or (numbers_of words) (BadLine line)
  program ← ok_or (number_named (program_names draft) name) (UnknownName line)
  Ok (record { program = program; args = args; retries = retries })

-- a line of a list of jobs, with its number
abbrev pub job_line : DraftTree → (line : ℕ) → List ℕ → Result (ListLine Job) LineFault
job_line draft line bytes = list_line (codes "job") job_of draft line bytes

-- the rows and jobs that all lines of a part make, or the first fault
abbrev pub jobs_of : DraftTree → List ℕ → Result (ItemList Job) LineFault
jobs_of draft part = list_of (codes "job") job_of draft part
