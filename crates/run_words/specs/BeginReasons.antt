-- What is said of a begin that was refused.
use Rattle.std.specs.Prelude.{ℕ, ◌==◌, if◌then◌else◌, List, [], ◌++◌, codes, length}
use Rattle.std.specs.Fmt.{decimal}
use Rattle.prog_tree.specs.Syntax.{DraftTree}
use Rattle.text_places.specs.Listing.{listed}
use Rattle.fault_words.specs.Naming.{program_name, program_params}
use Rattle.history_book.specs.View.{most_endings}
use Rattle.history_book.specs.declared.fault.BeginFault.{BeginFault}
use Rattle.history_book.specs.declared.fault.BeginFault.TheVariants as begin
use Rattle.job_list.specs.declared.job.Job.{Job}

abbrev pub plural_ending : (count : ℕ) → List ℕ
plural_ending count = if count == 1 then [] else codes "s"

-- so many of something, as `1 argument` or `2 arguments`
abbrev pub counted : (count : ℕ) → (what : List ℕ) → List ℕ
counted count what = decimal count ++ (codes " " ++ (what ++ plural_ending count))

-- a program with its parameters, as `Transfer(from, to, amount)`
abbrev pub signature : DraftTree → (program : ℕ) → List ℕ
signature set program = program_name set program ++ (codes "(" ++ (listed (program_params set program) ++ codes ")"))

-- that a program takes another number of arguments
abbrev pub wrong_arguments : DraftTree → (program given : ℕ) → List ℕ
wrong_arguments set program given =
    codes "`" ++ (signature set program ++ (codes "` takes "
    ++ (counted (length (program_params set program)) (codes "argument")
    ++ (codes ", and here it is given " ++ decimal given))))

-- that there are as many instances as there may be
abbrev pub full_text : List ℕ
full_text = decimal most_endings ++ codes " instances have ended or are under way, the most"

-- why an instance of a job did not begin
abbrev pub begin_reason : DraftTree → Job → BeginFault → List ℕ
begin_reason set job begin.NoSuchProgram = codes "the set has no such program"
begin_reason set job begin.WrongArguments = wrong_arguments set job.program (length job.args)
begin_reason set job (begin.TooOld floor) = codes "no instance can begin at its number of commits"
begin_reason set job (begin.TooNew commits) = codes "no instance can begin at its number of commits"
begin_reason set job begin.Full = full_text
begin_reason set job begin.Memory = codes "memory ran out"
