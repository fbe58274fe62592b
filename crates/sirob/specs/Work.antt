-- What the command `work` writes of jobs that were done.
use Rattle.std.specs.Prelude.{ℕ, List, ◌++◌, codes, filter, length}
use Rattle.std.specs.Fmt.{decimal}
use Rattle.std.specs.List.{concat}
use Rattle.prog_tree.specs.Tree.{draft_tree}
use Rattle.history_book.specs.View.{BookView, history_of}
use Rattle.si_engine.specs.Runs.{end_lines}
use Rattle.job_list.specs.declared.job.JobOutcome.{JobOutcome}
use Rattle.job_list.specs.declared.job.Way.{Way}
use Rattle.job_list.specs.declared.job.Way.TheVariants.{Committed, Aborted, Clashed, Refused}
use Rattle.job_list.specs.Ways.{is_in}

-- how many jobs ended in a way
abbrev pub ends_in : Way → List JobOutcome → ℕ
ends_in way outcomes = length (filter (λ outcome. is_in way outcome.job_end) outcomes)

-- a line for each way of ending, with how many jobs ended so
abbrev pub ways_text : List JobOutcome → List ℕ
ways_text outcomes =
    codes "committed " ++ (decimal (ends_in Committed outcomes)
    ++ (codes "\naborted " ++ (decimal (ends_in Aborted outcomes)
    ++ (codes "\nclashed " ++ (decimal (ends_in Clashed outcomes)
    ++ (codes "\nrefused " ++ (decimal (ends_in Refused outcomes) ++ codes "\n")))))))

-- these lines, and one for each row that is left
abbrev pub work_text : List JobOutcome → BookView → List ℕ
work_text outcomes book =
    ways_text outcomes ++ concat (end_lines (draft_tree book.set) book.opening (history_of book.rows))
