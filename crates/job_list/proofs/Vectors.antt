-- Lists of jobs, read by hand.
use Rattle.std.proofs.Common.{◌≡◌, pos, neg_ℤ, [], ◌∷◌, Some, None, Ok, Err, false, refl, codes}
use Rattle.prog_tree.specs.declared.table.Arity.TheVariants.{One}
use Rattle.prog_tree.specs.Syntax.{DraftTree, BlockEnd}
use Rattle.si_engine.specs.declared.input.list_line.ListLine.TheVariants as says
use Rattle.si_engine.specs.declared.input.line_fault.LineFault.TheVariants as f
use Rattle.si_engine.specs.ListLines.{list_line, list_line_of}
use Rattle.si_engine.specs.RowLines.{row_line_of}
use Rattle.si_engine.specs.Sayings.{sayings_from}
use Rattle.job_list.specs.JobLines.{retries_of, job_line, job_of, jobs_of}

most_retries : retries_of (codes "4294967295") ≡ Some 4294967295
most_retries = refl

past_retries : retries_of (codes "4294967296") ≡ None
past_retries = refl

negative_retries : retries_of (codes "-1") ≡ None
negative_retries = refl

negative_zero_retries : retries_of (codes "-0") ≡ Some 0
negative_zero_retries = refl

-- a table `t` of one key column; programs `Look`, `Set` and `Cut`
draft : DraftTree
draft = record {
  tables = record { name = codes "t"; arity = One; grow = false } ∷ [];
  programs =
      record { name = codes "Look"; params = codes "k" ∷ []; body = BlockEnd }
      ∷ record { name = codes "Set"; params = codes "k" ∷ codes "v" ∷ []; body = BlockEnd }
      ∷ record { name = codes "Cut"; params = codes "k" ∷ []; body = BlockEnd } ∷ [];
}

one_job : job_line draft 1 (codes "job  0  Set  2  -1") ≡ Ok (says.Item (record { program = 1; args = pos 2 ∷ neg_ℤ (pos 1) ∷ []; retries = 0 }))
unfolding draft list_line list_line_of job_of
one_job = refl

most_retries_of_a_job : job_line draft 5 (codes "job 4294967295 Look 1") ≡ Ok (says.Item (record { program = 0; args = pos 1 ∷ []; retries = 4294967295 }))
unfolding draft list_line list_line_of job_of
most_retries_of_a_job = refl

-- what a program takes is no matter of the line
no_arguments : job_line draft 1 (codes "job 0 Look") ≡ Ok (says.Item (record { program = 0; args = []; retries = 0 }))
unfolding draft list_line list_line_of job_of
no_arguments = refl

too_many_retries : job_line draft 1 (codes "job 4294967296 Look 1") ≡ Err (f.BadLine 1)
unfolding draft list_line list_line_of job_of
too_many_retries = refl

retries_below_zero : job_line draft 1 (codes "job -1 Look 1") ≡ Err (f.BadLine 1)
unfolding draft list_line list_line_of job_of
retries_below_zero = refl

word_as_argument : job_line draft 1 (codes "job 0 Look k") ≡ Err (f.BadLine 1)
unfolding draft list_line list_line_of job_of
word_as_argument = refl

no_program : job_line draft 1 (codes "job 0") ≡ Err (f.BadLine 1)
unfolding draft list_line list_line_of job_of
no_program = refl

no_retries : job_line draft 1 (codes "job Look 1") ≡ Err (f.BadLine 1)
unfolding draft list_line list_line_of job_of
no_retries = refl

unknown_program : job_line draft 3 (codes "job 0 Nope") ≡ Err (f.UnknownName 3)
unfolding draft list_line list_line_of job_of
unknown_program = refl

bad_number_before_unknown_name : job_line draft 3 (codes "job 0 Nope x") ≡ Err (f.BadLine 3)
unfolding draft list_line list_line_of job_of
bad_number_before_unknown_name = refl

line_of_an_audit : job_line draft 1 (codes "record Look 1 at 0 gives -1") ≡ Err (f.BadLine 1)
unfolding draft list_line list_line_of
line_of_an_audit = refl

line_of_a_run : job_line draft 1 (codes "begin Look 1") ≡ Err (f.BadLine 1)
unfolding draft list_line list_line_of
line_of_a_run = refl

other_first_word : job_line draft 1 (codes "jobs 0 Look 1") ≡ Err (f.BadLine 1)
unfolding draft list_line list_line_of
other_first_word = refl

comment : job_line draft 1 (codes "# jobs") ≡ Ok says.Skip
unfolding list_line
comment = refl

row_with_two_keys : job_line draft 1 (codes "row t 1 1 = 1") ≡ Err (f.WrongKeys 1)
unfolding draft list_line list_line_of row_line_of
row_with_two_keys = refl

no_lines : jobs_of draft [] ≡ Ok (record { rows = []; items = [] })
unfolding draft sayings_from
no_lines = refl

rows_alone : jobs_of draft (codes "row t 1 = 2\n") ≡ Ok (record {
  rows = (record { table = 0; first = pos 1; second = pos 0 }, pos 2) ∷ [];
  items = [];
})
unfolding draft sayings_from list_line list_line_of row_line_of
rows_alone = refl

returns_spaces_and_comments : jobs_of draft (codes "# jobs\r\n\r\nrow  t 1 =  4\r\njob  0  Set  2  -1\r\njob 4294967295 Look 1\r") ≡ Ok (record {
  rows = (record { table = 0; first = pos 1; second = pos 0 }, pos 4) ∷ [];
  items =
      record { program = 1; args = pos 2 ∷ neg_ℤ (pos 1) ∷ []; retries = 0 }
      ∷ record { program = 0; args = pos 1 ∷ []; retries = 4294967295 } ∷ [];
})
unfolding draft sayings_from list_line list_line_of row_line_of job_of
returns_spaces_and_comments = refl

late_row : jobs_of draft (codes "job 0 Look 1\nrow t 1 = 1\n") ≡ Err (f.LateRow 2)
unfolding draft sayings_from list_line list_line_of row_line_of job_of
late_row = refl

repeated_row : jobs_of draft (codes "row t 1 = 1\nrow t 1 = 1\n") ≡ Err (f.RepeatedRow 2)
unfolding draft sayings_from list_line list_line_of row_line_of
repeated_row = refl

skipped_lines_count : jobs_of draft (codes "job 0 Look 1\n# x\njob 0 Nope\n") ≡ Err (f.UnknownName 3)
unfolding draft sayings_from list_line list_line_of job_of
skipped_lines_count = refl
