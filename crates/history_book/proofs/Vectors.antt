-- Worked examples of histories, endings and active instances, computed from the definitions.
use Rattle.std.proofs.Common.{◌≡◌, ℕ, ◌-◌, ◌^◌, ◌==◌, [], ◌∷◌, List, length, refl, ap, true, false}
use Rattle.std.specs.Prelude.{ℤ, pos, negsuc, codes, map, Some, None, not, if◌then◌else◌}
use Rattle.std.specs.Option.{option_or}
use Rattle.prog_tree.specs.declared.cell.Cell.{Cell}
use Rattle.prog_tree.specs.declared.deed.Cause.TheVariants.{Asked}
use Rattle.prog_tree.specs.declared.deed.End.TheVariants.{Ready}
use Rattle.prog_tree.specs.declared.program.Draft.{Draft}
use Rattle.prog_tree.specs.declared.program.Program.{Program}
use Rattle.prog_tree.specs.declared.table.Arity.TheVariants as arity
use Rattle.prog_tree.specs.ChangeSet.{no_changes}
use Rattle.prog_tree.specs.Syntax.{Literal, Named, KeyTree, One, BlockEnd, Then, DraftTree}
use Rattle.prog_tree.specs.Syntax as s
use Rattle.prog_tree.specs.Table.{TableState}
use Rattle.history_book.specs.History.{Instance, eval_of, commits_of, evaluation, state_after}
use Rattle.history_book.specs.TrueBook.{committed}
use Rattle.history_book.specs.ActiveSet.{is_start_of}
use Rattle.history_book.specs.View.{BookView, instance_of, row_of, nth_row, with_start, without, least_start, vacuumed, start_fault, full_fault, fault_at, fault_by, ticket_at, next_ticket, begun_at}
use Rattle.history_book.specs.declared.fault.BeginFault.TheVariants as begin
use Rattle.history_book.specs.declared.instances.row.Ending.TheVariants as ending
use Rattle.history_book.specs.declared.instances.row.HistoryRow.{HistoryRow}

abbrev pub cell : ℤ → Cell
cell k = record { table = 0; first = k; second = pos 0 }

abbrev pub key : List ℕ → KeyTree
key name = One (Named name)

-- `Look(k)` replies t[k] or -1, `Set(k, v)` puts v there, and `Cut(k)` deletes it
abbrev pub registers : DraftTree
registers = record {
  tables = record { name = codes "t"; arity = arity.One; grow = false } ∷ [];
  programs =
      record {
        name = codes "Look";
        params = codes "k" ∷ [];
        body = Then (s.Get (codes "x") (codes "t") (key (codes "k")) (Literal (negsuc 0))) (Then (s.Reply (Named (codes "x"))) BlockEnd);
      }
      ∷ record { name = codes "Set"; params = codes "k" ∷ codes "v" ∷ []; body = Then (s.Put (codes "t") (key (codes "k")) (Named (codes "v"))) BlockEnd }
      ∷ record { name = codes "Cut"; params = codes "k" ∷ []; body = Then (s.Delete (codes "t") (key (codes "k"))) BlockEnd }
      ∷ [];
}

abbrev pub call : ℕ → List ℤ → ℕ → Instance
call program args start = record { program = program; args = args; start = start }

-- t[1] is set to 1, 2 and 3; a look that began after the first of these commits then; and t[1] is deleted
abbrev pub old_look : Instance
old_look = call 0 (pos 1 ∷ []) 1

abbrev pub history : List Instance
history =
    call 1 (pos 1 ∷ pos 1 ∷ []) 0 ∷ call 1 (pos 1 ∷ pos 2 ∷ []) 1 ∷ call 1 (pos 1 ∷ pos 3 ∷ []) 2 ∷ old_look
    ∷ call 2 (pos 1 ∷ []) 4 ∷ []

abbrev pub opening : TableState
opening = (cell (pos 1), pos 0) ∷ []

pub third_state : state_after registers opening history 3 ≡ (cell (pos 1), pos 3) ∷ []
unfolding eval_of
third_state = refl

pub last_state : state_after registers opening history 5 ≡ []
unfolding eval_of
last_state = refl

-- the look sees what its start had, whatever committed since
pub old_reply : (evaluation registers opening history old_look).replies ≡ pos 1 ∷ []
unfolding eval_of
old_reply = refl

pub old_ending : (evaluation registers opening history old_look).ending ≡ Ready
unfolding eval_of
old_ending = refl

-- it is a commit too, which changes nothing
pub what_was_written : map (λ w. w.cells) (commits_of registers opening history)
    ≡ ((cell (pos 1), Some (pos 1)) ∷ []) ∷ ((cell (pos 1), Some (pos 2)) ∷ []) ∷ ((cell (pos 1), Some (pos 3)) ∷ []) ∷ []
    ∷ ((cell (pos 1), None) ∷ []) ∷ []
unfolding eval_of
what_was_written = refl

-- no program, no change
pub of_no_program : (evaluation registers opening history (call 3 [] 0)).changes ≡ no_changes
unfolding eval_of
of_no_program = refl

-- ---- rows and endings

abbrev row : HistoryRow
row = row_of old_look (pos 1 ∷ [])

pub row_again : instance_of row ≡ old_look
row_again = refl

pub commits_in_order :
    committed (ending.Committed 1 ∷ ending.Aborted row Asked ∷ ending.Clashed row (record { cell = cell (pos 1); number = 2 }) ∷ ending.Committed 2 ∷ [])
    ≡ 1 ∷ 2 ∷ []
commits_in_order = refl

pub no_commit_zero : nth_row (row ∷ []) 0 ≡ None
no_commit_zero = refl

pub first_commit : nth_row (row ∷ []) 1 ≡ Some row
first_commit = refl

-- ---- active instances

abbrev active : List (ℕ × Instance)
active = (3, old_look) ∷ (5, call 2 (pos 1 ∷ []) 4) ∷ []

pub least_active : least_start 9 active ≡ 1
least_active = refl

pub least_of_none : least_start 9 [] ≡ 9
least_of_none = refl

pub without_the_first : without 3 active ≡ (5, call 2 (pos 1 ∷ []) 4) ∷ []
without_the_first = refl

-- a ticket's start has to be the instance's
pub with_its_start : with_start 1 (Some old_look) ≡ Some old_look
with_its_start = refl

pub with_another_start : with_start 2 (Some old_look) ≡ None
with_another_start = refl

-- one that was begun later may see fewer commits, and then has the least start
abbrev later_and_older : List (ℕ × Instance)
later_and_older = (3, call 2 (pos 1 ∷ []) 4) ∷ (5, old_look) ∷ []

pub least_of_the_later : least_start 9 later_and_older ≡ 1
least_of_the_later = refl

pub start_there : is_start_of later_and_older (record { start = 1; number = 5 }) ≡ true
start_there = refl

pub start_of_another : is_start_of later_and_older (record { start = 4; number = 5 }) ≡ false
start_of_another = refl

-- ---- begins at a number

-- a book of two commits; the vacuum's floor, and how many begins succeeded
module _ (set : Draft) where
  abbrev two_commits : (floor begun : ℕ) → BookView
  two_commits floor begun =
      record { set = set; opening = opening; rows = row ∷ row ∷ []; endings = ending.Committed 1 ∷ ending.Committed 2 ∷ []; active = []; begun = begun; floor = floor }

  abbrev most : ℕ
  most = 2 ^ 64 - 1

  pub at_the_first : start_fault (two_commits 0 2) 0 ≡ None
  at_the_first = refl

  pub at_the_newest : start_fault (two_commits 0 2) 2 ≡ None
  at_the_newest = refl

  pub above_the_newest : start_fault (two_commits 0 2) 3 ≡ Some (begin.TooNew 2)
  above_the_newest = refl

  pub at_the_floor : start_fault (two_commits 1 2) 1 ≡ None
  at_the_floor = refl

  pub below_the_floor : start_fault (two_commits 1 2) 0 ≡ Some (begin.TooOld 1)
  below_the_floor = refl

  -- the number comes before want of room
  pub old_before_full : option_or (start_fault (two_commits 2 most) 1) (full_fault (two_commits 2 most)) ≡ Some (begin.TooOld 2)
  old_before_full = refl

  pub new_before_full : option_or (start_fault (two_commits 2 most) 3) (full_fault (two_commits 2 most)) ≡ Some (begin.TooNew 2)
  new_before_full = refl

  pub full_last : option_or (start_fault (two_commits 2 most) 2) (full_fault (two_commits 2 most)) ≡ Some begin.Full
  full_last = refl

  pub nothing_wrong : option_or (start_fault (two_commits 2 2) 2) (full_fault (two_commits 2 2)) ≡ None
  nothing_wrong = refl

  -- the program comes first, then its arguments
  pub program_first : fault_at (two_commits 2 most) 1 None [] ≡ Some begin.NoSuchProgram
  program_first = refl

  module _ (program : Program) (one_parameter : (length program.params.items == 1) ≡ true) (not_none : (length program.params.items == 0) ≡ false) where
    pub arguments_before_old : fault_at (two_commits 2 most) 1 (Some program) [] ≡ Some begin.WrongArguments
    arguments_before_old = ap (λ b. if not b then Some begin.WrongArguments else Some (begin.TooOld 2)) not_none

    pub old_behind_arguments : fault_at (two_commits 2 most) 1 (Some program) (pos 1 ∷ []) ≡ Some (begin.TooOld 2)
    old_behind_arguments = ap (λ b. if not b then Some begin.WrongArguments else Some (begin.TooOld 2)) one_parameter

    pub full_at_the_newest : fault_by (two_commits 2 most) (Some program) (pos 1 ∷ []) ≡ Some begin.Full
    full_at_the_newest = ap (λ b. if not b then Some begin.WrongArguments else Some begin.Full) one_parameter

  -- the number counts begins, and the start is the one that was named
  pub old_ticket : ticket_at (two_commits 0 7) 1 ≡ record { number = 7; start = 1 }
  old_ticket = refl

  pub newest_ticket : next_ticket (two_commits 0 7) ≡ record { number = 7; start = 2 }
  newest_ticket = refl

  -- what is active keeps a vacuum from its versions
  pub kept_by_an_old_begin : (vacuumed (begun_at (two_commits 0 7) 0 0 (pos 1 ∷ []))).floor ≡ 0
  kept_by_an_old_begin = refl

  pub kept_by_none : (vacuumed (two_commits 0 7)).floor ≡ 2
  kept_by_none = refl

  pub active_at_the_old : (begun_at (two_commits 0 7) 1 0 (pos 1 ∷ [])).active ≡ (7, old_look) ∷ []
  active_at_the_old = refl
