-- Worked examples of outcomes that stand and books that correspond to them, computed from the definitions.
use Rattle.std.proofs.Common.{◌≡◌, ◌<◌, ℕ, zero, suc, Bool, true, false, cond, List, [], ◌∷◌, ◌+◌, length, Option, Some, None, refl, sym, inl, inr, slice_get, arith}
use Rattle.std.specs.Prelude.{ℤ, pos}
use Rattle.std.proofs.lemmas.List.Elements.{All-nil, All-cons}
use Rattle.prog_tree.specs.declared.deed.Cause.TheVariants.{Asked}
use Rattle.prog_tree.specs.declared.program.Draft.{Draft}
use Rattle.prog_tree.specs.Tree.{draft_tree}
use Rattle.version_store.specs.declared.clash.Clash.{Clash}
use Rattle.history_book.specs.View.{BookView}
use Rattle.history_book.specs.declared.instances.row.Ending.{Ending}
use Rattle.history_book.specs.declared.instances.row.Ending.TheVariants as ending
use Rattle.history_book.specs.declared.instances.row.HistoryRow.{HistoryRow}
use Rattle.history_book.proofs.Vectors.{cell, opening}
use Rattle.si_workers.specs.Calls.{call_of, is_same_call}
use Rattle.si_workers.specs.KeptAndTold.{Tidings}
use Rattle.si_workers.specs.Assigned.{assigned}
use Rattle.si_workers.specs.Outcomes.{Correspond, IsBroken, IsOfSomeJob, Stands, nearly_full}
use Rattle.job_worker.specs.Work.{AreRightTries}
use Rattle.job_list.specs.declared.job.Job.{Job}
use Rattle.job_list.specs.declared.job.JobEnd.{JobEnd}
use Rattle.job_list.specs.declared.job.JobEnd.TheVariants as end
use Rattle.job_list.specs.declared.job.JobOutcome.{JobOutcome}

-- ---- `Look(k)` is program 0 and replies t[k], which is 0 at first; `Set(k, v)` is program 1

abbrev look : Job
look = record { program = 0; args = pos 1 ∷ []; retries = 0 }

abbrev set_to_5 : ℕ → Job
set_to_5 retries = record { program = 1; args = pos 1 ∷ pos 5 ∷ []; retries = retries }

abbrev row_of : Job → List ℤ → HistoryRow
row_of job replies = record { program = job.program; args = job.args; start = 0; replies = replies }

abbrev looked : HistoryRow
looked = row_of look (pos 0 ∷ [])

abbrev set : HistoryRow
set = row_of (set_to_5 0) []

-- what is told of a job: that it came to this end, after so many clashes
abbrev after : ℕ → Job → JobEnd → Job × Option JobOutcome
after clashes job job_end = (job, Some (record { job_end = job_end; clashes = clashes }))

abbrev looked_first : Job × Option JobOutcome
looked_first = after 0 look (end.Committed 1 (pos 0 ∷ []))

abbrev set_first : Job × Option JobOutcome
set_first = after 0 (set_to_5 0) (end.Committed 1 [])

-- commit 2 changed t[1] too
abbrev clash : Clash
clash = record { cell = cell (pos 1); number = 2 }

either : (b : Bool) → 0 ≡ 0 + cond b 0 0
either true = refl
either false = refl

-- one worker is alone, and beside one of eight seven others may be active
pub full_for_one : nearly_full 1 ≡ 100000
full_for_one = refl

pub full_for_eight : nearly_full 8 ≡ 99993
full_for_eight = refl

module _ (tables : Draft) where
  abbrev book : List HistoryRow → List Ending → BookView
  book rows endings = record {
    set = tables;
    opening = opening;
    rows = rows;
    endings = endings;
    active = [];
    begun = length endings;
    floor = 0;
  }

  -- ---- a look that committed, and a book with its commit

  abbrev one_commit : BookView
  one_commit = book (looked ∷ []) (ending.Committed 1 ∷ [])

  abbrev one_told : Tidings
  one_told = looked_first ∷ []

  look_stands : Stands 8 one_commit one_told looked_first
  look_stands = ((record { program = refl; args = refl; replied = refl }, refl), omega arith)

  told_first : (n : ℕ) → n < 1 → n ≡ 0
  told_first n below = omega arith

  pub one_corresponds : Correspond (assigned 8 (draft_tree tables) opening) one_told one_commit
  one_corresponds = record {
    over = record { same_set = refl; same_opening = refl };
    stand = All-cons (Stands 8 one_commit one_told) looked_first [] look_stands (All-nil (Stands 8 one_commit one_told));
    whole = record {
      commits = λ n below. let first : n ≡ 0 = told_first n below in rw first (omega arith);
      aborts = All-cons (IsOfSomeJob one_told) (ending.Committed 1) [] tt (All-nil (IsOfSomeJob one_told));
      clashes = λ call. either (is_same_call call (call_of look));
    };
  }

  -- ---- outcomes that do not stand

  -- commit 1 is of the look
  pub of_another_job : Stands 8 one_commit (set_first ∷ []) set_first → ⊥
  of_another_job stands = let program = stands.0.0.program in absurd (omega (arith, program))

  pub with_another_reply : Stands 8 one_commit one_told (after 0 look (end.Committed 1 (pos 5 ∷ []))) → ⊥
  with_another_reply stands = let replied = stands.0.0.replied in absurd (cc)

  -- two jobs name commit 1
  pub named_twice : Stands 8 one_commit (looked_first ∷ looked_first ∷ []) looked_first → ⊥
  named_twice stands = let once = stands.0.1 in absurd (omega (arith, once))

  -- commit 2 is not there
  pub of_no_commit : Stands 8 one_commit one_told (after 0 look (end.Committed 2 (pos 0 ∷ []))) → ⊥
  of_no_commit stands = absurd stands.0.0

  -- the book has no abort
  pub abort_that_is_not_kept :
      let t : Job × Option JobOutcome = after 0 look (end.Aborted Asked) in
      Stands 8 one_commit (t ∷ []) t → ⊥
  abort_that_is_not_kept stands = let as_many = stands.0 in absurd (omega (arith, as_many))

  -- two outcomes of a job are none
  pub of_no_outcome : Stands 8 one_commit one_told (look, None) → ⊥
  of_no_outcome stands = stands

  -- ---- clashes

  -- a job that ends in a clash clashed in its first try and in both that it may be begun anew
  pub each_try_clashed : AreRightTries 2 3 (end.Clashed clash)
  each_try_clashed = refl

  pub one_try_too_few : AreRightTries 2 2 (end.Clashed clash) → ⊥
  one_try_too_few tries = absurd (omega (arith, tries))

  -- the set clashed twice before it committed, and tells one clash
  abbrev two_clashes : BookView
  two_clashes = book (set ∷ []) (ending.Clashed set clash ∷ ending.Clashed set clash ∷ ending.Committed 1 ∷ [])

  pub one_clash_too_few : Correspond (assigned 8 (draft_tree tables) opening) (after 1 (set_to_5 2) (end.Committed 1 []) ∷ []) two_clashes → ⊥
  one_clash_too_few correspond =
      let as_many = correspond.whole.clashes (record { program = 1; args = pos 1 ∷ pos 5 ∷ [] }) in absurd (omega (arith, as_many))

  -- ---- the job that is named

  -- jobs 1 and 2 tell aborts that the book has not
  abbrev aborted : Job × Option JobOutcome
  aborted = after 0 (set_to_5 0) (end.Aborted Asked)

  abbrev two_fall : Tidings
  two_fall = looked_first ∷ aborted ∷ aborted ∷ []

  falls : Stands 8 one_commit two_fall aborted → ⊥
  falls stands = let as_many = stands.0 in absurd (omega (arith, as_many))

  first_stands : (j : ℕ) (u : Job × Option JobOutcome) → j < 1 → slice_get two_fall j ≡ Some u → Stands 8 one_commit two_fall u
  first_stands zero u below at =
      let same : looked_first ≡ u = cc in
      rw (sym same) ((record { program = refl; args = refl; replied = refl }, refl), omega arith)
  first_stands (suc j) u below at = absurd (omega arith)

  pub names_the_least : IsBroken (assigned 8 (draft_tree tables) opening) two_fall one_commit 1
  names_the_least = (
    λ correspond. falls (correspond.stand 1 aborted (omega arith)),
    inl (record { t = aborted; at = refl; fallen = falls; before = first_stands }),
  )

  -- nobody told of commit 2
  abbrev two_commits : BookView
  two_commits = book (looked ∷ set ∷ []) (ending.Committed 1 ∷ ending.Committed 2 ∷ [])

  look_stands_too : Stands 8 two_commits one_told looked_first
  look_stands_too = ((record { program = refl; args = refl; replied = refl }, refl), omega arith)

  pub names_job_0 : IsBroken (assigned 8 (draft_tree tables) opening) one_told two_commits 0
  names_job_0 = (
    λ correspond. let told = correspond.whole.commits 1 (omega arith) in absurd (omega (arith, told)),
    inr (refl, All-cons (Stands 8 two_commits one_told) looked_first [] look_stands_too (All-nil (Stands 8 two_commits one_told))),
  )
