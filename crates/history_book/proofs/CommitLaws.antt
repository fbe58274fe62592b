-- Runs that end instances of a book.
use Rattle.std.proofs.Common.{◌≡◌, ℕ, ◌+◌, ◌≤◌, List, [], ◌∷◌, length, take, ap, sym, ◌∙◌, subst, arith}
use Rattle.std.specs.Prelude.{Option, Some, None}
use Rattle.std.proofs.Math.Seq.{take-length}
use Rattle.std.proofs.lemmas.List.{length-map, map-append}
use Rattle.prog_tree.specs.declared.cell.Cell.{Cell}
use Rattle.prog_tree.specs.declared.deed.Cause.{Cause}
use Rattle.prog_tree.specs.declared.deed.End.{End}
use Rattle.prog_tree.specs.declared.deed.End.TheVariants.{Ready, Aborted}
use Rattle.prog_tree.specs.ChangeSet.{ChangeSet}
use Rattle.prog_tree.specs.Evaluation.{Evaluation, eval}
use Rattle.prog_tree.specs.Tree.{program_tree, draft_tree}
use Rattle.prog_run.specs.View.{RunView, IsTrueRun, result_of}
use Rattle.version_store.specs.Clash.{IsClash}
use Rattle.version_store.specs.declared.clash.Clash.{Clash}
use Rattle.history_book.specs.History.{Instance, IsCalled, state_after}
use Rattle.history_book.specs.Runs.{IsOwnRun, IsCommit, IsEndedRow, IsCommitted, IsClashed, IsAborted, row_in, committed_in, ended_in}
use Rattle.history_book.specs.Ticket.{TicketView}
use Rattle.history_book.specs.TrueBook.{IsTrueRow, IsTrueClash, IsTrueAbort}
use Rattle.history_book.specs.View.{BookView, instance_of, row_of, history_of, commits_in, state_in, done_in}
use Rattle.history_book.specs.declared.instances.row.Ending.TheVariants as ending
use Rattle.history_book.specs.declared.instances.row.HistoryRow.{HistoryRow}
use Rattle.history_book.proofs.HistoryLaws.{eval_of-found, length-commits_of, state_after-push}

-- the states before a commit stay
pub state_in-committed : (v : BookView) (number : ℕ) (row : HistoryRow) (n : ℕ) → n ≤ length v.rows → state_in (committed_in v number row) n ≡ state_in v n
state_in-committed v number row n before =
    ap (λ (h : List Instance). state_after (draft_tree v.set) v.opening h n) (map-append instance_of v.rows (row ∷ []))
    ∙ state_after-push (draft_tree v.set) v.opening (history_of v.rows) (instance_of row) n (omega (arith, before, length-map v.rows instance_of))

-- what a run of an instance came to is what the instance does
pub own_run : (v : BookView) (i : Instance) (run : RunView) (end : End) → IsOwnRun v i run → IsTrueRun run → run.end ≡ Some end → result_of end run ≡ done_in v i
own_run v i run end own is_true ends =
    let m = state_in v i.start in
    (is_true m own.found).ending end ends
    ∙ ap (λ tables. eval tables (program_tree run.program) run.args m) own.same.tables
    ∙ ap (λ args. eval v.set.tables.items (program_tree run.program) args m) own.same.args
    ∙ sym (eval_of-found (draft_tree v.set) i (program_tree run.program) m own.same.program)

module _ (v : BookView) (t : TicketView) (run : RunView) (row : HistoryRow) (end : End) (ended : IsEndedRow v t run row) (is_true : IsTrueRun run) (ends : run.end ≡ Some end) where
  did : result_of end run ≡ done_in v ended.instance
  did = own_run v ended.instance run end ended.own is_true ends

  row_is : row ≡ row_in v ended.instance
  row_is = ended.is ∙ ap (λ (e : Evaluation). row_of ended.instance e.replies) did

  same_instance : instance_of row ≡ ended.instance
  same_instance = ap instance_of row_is

  pub ending_is : (done_in v (instance_of row)).ending ≡ end
  ending_is = ap (λ (i : Instance). (done_in v i).ending) same_instance ∙ sym (ap (λ (e : Evaluation). e.ending) did)

  pub changes_are : run.changes ≡ (done_in v (instance_of row)).changes
  changes_are = ap (λ (e : Evaluation). e.changes) did ∙ ap (λ (i : Instance). (done_in v i).changes) (sym same_instance)

  pub looks_are : run.looks ≡ (done_in v (instance_of row)).looks
  looks_are = ap (λ (e : Evaluation). e.looks) did ∙ ap (λ (i : Instance). (done_in v i).looks) (sym same_instance)

  pub true_row : row.start ≤ length v.rows → IsTrueRow (draft_tree v.set) v.opening (history_of v.rows) row
  true_row within =
      let size : length (history_of v.rows) ≡ length v.rows = length-map v.rows instance_of in
      record {
        called = subst (IsCalled (draft_tree v.set)) (sym same_instance) ended.called;
        start = omega arith;
        replies =
            ap (λ (r : HistoryRow). r.replies) row_is
            ∙ ap (λ (i : Instance). (done_in v i).replies) (sym same_instance);
      }

  pub clash_here : (found : Option (Cell × ℕ)) → IsClash (commits_in v) row.start run.changes found → IsClash (commits_in v) row.start (done_in v (instance_of row)).changes found
  clash_here found clash = subst (λ (w : ChangeSet). IsClash (commits_in v) row.start w found) changes_are clash

  pub clash_of_instance : (found : Option (Cell × ℕ)) → IsClash (commits_in v) row.start run.changes found →
      IsClash (commits_in v) ended.instance.start (done_in v ended.instance).changes found
  clash_of_instance found clash = subst (λ (i : Instance). IsClash (commits_in v) i.start (done_in v i).changes found) same_instance (clash_here found clash)

  pub same_row : row ≡ row_in v ended.instance
  same_row = row_is

module _ (v : BookView) (t : TicketView) (run : RunView) (row : HistoryRow) (ended : IsEndedRow v t run row) (is_true : IsTrueRun run) where
  -- what is kept of a clash is true
  pub true_clash : (clash : Clash) → run.end ≡ Some Ready → row.start ≤ length v.rows → IsClash (commits_in v) row.start run.changes (Some (clash.cell, clash.number)) →
      IsTrueRow (draft_tree v.set) v.opening (history_of v.rows) row × IsTrueClash (draft_tree v.set) v.opening (history_of v.rows) row clash
  true_clash clash ends within here =
      let some : Option (Cell × ℕ) = Some (clash.cell, clash.number) in
      let h = history_of v.rows in
      let size : length (commits_in v) ≡ length h = length-commits_of (draft_tree v.set) v.opening h in
      let all : take (length h) (commits_in v) ≡ commits_in v = ap (λ n. take n (commits_in v)) (sym size) ∙ take-length (commits_in v) in (
        true_row v t run row Ready ended is_true ends within,
        record {
          ready = ending_is v t run row Ready ended is_true ends;
          commits = length h;
          within = omega arith;
          clashed = subst (λ ws. IsClash ws row.start (done_in v (instance_of row)).changes some) (sym all) (clash_here v t run row Ready ended is_true ends some here);
        },
      )

  -- and so is what is kept of an abort
  pub true_abort : (cause : Cause) → run.end ≡ Some (Aborted cause) → row.start ≤ length v.rows →
      IsTrueRow (draft_tree v.set) v.opening (history_of v.rows) row × IsTrueAbort (draft_tree v.set) v.opening (history_of v.rows) row cause
  true_abort cause ends within = (
    true_row v t run row (Aborted cause) ended is_true ends within,
    record { ending = ending_is v t run row (Aborted cause) ended is_true ends },
  )

  pub may_commit : (w : ChangeSet) → run.end ≡ Some Ready → row.start ≤ length v.rows → w ≡ run.changes → IsClash (commits_in v) row.start run.changes None → IsCommit v row w
  may_commit w ends within is none = record {
    is_true = true_row v t run row Ready ended is_true ends within;
    ready = ending_is v t run row Ready ended is_true ends;
    changes = is ∙ changes_are v t run row Ready ended is_true ends;
    apart = subst (λ (x : ChangeSet). IsClash (commits_in v) row.start x None) (sym is) none;
  }

  pub is_committed : (new : BookView) (number receipt : ℕ) → run.end ≡ Some Ready → IsClash (commits_in v) row.start run.changes None → number ≡ t.number →
      receipt ≡ length v.rows + 1 → new ≡ committed_in v number row → IsCommitted v new t run receipt
  is_committed new number receipt ends none same next after = record {
    instance = ended.instance;
    active = ended.active;
    ready = ends;
    own = ended.own;
    apart = clash_of_instance v t run row Ready ended is_true ends None none;
    number = next;
    after = after ∙ ap (λ n. committed_in v n row) same ∙ ap (committed_in v t.number) (same_row v t run row Ready ended is_true ends);
  }

  pub is_clashed : (new : BookView) (clash : Clash) (number : ℕ) → run.end ≡ Some Ready → IsClash (commits_in v) row.start run.changes (Some (clash.cell, clash.number)) →
      number ≡ t.number → new ≡ ended_in v number (ending.Clashed row clash) → IsClashed v new t run clash
  is_clashed new clash number ends here same after = record {
    instance = ended.instance;
    active = ended.active;
    ready = ends;
    own = ended.own;
    clashed = clash_of_instance v t run row Ready ended is_true ends (Some (clash.cell, clash.number)) here;
    after = after ∙ ap (λ n. ended_in v n (ending.Clashed row clash)) same ∙ ap (λ r. ended_in v t.number (ending.Clashed r clash)) (same_row v t run row Ready ended is_true ends);
  }

  pub is_aborted : (new : BookView) (cause : Cause) (number : ℕ) → run.end ≡ Some (Aborted cause) → number ≡ t.number →
      new ≡ ended_in v number (ending.Aborted row cause) → IsAborted v new t run
  is_aborted new cause number ends same after = record {
    instance = ended.instance;
    active = ended.active;
    cause = cause;
    aborted = ends;
    own = ended.own;
    after = after ∙ ap (λ n. ended_in v n (ending.Aborted row cause)) same ∙ ap (λ r. ended_in v t.number (ending.Aborted r cause)) (same_row v t run row (Aborted cause) ended is_true ends);
  }
