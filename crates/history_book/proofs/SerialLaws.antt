-- A lawful history and an order in which no dependency runs backward: one after another, each instance does what it did.
use Rattle.std.proofs.Common.{◌≡◌, ℤ, ℕ, ◌+◌, List, [], ◌∷◌, length, refl, ap, sym, ◌∙◌}
use Rattle.std.specs.Prelude.{Option, Some, None, IsTrue, slice_get, unwrap_or}
use Rattle.prog_tree.specs.declared.cell.Cell.{Cell}
use Rattle.prog_tree.specs.declared.deed.End.TheVariants.{Ready}
use Rattle.prog_tree.specs.ChangeSet.{change_at, changed}
use Rattle.prog_tree.specs.Evaluation.{Evaluation}
use Rattle.prog_tree.specs.LookedAt.{has_looked}
use Rattle.prog_tree.specs.Syntax.{ProgramTree, DraftTree}
use Rattle.prog_tree.specs.Table.{TableState, IsTableState, row_at}
use Rattle.prog_tree.proofs.ChangedLemmas.{row_at-changed}
use Rattle.prog_tree.proofs.LookLaws.{by_looks}
use Rattle.prog_tree.proofs.TableStates.{same_state, IsTableState-changed}
use Rattle.history_book.specs.Dependencies.{run_found, start_found, start_at, evaluation_at}
use Rattle.history_book.specs.History.{Instance, eval_found, eval_of, nth_instance, state_after, evaluation, IsLawful}
use Rattle.serial_orders.specs.Orders.{IsUpTo}
use Rattle.history_book.specs.Serial.{RunsTheSame, Runs}
use Rattle.history_book.proofs.DependencyLaws.{Looks, DependsOn, found_at, start_at-below}
use Rattle.serial_orders.proofs.InTurn.{IsPlaced, FitsAfter}
use Rattle.serial_orders.proofs.RunsInOrder.{IsRun, after, eval-after, after-fine, after-is_state}
use Rattle.history_book.proofs.StateLaws.{state_after-next, IsTableState-state_after}

-- what an instance does depends on the cells that it looks at alone
eval_of-by_looks :
    (set : DraftTree) (i : Instance) (m n : TableState) → IsTableState m → IsTableState n →
    ((c : Cell) → IsTrue (has_looked (eval_of set i m) c) → row_at n c ≡ row_at m c) → eval_of set i n ≡ eval_of set i m
unfolding eval_of
eval_of-by_looks set i m n ordered also agree = go (slice_get set.programs i.program) agree
  where
    go : (o : Option ProgramTree) → ((c : Cell) → IsTrue (has_looked (eval_found o set.tables i.args m) c) → row_at n c ≡ row_at m c) →
        eval_found o set.tables i.args n ≡ eval_found o set.tables i.args m
    go None a = refl
    go (Some p) a = by_looks set.tables p i.args m n ordered also a

-- also on a state that is no state of the history
evaluation_by_looks :
    (set : DraftTree) (opening : TableState) (h : List Instance) (i : Instance) (m : TableState) → IsTableState opening → IsTableState m →
    ((c : Cell) → IsTrue (has_looked (evaluation set opening h i) c) → row_at m c ≡ row_at (state_after set opening h i.start) c) → eval_of set i m ≡ evaluation set opening h i
evaluation_by_looks set opening h i m ordered also agree =
    eval_of-by_looks set i (state_after set opening h i.start) m (IsTableState-state_after set opening h i.start ordered) also agree

abbrev change_of : Evaluation → Cell → Option (Option ℤ)
change_of e c = change_at e.changes c

abbrev apply : Evaluation → TableState → TableState
apply e m = changed m e.changes.cells

apply-at : (e : Evaluation) (m : TableState) (c : Cell) → row_at (apply e m) c ≡ unwrap_or (change_of e c) (row_at m c)
apply-at e m c = row_at-changed m e.changes.cells c

apply-ordered : (e : Evaluation) (m : TableState) → IsTableState m → IsTableState (apply e m)
apply-ordered e m ordered = IsTableState-changed m e.changes.cells ordered

module _ (set : DraftTree) (opening : TableState) (h : List Instance) where
  abbrev runs_on : ℕ → TableState → Evaluation
  runs_on n m = run_found set (nth_instance h n) m

  module _ (lawful : IsLawful set opening h) (ordered : IsTableState opening) where
    by_found : (o : Option Instance) (m : TableState) → IsTableState m →
        ((c : Cell) → IsTrue (has_looked (run_found set o (state_after set opening h (start_found o))) c) → row_at m c ≡ row_at (state_after set opening h (start_found o)) c) →
        run_found set o m ≡ run_found set o (state_after set opening h (start_found o))
    by_found None m fine agree = refl
    by_found (Some b) m fine agree = evaluation_by_looks set opening h b m ordered fine agree

    run : IsRun Cell (Option ℤ) Evaluation TableState row_at change_of apply apply-at opening (length h) (start_at h) runs_on (Looks set opening h) (state_after set opening h) IsTableState apply-ordered
    run = record {
      starts = λ i one. start_at-below h lawful.starts i one;
      state-zero = refl;
      state-suc = λ k one.
          let f = found_at h (k + 1) one in
          state_after-next set opening h lawful.starts k f.0 f.1
          ∙ ap (λ o. changed (state_after set opening h k) (run_found set o (state_after set opening h (start_found o))).changes.cells) (sym f.1);
      fine = ordered;
      by_looks = λ i m one fine agree. by_found (nth_instance h i) m fine agree;
    }

    abbrev left_by : List ℕ → TableState
    left_by = after Cell (Option ℤ) Evaluation TableState row_at change_of apply apply-at opening (length h) (start_at h) runs_on (Looks set opening h) (state_after set opening h) IsTableState apply-ordered

    ready_at : (n : ℕ) → IsUpTo (length h) n → (evaluation_at set opening h n).ending ≡ Ready
    ready_at n one =
        let f = found_at h n one in
        ap (λ o. (run_found set o (state_after set opening h (start_found o))).ending) f.1 ∙ lawful.ready n f.0 f.1

    same_after : (done ns : List ℕ) → IsPlaced (length h) (DependsOn set opening h) done → FitsAfter (length h) (DependsOn set opening h) done ns → RunsTheSame set opening h ns (left_by done)
    same_after done [] placed all =
        same_state (left_by done) (state_after set opening h (length h))
        (after-fine Cell (Option ℤ) Evaluation TableState row_at change_of apply apply-at opening (length h) (start_at h) runs_on (Looks set opening h) (state_after set opening h) IsTableState apply-ordered run done placed)
        (IsTableState-state_after set opening h (length h) ordered)
        (after-is_state Cell (Option ℤ) Evaluation TableState row_at change_of apply apply-at opening (length h) (start_at h) runs_on (Looks set opening h) (state_after set opening h) IsTableState apply-ordered run done placed all)
    same_after done (n ∷ ns) placed fits = (
      eval-after Cell (Option ℤ) Evaluation TableState row_at change_of apply apply-at opening (length h) (start_at h) runs_on (Looks set opening h) (state_after set opening h) IsTableState apply-ordered run n done (fits.0, placed),
      same_after (n ∷ done) ns (fits.0, placed) fits.1,
    )

    runs_after : (done ns : List ℕ) (m : TableState) → FitsAfter (length h) (DependsOn set opening h) done ns → RunsTheSame set opening h ns m → Runs set opening h ns m
    runs_after done [] m fits same = same
    runs_after done (n ∷ ns) m fits same =
        ((ap (λ e. e.ending) same.0 ∙ ready_at n fits.0.0, ap (λ e. e.replies) same.0), runs_after (n ∷ done) ns (changed m (runs_on n m).changes.cells) fits.1 same.1)

    -- in an order in which each instance comes after all that it depends on, the instances do one after another what they did
    pub serial_runs_same : (order : List ℕ) → FitsAfter (length h) (DependsOn set opening h) [] order → RunsTheSame set opening h order opening
    serial_runs_same order fits = same_after [] order tt fits

    pub serial_runs : (order : List ℕ) → FitsAfter (length h) (DependsOn set opening h) [] order → Runs set opening h order opening
    serial_runs order fits = runs_after [] order opening fits (serial_runs_same order fits)
