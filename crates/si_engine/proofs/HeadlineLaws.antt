-- The headline, from a serial order that fits the machine's history.
use Rattle.std.proofs.Common.{◌≡◌, ℕ, zero, suc, ◌<◌, true, List, [], ◌∷◌, ◌++◌, length, ap, sym, ◌∙◌, subst, arith, append_assoc}
use Rattle.std.specs.Prelude.{slice_get, Some}
use Rattle.std.specs.List.{zip}
use Rattle.std.proofs.lemmas.Option.{slice_get_within}
use Rattle.prog_tree.specs.declared.program.Draft.{Draft}
use Rattle.prog_tree.specs.Tree.{draft_tree}
use Rattle.prog_tree.specs.ChangeSet.{changed}
use Rattle.prog_tree.specs.Evaluation.{Evaluation}
use Rattle.prog_tree.specs.Syntax.{DraftTree}
use Rattle.prog_tree.specs.Table.{TableState}
use Rattle.prog_tree.proofs.Elements.{element_at}
use Rattle.history_book.specs.Dependencies.{run_found, start_found, evaluation_at}
use Rattle.history_book.specs.History.{Instance, eval_of, nth_instance, evaluation, state_after}
use Rattle.history_book.specs.Serial.{is_each_once, Runs, Fits}
use Rattle.history_book.specs.View.{BookView, history_of, FitsBook}
use Rattle.history_book.proofs.OnceLaws.{next_within}
use Rattle.si_engine.specs.declared.event.Event.{Event}
use Rattle.si_engine.specs.declared.robust.run.Outcome.{Outcome}
use Rattle.si_engine.specs.Headline.{Exchange, IsReadyWith, IsCommittedAs, committed_at, commits_said, run_of, RunsAlong, rows_of_machine, Headline}
use Rattle.si_engine.specs.Machine.{Machine, new_machine, replies_of, machine_after}
use Rattle.si_engine.specs.View.{EngineView}
use Rattle.si_engine.proofs.ToldLaws.{call_of_instance, IsTold, IsToldCommit, all_told}

-- what holds of an engine that was opened
pub at_start : {A : Type 0} (f : Draft → TableState → Machine → A) (e : EngineView) (given set : Draft) (rows : TableState) →
    e ≡ record { set = given; opening = rows; machine = new_machine } → given ≡ set → f e.set e.opening e.machine ≡ f set rows new_machine
at_start f e given set rows opened same = ap (λ (v : EngineView). f v.set v.opening v.machine) opened ∙ ap (λ d. f d rows new_machine) same

-- an order that fits a book fits the machine's history
pub fits_machine : (b : BookView) (d : Draft) (rows : TableState) (m : Machine) (order : List ℕ) →
    b.set ≡ d → b.opening ≡ rows → history_of b.rows ≡ m.history → FitsBook b order → Fits (draft_tree d) rows m.history order
fits_machine b d rows m order same opened history fits =
    subst (λ (h : List Instance). Fits (draft_tree d) rows h order) history
    (subst (λ (r : TableState). Fits (draft_tree d) r (history_of b.rows) order) opened
    (subst (λ (e : Draft). Fits (draft_tree e) b.opening (history_of b.rows) order) same fits))

module _ (set : DraftTree) (opening : TableState) (events : List Event) (o : Outcome) where
  abbrev machine : Machine
  machine = machine_after set opening events new_machine

  abbrev history : List Instance
  history = machine.history

  abbrev said : List Exchange
  said = zip events o.replies

  module _ (replies_are : o.replies ≡ replies_of set opening events new_machine) (committed_are : o.committed ≡ commits_said said) (table_is : o.table ≡ rows_of_machine set opening machine) where
    told : IsTold set opening said machine
    told = subst (λ rs. IsTold set opening (zip events rs) machine) (sym replies_are) (all_told set opening events)

    -- a commit by its place
    commit_at : (k : ℕ) → k < length history → (b : Instance) × (slice_get history k ≡ Some b) × IsToldCommit set opening said machine k b
    commit_at k inside = let found = element_at history k inside in (found.0, found.1, told.commits k found.0 found.1)

    numbered : (i n : ℕ) → IsCommittedAs said i n → committed_at o.committed n ≡ Some i
    numbered i n was = ap (λ l. committed_at l n) committed_are ∙ told.numbered i n was

    was_told : (n i : ℕ) → committed_at o.committed n ≡ Some i → IsCommittedAs said i n
    was_told zero i at = absurd (cc)
    was_told (suc k) i at =
        let inside = slice_get_within o.committed k i at in
        let long = ap length committed_are ∙ told.counted in
        let found = commit_at k (omega (arith, inside, long)) in
        let c = found.2 in
        let one : Some i ≡ Some c.instance = sym at ∙ numbered c.instance (suc k) c.committed in
        let same : c.instance ≡ i = cc in
        subst (λ j. IsCommittedAs said j (suc k)) same c.committed

    along : (placed ns : List ℕ) → is_each_once (length history) (placed ++ ns) ≡ true → (m : TableState) → Runs set opening history ns m →
        RunsAlong set said o.committed o.table ns m
    unfolding eval_of
    along placed [] once m last = last ∙ sym table_is
    along placed (zero ∷ ns) once m runs = let low = (next_within (length history) placed ns zero once).0 in absurd (omega (arith, low))
    along placed (suc k ∷ ns) once m runs =
        let range = next_within (length history) placed ns (suc k) once in
        let inside = range.1 in
        let found = commit_at k (omega (arith, inside)) in
        let b = found.0 in
        let c = found.2 in
        let at_number : nth_instance history (suc k) ≡ Some b = found.1 in
        let same : run_found set (nth_instance history (suc k)) m ≡ run_of set (call_of_instance b) m = ap (λ x. run_found set x m) at_number in
        let did : evaluation_at set opening history (suc k) ≡ evaluation set opening history b =
        ap (λ x. run_found set x (state_after set opening history (start_found x))) at_number in
        let replies = ap (λ (e : Evaluation). e.replies) (sym same) ∙ runs.0.1 ∙ ap (λ (e : Evaluation). e.replies) did in (
          call_of_instance b,
          (
            ap (λ (e : Evaluation). e.ending) (sym same) ∙ runs.0.0,
            record {
              instance = c.instance;
              at = numbered c.instance (suc k) c.committed;
              begun = c.begun;
              ready = subst (IsReadyWith said c.instance) (sym replies) c.ready;
            },
            along (placed ++ suc k ∷ []) ns (subst (λ l. is_each_once (length history) l ≡ true) (sym (append_assoc placed (suc k ∷ []) ns)) once)
                (changed m (run_of set (call_of_instance b) m).changes.cells)
                (subst (λ (e : Evaluation). Runs set opening history ns (changed m e.changes.cells)) same runs.1),
          ),
        )

    pub headline : Fits set opening history o.order → Headline set opening events o
    headline fits = record {
      replies = replies_are;
      committed = λ n i. (was_told n i, numbered i n);
      once =
          let long = ap length committed_are ∙ told.counted in
          subst (λ n. is_each_once n o.order ≡ true) (sym long) fits.once;
      serial = along [] o.order fits.once opening fits.runs;
      table = table_is;
    }
