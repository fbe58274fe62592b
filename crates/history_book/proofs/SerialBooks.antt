-- Serial runs along an order, and the books in which they were made.
use Rattle.std.proofs.Common.{◌≡◌, ℕ, suc, ◌+◌, ◌-◌, ◌<◌, ◌≤◌, Bool, true, false, true≢false, List, [], ◌∷◌, ◌++◌, length, take, drop, get_or, ap, sym, ◌∙◌, subst, append_assoc, arith}
use Rattle.std.specs.Prelude.{Some, None, IsTrue, ◌↔◌, fold}
use Rattle.std.proofs.Math.Seq.{take-length, drop-cons, drop-length}
use Rattle.std.proofs.lemmas.Grind.{fold-append}
use Rattle.std.proofs.lemmas.List.{length-append, length-map, map-append}
use Rattle.std.proofs.lemmas.Option.{slice_get-map, slice_get-get_or}
use Rattle.std.specs.Option.{option_map}
use Rattle.prog_tree.specs.declared.deed.Cause.TheVariants.{Asked}
use Rattle.prog_tree.specs.declared.deed.End.TheVariants.{Ready, Aborted}
use Rattle.prog_tree.specs.ChangeSet.{ChangeSet, changed}
use Rattle.prog_tree.specs.Evaluation.{Evaluation}
use Rattle.prog_tree.specs.Table.{TableState}
use Rattle.prog_tree.specs.Tree.{draft_tree}
use Rattle.version_store.specs.Commits.{state_at}
use Rattle.history_book.specs.Audit.{taken_up}
use Rattle.history_book.specs.Dependencies.{run_found, start_found, evaluation_at}
use Rattle.history_book.specs.History.{commits_of, eval_of, evaluation, nth_instance, state_after}
use Rattle.history_book.specs.Repeats.{newest_state, done_again, IsSameAgain, begun_again}
use Rattle.history_book.specs.Serial.{Runs, Fits, is_each_once}
use Rattle.history_book.specs.TrueBook.{IsTrueBook, IsTrueRow}
use Rattle.history_book.specs.View.{BookView, instance_of, history_of, most_endings}
use Rattle.history_book.specs.declared.instances.row.Ending.TheVariants.{Committed}
use Rattle.history_book.specs.declared.instances.row.HistoryRow.{HistoryRow}
use Rattle.history_book.proofs.HistoryLaws.{length-commits_of, commits_of-push}
use Rattle.history_book.proofs.EndingLaws.{few_commits}
use Rattle.history_book.proofs.StateLaws.{nth_instance-back}
use Rattle.serial_orders.specs.Orders.{is_one_of}
use Rattle.history_book.proofs.OnceLaws.{whole, not_twice, next_within}
use Rattle.history_book.proofs.RepeatLaws.{again_is, never}

-- ---- the newest state

last_state : (m : TableState) (ws : List ChangeSet) (n : ℕ) → n ≡ length ws → state_at m ws n ≡ fold (λ s w. changed s w.cells) m ws
last_state m ws n all = ap (fold (λ s w. changed s w.cells) m) (ap (λ k. take k ws) all ∙ take-length ws)

-- the newest state after a row was taken up again
newest-taken : (v : BookView) (row : HistoryRow) → newest_state (taken_up v (begun_again v row)) ≡ changed (newest_state v) (done_again v row).changes.cells
newest-taken v row =
    let set = draft_tree v.set in
    let h = history_of v.rows in
    let again = begun_again v row in
    let ws = commits_of set v.opening h in
    let w = (evaluation set v.opening h (instance_of again)).changes in
    let long : commits_of set v.opening (history_of (v.rows ++ again ∷ [])) ≡ ws ++ w ∷ [] =
    ap (commits_of set v.opening) (map-append instance_of v.rows (again ∷ [])) ∙ commits_of-push set v.opening h (instance_of again) in
    let step : TableState → ChangeSet → TableState = λ m c. changed m c.cells in
    let size : length ws ≡ length v.rows = omega (arith, length-commits_of set v.opening h, length-map v.rows instance_of) in
    let all : length (v.rows ++ again ∷ []) ≡ length (ws ++ w ∷ []) = omega (arith, size, length-append v.rows (again ∷ []), length-append ws (w ∷ [])) in
    ap (λ cs. state_at v.opening cs (length (v.rows ++ again ∷ []))) long
    ∙ last_state v.opening (ws ++ w ∷ []) (length (v.rows ++ again ∷ [])) all
    ∙ fold-append step v.opening ws (w ∷ [])
    ∙ ap (λ m. changed m w.cells) (sym (last_state v.opening ws (length v.rows) (sym size)))
    ∙ ap (λ (e : Evaluation). changed (newest_state v) e.changes.cells) (again_is v row)

-- ---- the runs of an order

abbrev RunsOf : BookView → List ℕ → TableState → Type 0
RunsOf v = Runs (draft_tree v.set) v.opening (history_of v.rows)

-- a book in which the first n instances of an order were run again; the order runs from the opening rows just where
-- the rest of it runs from the newest state
pub record IsSerial (v serial : BookView) (order : List ℕ) (n : ℕ) : Type 0 where
  pub set : serial.set ≡ v.set
  pub opening : serial.opening ≡ v.opening
  pub active : serial.active ≡ []
  pub endings : length serial.endings ≡ n
  pub begun : serial.begun ≡ n
  pub runs : RunsOf v (drop n order) (newest_state serial) ↔ RunsOf v order v.opening

-- the first instance of a run, which is that of a row
module _ (v : BookView) (row : HistoryRow) (number : ℕ) (rest : List ℕ) (m : TableState) (found : nth_instance (history_of v.rows) number ≡ Some (instance_of row))
    (is_true : IsTrueRow (draft_tree v.set) v.opening (history_of v.rows) row) where
  abbrev done : Evaluation
  done = eval_of (draft_tree v.set) (instance_of row) m

  done_is : run_found (draft_tree v.set) (nth_instance (history_of v.rows) number) m ≡ done
  done_is = ap (λ o. run_found (draft_tree v.set) o m) found

  replies_are : (evaluation_at (draft_tree v.set) v.opening (history_of v.rows) number).replies ≡ row.replies
  replies_are =
      ap (λ o. (run_found (draft_tree v.set) o (state_after (draft_tree v.set) v.opening (history_of v.rows) (start_found o))).replies) found
      ∙ sym is_true.replies

  first_runs : (done.ending ≡ Ready) × (done.replies ≡ row.replies) × RunsOf v rest (changed m done.changes.cells) → RunsOf v (number ∷ rest) m
  first_runs runs = (
    (ap (λ (e : Evaluation). e.ending) done_is ∙ runs.0, ap (λ (e : Evaluation). e.replies) done_is ∙ runs.1 ∙ sym replies_are),
    subst (λ (e : Evaluation). RunsOf v rest (changed m e.changes.cells)) (sym done_is) runs.2,
  )

  runs_first : RunsOf v (number ∷ rest) m → (done.ending ≡ Ready) × (done.replies ≡ row.replies) × RunsOf v rest (changed m done.changes.cells)
  runs_first runs = (
    sym (ap (λ (e : Evaluation). e.ending) done_is) ∙ runs.0.0,
    sym (ap (λ (e : Evaluation). e.replies) done_is) ∙ runs.0.1 ∙ replies_are,
    subst (λ (e : Evaluation). RunsOf v rest (changed m e.changes.cells)) done_is runs.1,
  )

-- a number of no commit does not run
no_run : (v : BookView) (number : ℕ) (rest : List ℕ) (m : TableState) → nth_instance (history_of v.rows) number ≡ None → RunsOf v (number ∷ rest) m → ⊥
no_run v number rest m none runs =
    let ends : Aborted Asked ≡ Ready = sym (ap (λ o. (run_found (draft_tree v.set) o m).ending) none) ∙ runs.0.0 in
    absurd (cc)

-- ---- one instance after another

abbrev FitsIn : BookView → List ℕ → Type 0
FitsIn v = Fits (draft_tree v.set) v.opening (history_of v.rows)

module _ (v serial : BookView) (order : List ℕ) (n number d : ℕ) (so_far : IsSerial v serial order n) (within : n < length order) (at : number ≡ get_or order n d) where
  here : drop n order ≡ number ∷ drop (suc n) order
  here = drop-cons order n d within ∙ ap (λ x. x ∷ drop (suc n) order) (sym at)

  rest_runs : RunsOf v order v.opening → RunsOf v (number ∷ drop (suc n) order) (newest_state serial)
  rest_runs runs = subst (λ o. RunsOf v o (newest_state serial)) here (so_far.runs.1 runs)

  pub no_such_number : nth_instance (history_of v.rows) number ≡ None → IsTrue false ↔ FitsIn v order
  no_such_number none = never (λ (fits : FitsIn v order). no_run v number (drop (suc n) order) (newest_state serial) none (rest_runs fits.runs))

  module _ (row : HistoryRow) (found : nth_instance (history_of v.rows) number ≡ Some (instance_of row)) (is_true : IsTrueRow (draft_tree v.set) v.opening (history_of v.rows) row) where
    same_done : eval_of (draft_tree v.set) (instance_of row) (newest_state serial) ≡ done_again serial row
    same_done = ap (λ s. eval_of (draft_tree s) (instance_of row) (newest_state serial)) (sym so_far.set)

    pub not_again : (b : Bool) → IsTrue b ↔ IsSameAgain serial row → b ≡ false → IsTrue false ↔ FitsIn v order
    not_again b tells not = never (λ (fits : FitsIn v order).
        let runs = runs_first v row number (drop (suc n) order) (newest_state serial) found is_true (rest_runs fits.runs) in
        let same : IsSameAgain serial row = (sym (ap (λ (e : Evaluation). e.ending) same_done) ∙ runs.0, sym (ap (λ (e : Evaluation). e.replies) same_done) ∙ runs.1) in
        true≢false (sym (tells.1 same) ∙ not))

    pub one_more_again : (new : BookView) → IsSameAgain serial row → new ≡ taken_up serial (begun_again serial row) → IsSerial v new order (n + 1)
    one_more_again new same taken =
        let next : suc n ≡ n + 1 = omega arith in
        let ending = ap (λ (e : Evaluation). e.ending) same_done ∙ same.0 in
        let replies = ap (λ (e : Evaluation). e.replies) same_done ∙ same.1 in
        let state : changed (newest_state serial) (eval_of (draft_tree v.set) (instance_of row) (newest_state serial)).changes.cells ≡ newest_state (taken_up serial (begun_again serial row)) =
        ap (λ (e : Evaluation). changed (newest_state serial) e.changes.cells) same_done ∙ sym (newest-taken serial row) in
        let left = drop (suc n) order in
        subst (λ (b : BookView). IsSerial v b order (n + 1)) (sym taken) (record {
          set = so_far.set;
          opening = so_far.opening;
          active = so_far.active;
          endings = omega (arith, so_far.endings, length-append serial.endings (Committed (length serial.rows + 1) ∷ []));
          begun = ap (λ k. k + 1) so_far.begun;
          runs = (
            λ (runs : RunsOf v (drop (n + 1) order) (newest_state (taken_up serial (begun_again serial row)))).
                let later : RunsOf v left (changed (newest_state serial) (eval_of (draft_tree v.set) (instance_of row) (newest_state serial)).changes.cells) =
                subst (RunsOf v left) (sym state) (subst (λ k. RunsOf v (drop k order) (newest_state (taken_up serial (begun_again serial row)))) (sym next) runs) in
                so_far.runs.0 (subst (λ o. RunsOf v o (newest_state serial)) (sym here)
                (first_runs v row number left (newest_state serial) found is_true (ending, replies, later))),
            λ (runs : RunsOf v order v.opening).
                let later = runs_first v row number left (newest_state serial) found is_true (rest_runs runs) in
                subst (λ k. RunsOf v (drop k order) (newest_state (taken_up serial (begun_again serial row)))) next (subst (RunsOf v left) state later.2),
          );
        })

-- ---- the end of an order

pub at_end : (v serial : BookView) (order : List ℕ) (n : ℕ) (once b : Bool) (rows newest : TableState) → IsSerial v serial order n → n ≡ length order →
    once ≡ is_each_once (length v.rows) order → once ≡ true → rows ≡ newest_state serial → newest ≡ newest_state v → IsTrue b ↔ (rows ≡ newest) → IsTrue b ↔ FitsIn v order
at_end v serial order n once b rows newest so_far all once_is is_once rows_are newest_is tells =
    let size : length (history_of v.rows) ≡ length v.rows = length-map v.rows instance_of in
    let none : drop n order ≡ [] = ap (λ k. drop k order) all ∙ drop-length order in
    let last : newest_state v ≡ state_after (draft_tree v.set) v.opening (history_of v.rows) (length (history_of v.rows)) =
    ap (state_after (draft_tree v.set) v.opening (history_of v.rows)) (sym size) in (
      λ (h : IsTrue b). record {
        once = ap (λ k. is_each_once k order) size ∙ sym once_is ∙ is_once;
        runs = so_far.runs.0 (subst (λ o. RunsOf v o (newest_state serial)) (sym none) (sym rows_are ∙ tells.0 h ∙ newest_is ∙ last));
      },
      λ (fits : FitsIn v order).
          let same : newest_state serial ≡ state_after (draft_tree v.set) v.opening (history_of v.rows) (length (history_of v.rows)) =
          subst (λ o. RunsOf v o (newest_state serial)) none (so_far.runs.1 fits.runs) in
          tells.1 (rows_are ∙ same ∙ sym last ∙ sym newest_is),
    )

-- ---- the rows of a book

item_known : (rows items : List HistoryRow) (row : HistoryRow) (number : ℕ) → items ≡ rows → row ≡ get_or items (number - 1) row → row ≡ get_or rows (number - 1) row
item_known rows items row number same at = at ∙ ap (λ (xs : List HistoryRow). get_or xs (number - 1) row) same

pub row_known : (rows items : List HistoryRow) (row : HistoryRow) (number : ℕ) → items ≡ rows → row ≡ get_or items (number - 1) row → 1 ≤ number → number ≤ length rows →
    nth_instance (history_of rows) number ≡ Some (instance_of row)
row_known rows items row number same at first last =
    nth_instance-back (history_of rows) number first
    ∙ slice_get-map instance_of rows (number - 1)
    ∙ ap (option_map instance_of) (slice_get-get_or rows (number - 1) row (omega arith) ∙ ap (λ (r : HistoryRow). Some r) (sym (item_known rows items row number same at)))

pub row_true : (v : BookView) (items : List HistoryRow) (row : HistoryRow) (number : ℕ) → IsTrueBook v → items ≡ v.rows → row ≡ get_or items (number - 1) row → 1 ≤ number →
    number ≤ length v.rows → IsTrueRow (draft_tree v.set) v.opening (history_of v.rows) row
row_true v items row number book same at first last =
    subst (IsTrueRow (draft_tree v.set) v.opening (history_of v.rows)) (sym (item_known v.rows items row number same at)) (book.rows (number - 1) row (omega arith))

pub rows_few : (v : BookView) → IsTrueBook v → length v.rows ≤ most_endings
rows_few v book = omega (arith, few_commits v.endings (length v.rows) book.numbered, book.few)

-- ---- orders that begin with some numbers

-- no order fits that goes on behind the placed numbers with one from 1 to k
abbrev pub NoneUpTo : BookView → List ℕ → ℕ → Type 0
NoneUpTo v placed k = (m : ℕ) → 1 ≤ m → m ≤ k → (rest : List ℕ) → FitsIn v (placed ++ m ∷ rest) → ⊥

once_in : (v : BookView) (order : List ℕ) → FitsIn v order → is_each_once (length v.rows) order ≡ true
once_in v order fits = ap (λ n. is_each_once n order) (sym (length-map v.rows instance_of)) ∙ fits.once

-- a number that is placed already can't be placed again
pub placed_already : (v : BookView) (placed rest : List ℕ) (m : ℕ) → is_one_of placed m ≡ true → FitsIn v (placed ++ m ∷ rest) → ⊥
placed_already v placed rest m has fits = not_twice (length v.rows) placed rest m has (once_in v (placed ++ m ∷ rest) fits)

-- where none of all numbers goes on, no order begins so
pub none_begins : (v : BookView) (placed rest : List ℕ) (k : ℕ) → (length placed ≡ length v.rows → ⊥) → length v.rows ≤ k → NoneUpTo v placed k → FitsIn v (placed ++ rest) → ⊥
none_begins v placed [] k other all none fits =
    let w = whole (length v.rows) (placed ++ []) (once_in v (placed ++ []) fits) in
    other (omega (arith, w.size, length-append placed []))
none_begins v placed (m ∷ rest) k other all none fits =
    let at = next_within (length v.rows) placed rest m (once_in v (placed ++ m ∷ rest) fits) in
    none m at.0 (omega (arith, at.1)) rest fits

-- none fits behind the placed numbers and one more
pub none_behind : (v : BookView) (placed pushed rest : List ℕ) (m : ℕ) → pushed ≡ placed ++ m ∷ [] → ((later : List ℕ) → FitsIn v (pushed ++ later) → ⊥) → FitsIn v (placed ++ m ∷ rest) → ⊥
none_behind v placed pushed rest m is none fits =
    none rest (subst (FitsIn v) (sym (append_assoc placed (m ∷ []) rest) ∙ ap (λ xs. xs ++ rest) (sym is)) fits)
