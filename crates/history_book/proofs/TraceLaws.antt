-- The traces of a history say what depends on what in it.
use Rattle.std.proofs.Common.{◌≡◌, ◌∙◌, ◌==◌, ℕ, zero, suc, ◌<◌, ◌≤◌, nat_lt, ℤ, Bool, ◌&&◌, ◌||◌, not, List, [], ◌∷◌, ◌++◌, length, map, refl, ap, sym, arith}
use Rattle.std.specs.Prelude.{nat_le, Option, Some, None, is_some, slice_get, unwrap_or}
use Rattle.std.specs.Option.{option_map}
use Rattle.std.specs.List.{list_any}
use Rattle.std.proofs.lemmas.List.{map-append}
use Rattle.std.proofs.lemmas.Option.{slice_get-map, slice_get_within}
use Rattle.prog_tree.specs.declared.cell.Cell.{Cell}
use Rattle.prog_tree.specs.declared.look.Look.{Look}
use Rattle.prog_tree.specs.declared.look.Look.TheVariants as look
use Rattle.prog_tree.specs.ChangeSet.{ChangedCells, change_at}
use Rattle.prog_tree.specs.Evaluation.{Evaluation}
use Rattle.prog_tree.specs.LookedAt.{looks_at, some_looks_at, has_looked}
use Rattle.prog_tree.specs.Syntax.{DraftTree}
use Rattle.prog_tree.specs.Table.{TableState, cells_of}
use Rattle.history_book.specs.Dependencies.{run_found, start_found, start_at, changes_some, evaluation_at, depends}
use Rattle.history_book.specs.History.{Instance, state_after, StartsBelow}
use Rattle.serial_orders.specs.Orders.{IsReduced}
use Rattle.serial_orders.specs.Placing.{IsOrderFault}
use Rattle.serial_orders.specs.TraceView.{TraceView}
use Rattle.serial_orders.specs.Traces.{sight_of, trace_of, takes_in, looked_at, changed_at, trace_at, SeesEarlier, some_changed, trace_depends, no_trace}
use Rattle.history_book.specs.Traced.{trace_in, traces_of}
use Rattle.prog_tree.specs.Tree.{draft_tree}
use Rattle.prog_tree.proofs.CellSets.{among-some}
use Rattle.history_book.specs.TrueBook.{IsTrueBook}
use Rattle.history_book.specs.View.{BookView, instance_of, history_of, traces_in}
use Rattle.history_book.specs.declared.instances.row.HistoryRow.{HistoryRow}
use Rattle.serial_orders.specs.declared.order.OrderFault.{OrderFault}
use Rattle.serial_orders.specs.declared.order.OrderFault.TheVariants as fault
use Rattle.history_book.proofs.HistoryLaws.{evaluation-push}
use Rattle.serial_orders.proofs.ReducedLaws.{cycle_same}
use Rattle.prog_check.proofs.NameLemmas.{list_any-map}

-- ---- tests

any_same : {X : Type 0} (p q : X → Bool) (xs : List X) → ((x : X) → p x ≡ q x) → list_any p xs ≡ list_any q xs
any_same p q xs same i = list_any (λ x. same x i) xs

takes_looks : (l : Look) (c : Cell) → takes_in (sight_of l) c ≡ looks_at l c
takes_looks (look.One cell held) c = refl
takes_looks (look.Range region own rows) c = refl

looked_has : (start : ℕ) (changes : ChangedCells) (looks : List Look) (c : Cell) → looked_at (trace_of start changes looks) c ≡ some_looks_at looks c
looked_has start changes looks c =
    list_any-map (λ s. takes_in s c) sight_of looks
    ∙ any_same (λ (l : Look). takes_in (sight_of l) c) (λ l. looks_at l c) looks (λ l. takes_looks l c)

some_changes : (p q : Cell → Bool) (start : ℕ) (changes : ChangedCells) (looks : List Look) → ((c : Cell) → p c ≡ q c) → some_changed p (trace_of start changes looks) ≡ changes_some q changes
some_changes p q start changes looks same =
    any_same p q (cells_of changes) same ∙ list_any-map q (λ (e : Cell × Option ℤ). e.0) changes

-- ---- the same dependencies

module _ (set : DraftTree) (opening : TableState) (h : List Instance) where
  abbrev at : ℕ → Evaluation
  at n = evaluation_at set opening h n

  abbrev trace : ℕ → TraceView
  trace n = trace_of (start_at h n) (at n).changes.cells (at n).looks

  trace_is : (n : ℕ) → trace_at (traces_of set opening h) (suc n) ≡ trace (suc n)
  trace_is n =
      ap (λ (o : Option TraceView). unwrap_or o no_trace) (slice_get-map (trace_in set opening h) h n)
      ∙ go (slice_get h n)
    where
      go : (o : Option Instance) →
          unwrap_or (option_map (trace_in set opening h) o) no_trace
          ≡ trace_of (start_found o) (run_found set o (state_after set opening h (start_found o))).changes.cells (run_found set o (state_after set opening h (start_found o))).looks
      go None = refl
      go (Some b) = refl

  trace_of_number : (n : ℕ) → 1 ≤ n → trace_at (traces_of set opening h) n ≡ trace n
  trace_of_number zero low = absurd (omega (arith, low))
  trace_of_number (suc n) low = trace_is n

  same_writes : (i j : ℕ) → some_changed (changed_at (trace j)) (trace i) ≡ changes_some (λ c. is_some (change_at (at j).changes c)) (at i).changes.cells
  same_writes i j =
      some_changes (changed_at (trace j)) (λ c. is_some (change_at (at j).changes c)) (start_at h i) (at i).changes.cells (at i).looks (λ c. among-some (at j).changes.cells c)

  same_looks : (i j : ℕ) → some_changed (looked_at (trace j)) (trace i) ≡ changes_some (has_looked (at j)) (at i).changes.cells
  same_looks i j =
      some_changes (looked_at (trace j)) (has_looked (at j)) (start_at h i) (at i).changes.cells (at i).looks (λ c. looked_has (start_at h j) (at j).changes.cells (at j).looks c)

  -- for two traces, as for two evaluations
  by_traces : ℕ → ℕ → TraceView → TraceView → Bool
  by_traces i j a b =
      not (i == j) && ((nat_lt i j && some_changed (changed_at b) a) || ((nat_le i b.start && some_changed (looked_at b) a) || (nat_lt a.start j && some_changed (looked_at a) b)))

  pub depends_same : (i j : ℕ) → 1 ≤ i → 1 ≤ j → trace_depends (traces_of set opening h) i j ≡ depends set opening h i j
  unfolding by_traces
  depends_same i j first second =
      (λ k. by_traces i j (trace_of_number i first k) (trace_of_number j second k))
      ∙ (λ k. not (i == j) && ((nat_lt i j && same_writes i j k) || ((nat_le i (start_at h j) && same_looks i j k) || (nat_lt (start_at h i) j && same_looks j i k))))

  pub traces_see_earlier : StartsBelow h → SeesEarlier (traces_of set opening h)
  traces_see_earlier below n t found = go (slice_get h n) refl (sym (slice_get-map (trace_in set opening h) h n) ∙ found)
    where
      go : (o : Option Instance) → slice_get h n ≡ o → option_map (trace_in set opening h) (slice_get h n) ≡ Some t → t.start ≤ n
      go None none some = absurd (let x : option_map (trace_in set opening h) None ≡ Some t = ap (option_map (trace_in set opening h)) (sym none) ∙ some in cc)
      go (Some b) at_n some =
          let is : Some (trace_in set opening h b) ≡ Some t = ap (option_map (trace_in set opening h)) (sym at_n) ∙ some in
          let same : trace_in set opening h b ≡ t = cc in
          let low : b.start < suc n = below (suc n) b at_n in
          let starts : b.start ≡ t.start = ap (λ (u : TraceView). u.start) same in
          omega (arith, low, starts)

  -- ---- one more

  map_same : {X Y : Type 0} (f g : X → Y) (xs : List X) → ((k : ℕ) (x : X) → slice_get xs k ≡ Some x → f x ≡ g x) → map f xs ≡ map g xs
  map_same f g [] same = refl
  map_same f g (x ∷ xs) same = (λ i. same 0 x refl i ∷ map f xs) ∙ ap (λ ys. g x ∷ ys) (map_same f g xs (λ k y found. same (suc k) y found))

  module _ (i : Instance) (below : StartsBelow h) (within : i.start ≤ length h) where
    trace_in_longer : (b : Instance) → b.start ≤ length h → trace_in set opening (h ++ i ∷ []) b ≡ trace_in set opening h b
    trace_in_longer b before = ap (λ (e : Evaluation). trace_of b.start e.changes.cells e.looks) (evaluation-push set opening h i b before)

    start_within : (k : ℕ) (b : Instance) → slice_get h k ≡ Some b → b.start ≤ length h
    start_within k b found =
        let low : b.start < suc k = below (suc k) b found in
        let inside : k < length h = slice_get_within h k b found in
        omega (arith, low, inside)

    pub traces_of-push : traces_of set opening (h ++ i ∷ []) ≡ traces_of set opening h ++ trace_in set opening h i ∷ []
    traces_of-push =
        map-append (trace_in set opening (h ++ i ∷ [])) h (i ∷ [])
        ∙ (λ k. map_same (trace_in set opening (h ++ i ∷ [])) (trace_in set opening h) h (λ n b found. trace_in_longer b (start_within n b found)) k ++ trace_in_longer i within k ∷ [])

-- a fault of what is reduced is one of the whole
pub same_fault : (n : ℕ) (reduced before : ℕ → ℕ → Bool) (e : OrderFault) → IsReduced n reduced before → IsOrderFault reduced e → IsOrderFault before e
same_fault n reduced before (fault.Cycle numbers) r cycle = cycle_same n reduced before r numbers.items cycle
same_fault n reduced before fault.Memory r memory = tt

-- what an instance looked at and changed on the state that it sees
abbrev pub trace_for : BookView → Instance → TraceView
trace_for v i = trace_in (draft_tree v.set) v.opening (history_of v.rows) i

-- a book with one more commit is traced where it has one more trace
pub traced-committed :
    (v : BookView) (row : HistoryRow) (t : TraceView) (rows : List HistoryRow) (old new : List TraceView) → IsTrueBook v → old ≡ traces_in v → row.start ≤ length (history_of v.rows) →
    t ≡ trace_for v (instance_of row) → rows ≡ v.rows ++ row ∷ [] → new ≡ old ++ t ∷ [] → new ≡ traces_of (draft_tree v.set) v.opening (history_of rows)
traced-committed v row t rows old new book traced within is one_row one_trace =
    one_trace
    ∙ (λ k. traced k ++ is k ∷ [])
    ∙ sym (traces_of-push (draft_tree v.set) v.opening (history_of v.rows) (instance_of row) book.lawful.starts within)
    ∙ ap (traces_of (draft_tree v.set) v.opening) (sym (ap history_of one_row ∙ map-append instance_of v.rows (row ∷ [])))
