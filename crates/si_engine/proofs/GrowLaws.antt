-- Grow tables in a lawful history: no row is removed, so what is there stays, and what appears was added.
use Rattle.std.proofs.Common.{◌≡◌, ℕ, zero, suc, ◌+◌, ◌-◌, ◌<◌, ◌≤◌, true, false, List, [], ◌∷◌, ◌⊎◌, inl, inr, map, length, refl, ap, sym, subst, ◌∙◌, arith, true≢false}
use Rattle.std.specs.Prelude.{ℤ, Option, Some, None, is_some, unwrap_or, slice_get, if◌then◌else◌}
use Rattle.std.specs.Cmp.Lexicographic.{nat_list_eq_equiv}
use Rattle.std.proofs.lemmas.Bool.{or_parts}
use Rattle.prog_tree.specs.declared.cell.Cell.{Cell}
use Rattle.prog_tree.specs.declared.deed.End.TheVariants.{Ready}
use Rattle.prog_tree.specs.declared.table.TableDecl.{TableDecl}
use Rattle.prog_tree.specs.ChangeSet.{change_at, changed}
use Rattle.prog_tree.specs.Evaluation.{Evaluation, run_block, at_start, ended, eval}
use Rattle.prog_tree.specs.Numbering.{number_of}
use Rattle.prog_tree.specs.Syntax.{Name, ProgramTree, DraftTree}
use Rattle.prog_tree.specs.Table.{TableState, row_at}
use Rattle.prog_tree.specs.Value.{same_name}
use Rattle.prog_tree.proofs.ChangedLemmas.{row_at-changed}
use Rattle.prog_check.specs.Names.{is_among, has_twice}
use Rattle.prog_check.specs.Sound.{IsSound}
use Rattle.prog_check.specs.Tables.{declaration, grows}
use Rattle.prog_paths.specs.Follows.{Changes, HasRow}
use Rattle.prog_paths.proofs.Blocks.{block_follows}
use Rattle.prog_paths.proofs.Programs.{goes_on}
use Rattle.prog_paths.proofs.Sound.{program_sound}
use Rattle.prog_paths.proofs.Statements.{declaration_is, statement_follows, listing_follows}
use Rattle.prog_paths.proofs.Values.{nth, RemovesPlain}
use Rattle.history_book.specs.Dependencies.{run_found, start_found, evaluation_at}
use Rattle.history_book.specs.History.{Instance, nth_instance, state_after, eval_of, evaluation, IsCalled}
use Rattle.history_book.proofs.DependencyLaws.{found_at}
use Rattle.history_book.proofs.HistoryLaws.{eval_of-found}
use Rattle.history_book.proofs.StateLaws.{state_after-next}
use Rattle.si_engine.specs.Robustness.{Grows, HasCommitted, IsHistory}

-- ---- tables by their numbers

abbrev names_of : List TableDecl → List Name
names_of tables = map (λ t. t.name) tables

other_name : (tables : List TableDecl) (x : Name) (n : ℕ) (d : TableDecl) → is_among (names_of tables) x ≡ false →
    slice_get tables n ≡ Some d → same_name x d.name ≡ false
other_name [] x n d apart at = absurd (cc)
other_name (t ∷ ts) x zero d apart at =
    let same : t ≡ d = cc in
    ap (λ (z : TableDecl). same_name x z.name) (sym same)
    ∙ (or_parts (same_name x t.name) (is_among (names_of ts) x) apart).0
other_name (t ∷ ts) x (suc n) d apart at =
    other_name ts x n d (or_parts (same_name x t.name) (is_among (names_of ts) x) apart).1 at

-- where names are distinct, a table's number is that of its name
number_at : (tables : List TableDecl) (n : ℕ) (d : TableDecl) → has_twice (names_of tables) ≡ false →
    slice_get tables n ≡ Some d → number_of tables d.name ≡ n
number_at [] n d distinct at = absurd (cc)
number_at (t ∷ ts) zero d distinct at =
    let same : t ≡ d = cc in
    ap (λ b. if b then 0 else number_of ts d.name + 1)
    (ap (λ (z : TableDecl). same_name z.name d.name) same ∙ nat_list_eq_equiv.refl d.name)
number_at (t ∷ ts) (suc n) d distinct at =
    let apart = or_parts (is_among (names_of ts) t.name) (has_twice (names_of ts)) distinct in
    let later = number_at ts n d apart.1 at in
    let next : number_of ts d.name + 1 ≡ suc n = omega (arith, later) in
    ap (λ b. if b then 0 else number_of ts d.name + 1) (other_name ts t.name n d apart.0 at) ∙ next

found_table : (o : Option TableDecl) → grows o ≡ true → (d : TableDecl) × (o ≡ Some d)
found_table None h = absurd (cc)
found_table (Some d) h = (d, refl)

-- ---- changes of a grow table

removed_then : (set : DraftTree) → IsSound set → (e : Evaluation) → RemovesPlain set.tables e.changes → (c : Cell) →
    Grows set c.table → change_at e.changes c ≡ Some None → ⊥
removed_then set sound e removes c grow gone = true≢false (sym named ∙ plain)
  where
    d : (d : TableDecl) × (slice_get set.tables c.table ≡ Some d)
    d = found_table (slice_get set.tables c.table) grow

    number : number_of set.tables d.0.name ≡ c.table
    number = number_at set.tables c.table d.0 sound.tables_distinct d.1

    named : grows (declaration set.tables d.0.name) ≡ true
    named = ap grows (declaration_is set.tables d.0.name) ∙ ap (λ (n : ℕ). grows (slice_get set.tables n)) number ∙ grow

    plain : grows (declaration set.tables d.0.name) ≡ false
    plain = removes c gone d.0.name number

-- an instance that ends ready removes rows of plain tables alone
removes_plain : (set : DraftTree) (number : ℕ) (p : ProgramTree) (args : List ℤ) (m : TableState) → IsSound set →
    slice_get set.programs number ≡ Some p → length p.params ≡ length args →
    (eval set.tables p args m).ending ≡ Ready → RemovesPlain set.tables (eval set.tables p args m).changes
removes_plain set number p args m sound at same ready =
    let g = goes_on (run_block set.tables m p.body (at_start p args)) ready in
    let fine = program_sound set.tables number p args (sound.programs number p at) same in
    let t =
    block_follows set.tables m p.params (nth args) (statement_follows set.tables m p.params (nth args))
    (listing_follows set.tables m p.params (nth args)) 0 p.body (at_start p args) g.0 g.1 fine.body fine.arguments
    (λ c e. absurd (cc)) in
    subst (λ f. RemovesPlain set.tables (ended f).changes) (sym g.1) t.removes

-- ---- the rows of a grow table

module _ (set : DraftTree) (opening : TableState) (h : List Instance) (is : IsHistory set opening h) where
  -- the state of a number has a row at the cell
  abbrev pub Has : ℕ → Cell → Type 0
  Has n c = HasRow (state_after set opening h n) c

  -- the instance of a number changed the cell
  abbrev pub ChangesAt : ℕ → Cell → Type 0
  ChangesAt n c = Changes (evaluation_at set opening h n).changes c

  abbrev change_by : ℕ → Cell → Option (Option ℤ)
  change_by n c = change_at (evaluation_at set opening h n).changes c

  -- no committed instance removes a row of a grow table
  stays_added : (n : ℕ) (c : Cell) → HasCommitted h n → Grows set c.table → change_by n c ≡ Some None → ⊥
  stays_added n c one grow gone =
      removed_then set is.sound (evaluation set opening h b) removes c grow (of_instance gone)
    where
      f : (b : Instance) × (nth_instance h n ≡ Some b)
      f = found_at h n one

      b : Instance
      b = f.0

      m : TableState
      m = state_after set opening h b.start

      called : IsCalled set b
      called = is.lawful.called n b f.1

      same : eval_of set b m ≡ eval set.tables called.0 b.args m
      same = eval_of-found set b called.0 m called.1

      ready : (eval set.tables called.0 b.args m).ending ≡ Ready
      ready = ap (λ (e : Evaluation). e.ending) (sym same) ∙ is.lawful.ready n b f.1

      removes : RemovesPlain set.tables (evaluation set opening h b).changes
      removes =
          subst (λ (e : Evaluation). RemovesPlain set.tables e.changes) (sym same)
          (removes_plain set b.program called.0 b.args m is.sound called.1 called.2 ready)

      of_instance : change_by n c ≡ Some None → change_at (evaluation set opening h b).changes c ≡ Some None
      of_instance k =
          ap (λ o. change_at (run_found set o (state_after set opening h (start_found o))).changes c) (sym f.1) ∙ k

  -- what the next state has at a cell
  next_at : (k : ℕ) (c : Cell) → HasCommitted h (k + 1) →
      row_at (state_after set opening h (k + 1)) c ≡ unwrap_or (change_by (k + 1) c)
      (row_at (state_after set opening h k) c)
  next_at k c one =
      let f = found_at h (k + 1) one in
      ap (λ m. row_at m c) (state_after-next set opening h is.lawful.starts k f.0 f.1 ∙ ap after (sym f.1))
      ∙ row_at-changed (state_after set opening h k) (evaluation_at set opening h (k + 1)).changes.cells c
    where
      -- the state after the instance that may be found
      after : Option Instance → TableState
      after o =
          let e = run_found set o (state_after set opening h (start_found o)) in
          changed (state_after set opening h k) e.changes.cells

  added_by : (o : Option (Option ℤ)) (r : Option ℤ) → (o ≡ Some None → ⊥) → is_some o ≡ true →
      is_some (unwrap_or o r) ≡ true
  added_by (Some (Some v)) r stay k = refl
  added_by (Some None) r stay k = absurd (stay refl)
  added_by None r stay k = absurd (cc)

  kept_by : (o : Option (Option ℤ)) (r : Option ℤ) → (o ≡ Some None → ⊥) → is_some r ≡ true →
      is_some (unwrap_or o r) ≡ true
  kept_by (Some (Some v)) r stay k = refl
  kept_by (Some None) r stay k = absurd (stay refl)
  kept_by None r stay k = k

  came_by : (o : Option (Option ℤ)) (r : Option ℤ) → is_some (unwrap_or o r) ≡ true →
      (is_some r ≡ true) ⊎ (is_some o ≡ true)
  came_by (Some w) r k = inr refl
  came_by None r k = inl k

  next_stays : (k : ℕ) (c : Cell) → HasCommitted h (k + 1) → Grows set c.table → Has k c → Has (k + 1) c
  next_stays k c one grow has = ap is_some (next_at k c one) ∙ kept_by _ _ (stays_added (k + 1) c one grow) has

  -- a row of a grow table stays
  stays_by : (i d : ℕ) (c : Cell) → Grows set c.table → i + d ≤ length h → Has i c → Has (i + d) c
  stays_by i zero c grow within has = let same : i ≡ i + 0 = omega arith in subst (λ (n : ℕ). Has n c) same has
  stays_by i (suc d) c grow within has =
      let same : i + d + 1 ≡ i + suc d = omega arith in
      subst (λ (n : ℕ). Has n c) same
      (next_stays (i + d) c (omega arith, omega arith) grow (stays_by i d c grow (omega arith) has))

  pub stays : (i k : ℕ) (c : Cell) → Grows set c.table → i ≤ k → k ≤ length h → Has i c → Has k c
  stays i k c grow before within has =
      let same : i + (k - i) ≡ k = omega arith in
      subst (λ (n : ℕ). Has n c) same (stays_by i (k - i) c grow (omega arith) has)

  -- what an instance changes in a grow table is there after it
  pub added : (i : ℕ) (c : Cell) → Grows set c.table → HasCommitted h i → ChangesAt i c → Has i c
  added i c grow one changes =
      let same : i - 1 + 1 ≡ i = (let a = one.0 in omega arith) in
      let this = subst (λ (n : ℕ). HasCommitted h n) (sym same) one in
      let did = subst (λ (n : ℕ). ChangesAt n c) (sym same) changes in
      subst (λ (n : ℕ). Has n c) same
      (ap is_some (next_at (i - 1) c this) ∙ added_by _ _ (stays_added (i - 1 + 1) c this grow) did)

  -- what is there after an instance was there before it, or the instance changed it
  came : (k : ℕ) (c : Cell) → HasCommitted h (k + 1) → Has (k + 1) c → Has k c ⊎ ChangesAt (k + 1) c
  came k c one has = came_by _ _ (sym (ap is_some (next_at k c one)) ∙ has)

  -- an instance in a part of the history changed the cell
  abbrev pub AddedBetween : (low high : ℕ) → Cell → Type 0
  AddedBetween low high c = (k : ℕ) × (low < k) × (k ≤ high) × HasCommitted h k × ChangesAt k c

  -- what appears between two states was added between them
  pub appeared : (low d : ℕ) (c : Cell) → low + d ≤ length h → (Has low c → ⊥) → Has (low + d) c →
      AddedBetween low (low + d) c
  appeared low zero c within none has =
      let same : low + 0 ≡ low = omega arith in absurd (none (subst (λ (n : ℕ). Has n c) same has))
  appeared low (suc d) c within none has =
      go (came (low + d) c one (subst (λ (n : ℕ). Has n c) next has)) (appeared low d c (omega arith) none)
    where
      next : low + suc d ≡ low + d + 1
      next = omega arith

      one : HasCommitted h (low + d + 1)
      one = (omega arith, omega arith)

      go : Has (low + d) c ⊎ ChangesAt (low + d + 1) c → (Has (low + d) c → AddedBetween low (low + d) c) →
          AddedBetween low (low + suc d) c
      go (inl before) earlier = let t = earlier before in (t.0, t.1, (let l = t.2 in omega arith), t.3, t.4)
      go (inr here) earlier = (low + d + 1, omega arith, omega arith, one, here)
