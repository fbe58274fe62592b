-- The tests of dependencies tell the dependencies.
use Rattle.std.proofs.Common.{◌≡◌, ◌≢◌, ◌⊎◌, inl, inr, ◌↔◌, ℤ, ℕ, ◌<◌, eqb, Bool, true, false, cond, not, ◌||◌, List, [], ◌∷◌, refl, ap, sym, subst, ◌∙◌, arith, zero, suc}
use Rattle.std.specs.Prelude.{Option, Some, None, is_some, slice_get, IsTrue, ◌-◌, length}
use Rattle.std.specs.Cmp.{tied_itself}
use Rattle.std.specs.Ordering.{is_eq}
use Rattle.std.proofs.lemmas.Bool.{ltb-true, lt-ltb, leb-true, le-leb, eqb-false, and_from, and_parts, not-true, or_cases, or_left, or_right}
use Rattle.std.proofs.lemmas.Bool.Decides.{eqb_tells}
use Rattle.prog_tree.specs.declared.cell.Cell.{Cell}
use Rattle.prog_tree.specs.ChangeSet.{ChangedCells, change_at}
use Rattle.prog_tree.specs.LookedAt.{has_looked}
use Rattle.prog_tree.specs.Syntax.{DraftTree}
use Rattle.prog_tree.specs.Table.{TableState, is_same_cell, at_cell}
use Rattle.prog_tree.proofs.TableLemmas.{cell_total}
use Rattle.prog_tree.proofs.TableStates.{cell_is}
use Rattle.history_book.specs.Dependencies.{run_found, start_found, start_at, evaluation_at, changes_some, write_write, write_read, read_write, depends}
use Rattle.history_book.specs.History.{Instance, nth_instance, state_after, StartsBelow}
use Rattle.serial_orders.specs.Orders.{IsUpTo}
use Rattle.serial_orders.proofs.DependencyRelations.{WriteWriteBy, WriteReadBy, ReadWriteBy, DependsBy}
use Rattle.history_book.proofs.StateLaws.{nth_instance-back, nth_instance_within}

module _ (set : DraftTree) (opening : TableState) (h : List Instance) where
  -- it looked at a cell
  abbrev pub Looks : ℕ → Cell → Type 0
  Looks n c = IsTrue (has_looked (evaluation_at set opening h n) c)

  -- it changed a cell
  abbrev pub Changes : ℕ → Cell → Type 0
  Changes n c = (w : Option ℤ) × (change_at (evaluation_at set opening h n).changes c ≡ Some w)

  abbrev pub DependsOn : ℕ → ℕ → Type 0
  DependsOn i j = DependsBy Cell (start_at h) Looks Changes i j

some_is : (o : Option (Option ℤ)) → is_some o ≡ true → (w : Option ℤ) × (o ≡ Some w)
some_is (Some w) h = (w, refl)
some_is None h = absurd (cc)

-- ---- some changed cell passes a test

abbrev PassesAt : (Cell → Bool) → ChangedCells → Type 0
PassesAt p es = (c : Cell) × (w : Option ℤ) × (at_cell es c ≡ Some w) × (p c ≡ true)

changed_at : (p : Cell → Bool) (es : ChangedCells) → changes_some p es ≡ true → PassesAt p es
changed_at p [] h = absurd (cc)
changed_at p (e ∷ es) h = go (p e.0) refl (changed_at p es) h
  where
    later : (c : Cell) (w : Option ℤ) (b : Bool) → is_same_cell c e.0 ≡ b → at_cell es c ≡ Some w → p c ≡ true → PassesAt p (e ∷ es)
    later c w true same found passes = (c, e.1, ap (λ x. cond x (Some e.1) (at_cell es c)) same, passes)
    later c w false other found passes = (c, w, ap (λ x. cond x (Some e.1) (at_cell es c)) other ∙ found, passes)

    go : (b : Bool) → p e.0 ≡ b → (changes_some p es ≡ true → PassesAt p es) → (b || changes_some p es) ≡ true → PassesAt p (e ∷ es)
    go true here rest is = (e.0, e.1, ap (λ o. cond (is_eq o) (Some e.1) (at_cell es e.0)) (tied_itself cell_total e.0), here)
    go false here rest is = let r = rest is in later r.0 r.1 (is_same_cell r.0 e.0) refl r.2 r.3

changes_at : (p : Cell → Bool) (es : ChangedCells) (c : Cell) (w : Option ℤ) → at_cell es c ≡ Some w → p c ≡ true → changes_some p es ≡ true
changes_at p [] c w found passes = absurd (cc)
changes_at p (e ∷ es) c w found passes = go (is_same_cell c e.0) refl found (changes_at p es c w)
  where
    go : (b : Bool) → is_same_cell c e.0 ≡ b → cond b (Some e.1) (at_cell es c) ≡ Some w → (at_cell es c ≡ Some w → p c ≡ true → changes_some p es ≡ true) → (p e.0 || changes_some p es) ≡ true
    go true same is rest = or_left (p e.0) (changes_some p es) (ap p (sym (cell_is c e.0 same)) ∙ passes)
    go false other is rest = or_right (p e.0) (changes_some p es) (rest is passes)

module _ (set : DraftTree) (opening : TableState) (h : List Instance) (i j : ℕ) where
  abbrev cells_by : ℕ → ChangedCells
  cells_by n = (evaluation_at set opening h n).changes.cells

  abbrev is_changed_by : ℕ → Cell → Bool
  is_changed_by n c = is_some (change_at (evaluation_at set opening h n).changes c)

  from_write_write : write_write set opening h i j ≡ true → WriteWriteBy Cell (Changes set opening h) i j
  from_write_write t =
      let parts = and_parts _ _ t in
      let r = changed_at (is_changed_by j) (cells_by i) parts.1 in
      record { cell = r.0; before = ltb-true i j parts.0; first = (r.1, r.2); second = some_is _ r.3 }

  to_write_write : WriteWriteBy Cell (Changes set opening h) i j → write_write set opening h i j ≡ true
  to_write_write d = and_from _ _ (lt-ltb i j d.before) (changes_at (is_changed_by j) (cells_by i) d.cell d.first.0 d.first.1 (ap is_some d.second.1))

  from_write_read : write_read set opening h i j ≡ true → WriteReadBy Cell (start_at h) (Looks set opening h) (Changes set opening h) i j
  from_write_read t =
      let parts = and_parts _ _ t in
      let r = changed_at (has_looked (evaluation_at set opening h j)) (cells_by i) parts.1 in
      record { cell = r.0; seen = leb-true i (start_at h j) parts.0; change = (r.1, r.2); look = r.3 }

  to_write_read : WriteReadBy Cell (start_at h) (Looks set opening h) (Changes set opening h) i j → write_read set opening h i j ≡ true
  to_write_read d = and_from _ _ (le-leb i (start_at h j) d.seen) (changes_at (has_looked (evaluation_at set opening h j)) (cells_by i) d.cell d.change.0 d.change.1 d.look)

  from_read_write : i ≢ j → read_write set opening h i j ≡ true → ReadWriteBy Cell (start_at h) (Looks set opening h) (Changes set opening h) i j
  from_read_write other t =
      let parts = and_parts _ _ t in
      let r = changed_at (has_looked (evaluation_at set opening h i)) (cells_by j) parts.1 in
      record { cell = r.0; other = other; unseen = ltb-true (start_at h i) j parts.0; look = r.3; change = (r.1, r.2) }

  pub to_read_write : ReadWriteBy Cell (start_at h) (Looks set opening h) (Changes set opening h) i j → read_write set opening h i j ≡ true
  to_read_write d = and_from _ _ (lt-ltb (start_at h i) j d.unseen) (changes_at (has_looked (evaluation_at set opening h i)) (cells_by j) d.cell d.change.0 d.change.1 d.look)

  from_test : depends set opening h i j ≡ true → DependsOn set opening h i j
  from_test t = go (or_cases _ _ parts.1)
    where
      parts : (not (eqb i j) ≡ true) × ((write_write set opening h i j || (write_read set opening h i j || read_write set opening h i j)) ≡ true)
      parts = and_parts _ _ t

      reads : (write_read set opening h i j ≡ true) ⊎ (read_write set opening h i j ≡ true) → DependsOn set opening h i j
      reads (inl w) = inr (inl (from_write_read w))
      reads (inr w) = inr (inr (from_read_write (eqb-false i j (not-true (eqb i j) parts.0)) w))

      go : (write_write set opening h i j ≡ true) ⊎ ((write_read set opening h i j || read_write set opening h i j) ≡ true) → DependsOn set opening h i j
      go (inl w) = inl (from_write_write w)
      go (inr r) = reads (or_cases _ _ r)

  module _ (below : start_at h j < j) where
    apart : DependsOn set opening h i j → i ≢ j
    apart (inl d) same = let b = d.before in omega arith
    apart (inr (inl d)) same = let s = d.seen in omega arith
    apart (inr (inr d)) same = d.other same

    some_test : DependsOn set opening h i j → (write_write set opening h i j || (write_read set opening h i j || read_write set opening h i j)) ≡ true
    some_test (inl d) = or_left _ _ (to_write_write d)
    some_test (inr (inl d)) = or_right (write_write set opening h i j) _ (or_left _ _ (to_write_read d))
    some_test (inr (inr d)) = or_right (write_write set opening h i j) _ (or_right (write_read set opening h i j) _ (to_read_write d))

    to_test : DependsOn set opening h i j → depends set opening h i j ≡ true
    to_test d = and_from _ _ (other (eqb_tells i j)) (some_test d)
      where
        other : ((eqb i j ≡ true) × (i ≡ j)) ⊎ ((eqb i j ≡ false) × (i ≢ j)) → not (eqb i j) ≡ true
        other (inl e) = absurd (apart d e.1)
        other (inr e) = ap not e.0

    -- the test of a dependency tells it
    pub depends_tells : (depends set opening h i j ≡ true) ↔ DependsOn set opening h i j
    depends_tells = (from_test, to_test)

-- ---- only instances depend

inside : {X : Type 0} (xs : List X) (n : ℕ) → n < length xs → slice_get xs n ≡ None → ⊥
inside [] n less none = omega arith
inside (x ∷ xs) zero less none = absurd (cc)
inside (x ∷ xs) (suc n) less none = inside xs n (omega arith) none

module _ (h : List Instance) where
  pub found_at : (n : ℕ) → IsUpTo (length h) n → (b : Instance) × (nth_instance h n ≡ Some b)
  found_at n one = go (nth_instance h n) refl
    where
      go : (o : Option Instance) → nth_instance h n ≡ o → (b : Instance) × (nth_instance h n ≡ Some b)
      go (Some b) e = (b, e)
      go None e = absurd (inside h (n - 1) (let a = one.0 in let b = one.1 in omega arith) (sym (nth_instance-back h n one.0) ∙ e))

  pub start_at-below : StartsBelow h → (n : ℕ) → IsUpTo (length h) n → start_at h n < n
  start_at-below below n one = let f = found_at n one in subst (λ k. k < n) (sym (ap start_found f.1)) (below n f.0 f.1)

module _ (set : DraftTree) (opening : TableState) (h : List Instance) where
  -- what changes or looks at a cell is an instance
  acts : (n : ℕ) (c : Cell) → Changes set opening h n c ⊎ Looks set opening h n c → IsUpTo (length h) n
  acts n c did = go (nth_instance h n) refl
    where
      idle : nth_instance h n ≡ None → Changes set opening h n c ⊎ Looks set opening h n c → ⊥
      idle none (inl w) = let q : change_at (evaluation_at set opening h n).changes c ≡ None = ap (λ o. change_at (run_found set o (state_after set opening h (start_at h n))).changes c) none in let k = w.1 in cc
      idle none (inr look) = let q : has_looked (evaluation_at set opening h n) c ≡ false = ap (λ o. has_looked (run_found set o (state_after set opening h (start_at h n))) c) none in cc

      go : (o : Option Instance) → nth_instance h n ≡ o → IsUpTo (length h) n
      go (Some b) e = nth_instance_within h n b e
      go None e = absurd (idle e did)

  both_act : (i j : ℕ) → DependsOn set opening h i j → IsUpTo (length h) i × IsUpTo (length h) j
  both_act i j (inl d) = (acts i d.cell (inl d.first), acts j d.cell (inl d.second))
  both_act i j (inr (inl d)) = (acts i d.cell (inl d.change), acts j d.cell (inr d.look))
  both_act i j (inr (inr d)) = (acts i d.cell (inr d.look), acts j d.cell (inl d.change))

  pub depends_within : (i j : ℕ) → depends set opening h i j ≡ true → IsUpTo (length h) i × IsUpTo (length h) j
  depends_within i j t = both_act i j (from_test set opening h i j t)
