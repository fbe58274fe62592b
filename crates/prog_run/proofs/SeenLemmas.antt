-- The rows that a run sees in a region: those of its look and its own changes, merged in one pass.
use Rattle.std.proofs.Common.{◌≡◌, ℕ, zero, suc, ◌+◌, List, [], ◌∷◌, ◌++◌, refl, ap, sym, subst, ◌∙◌, true, false, not, cond, arith, ◌<◌, length, take, drop, get_or, add-one, drop-cons, append_assoc}
use Rattle.std.specs.Prelude.{ℤ, Bool, ◌||◌, Option, Some, None, filter, unwrap_or}
use Rattle.std.proofs.Math.Numerals.{one-add}
use Rattle.std.specs.declared.cmp.Ordering.{Ordering}
use Rattle.std.specs.declared.cmp.Ordering.TheVariants.{Less, Equal, Greater}
use Rattle.std.specs.Ordering.{is_eq, is_lt, match_ordering}
use Rattle.std.specs.Cmp.{tied_itself}
use Rattle.std.specs.FinMap.{find}
use Rattle.std.specs.FinMap.Entries.{find-where_key}
use Rattle.std.specs.List.{list_any, AllByRecursion}
use Rattle.std.specs.List.Sorted.{IsStrictlySortedBy}
use Rattle.std.proofs.lemmas.List.Kept.{IsStrictlySortedBy-filter}
use Rattle.prog_tree.specs.declared.cell.Cell.{Cell}
use Rattle.prog_tree.specs.declared.cell.Region.{Region}
use Rattle.prog_tree.specs.Table.{cell_cmp, is_in, is_cell_among, cells_of, TableState, row_at, with_row, without_row, row_held}
use Rattle.prog_tree.specs.ChangeSet.{ChangedCells, changes_in, changed_row, changed}
use Rattle.prog_tree.specs.Evaluation.{rows_without}
use Rattle.prog_tree.proofs.CellSets.{none-above, turned}
use Rattle.prog_tree.proofs.TableLemmas.{cell_total, find_is, absent_stays, absent_rest}
use Rattle.prog_tree.proofs.ChangedLemmas.{row_at-changed}
use Rattle.prog_run.specs.Seen.{rows_before, AreAbsent}

-- ---- rows of cells that were not changed

all_absent_rest : (row : Cell × ℤ) (m : TableState) (es : ChangedCells) → AreAbsent (row ∷ m) es → AreAbsent m es
all_absent_rest row m [] h = tt
all_absent_rest row m (e ∷ es) h = (absent_rest e.0 row m h.0, all_absent_rest row m es h.1)

still_absent : (m : TableState) (e : Cell × Option ℤ) (es : ChangedCells) → AllByRecursion (λ y. cell_cmp e.0 y ≡ Less) (cells_of es) → row_at m e.0 ≡ None → row_at (changed m es) e.0 ≡ None
still_absent m e es above absent = row_at-changed m es e.0 ∙ ap (λ o. unwrap_or o (row_at m e.0)) (none-above e.0 es above) ∙ absent

-- ---- rows without those of some cells

among_same : (cells : List Cell) (q x : Cell) → cell_cmp q x ≡ Equal → is_cell_among cells x ≡ is_cell_among cells q
among_same cells q x e = ap (λ (f : Cell → Bool). list_any f cells) (λ i k. is_eq (sym (cell_total.congr q x k e) i))

row_at-rows_without : (own : List Cell) (m : TableState) (c : Cell) → is_cell_among own c ≡ true → row_at (rows_without own m) c ≡ None
row_at-rows_without own m c h =
    find_is (rows_without own m) c
    ∙ find-where_key cell_cmp (λ x. not (is_cell_among own x)) c (λ x e. ap not (among_same own c x e)) m
    ∙ ap (λ b. cond (not b) (find cell_cmp c m) None) h

-- all changed cells are among some cells
abbrev AreAmong : List Cell → ChangedCells → Type 0
AreAmong cells [] = Unit {0}
AreAmong cells (e ∷ es) = (is_cell_among cells e.0 ≡ true) × AreAmong cells es

are_absent : (own : List Cell) (m : TableState) (es : ChangedCells) → AreAmong own es → AreAbsent (rows_without own m) es
are_absent own m [] h = tt
are_absent own m (e ∷ es) h = (row_at-rows_without own m e.0 h.0, are_absent own m es h.1)

among_more : (k : Cell) (cells : List Cell) (es : ChangedCells) → AreAmong cells es → AreAmong (k ∷ cells) es
among_more k cells [] h = tt
among_more k cells (e ∷ es) h = (one, among_more k cells es h.1)
  where
    one : is_cell_among (k ∷ cells) e.0 ≡ true
    one = grind (arith, h.0)

among_itself : (k : Cell) (cells : List Cell) → is_cell_among (k ∷ cells) k ≡ true
among_itself k cells = ap (λ o. is_eq o || is_cell_among cells k) (tied_itself cell_total k)

all_among : (es : ChangedCells) → AreAmong (cells_of es) es
all_among [] = tt
all_among (e ∷ es) = (among_itself e.0 (cells_of es), among_more e.0 (cells_of es) es (all_among es))

-- no changed cell has a row where the rows of all changed cells are left out
pub own_absent : (m : TableState) (own : ChangedCells) → AreAbsent (rows_without (cells_of own) m) own
own_absent m own = are_absent (cells_of own) m own (all_among own)

cells_of-in : (r : Region) (es : ChangedCells) → cells_of (changes_in r es) ≡ filter (is_in r) (cells_of es)
cells_of-in r [] = refl
cells_of-in r (e ∷ es) =
    elim (is_in r e.0) as (λ b. cells_of (cond b (e ∷ changes_in r es) (changes_in r es)) ≡ cond b (e.0 ∷ filter (is_in r) (cells_of es)) (filter (is_in r) (cells_of es)))
    [ true ↦ ap (λ cells. e.0 ∷ cells) (cells_of-in r es) | false ↦ cells_of-in r es ]

-- the changes of a region are in cell order too
pub ordered_in : (r : Region) (es : ChangedCells) → IsStrictlySortedBy cell_cmp (cells_of es) → IsStrictlySortedBy cell_cmp (cells_of (changes_in r es))
ordered_in r es h = subst (IsStrictlySortedBy cell_cmp) (sym (cells_of-in r es)) (IsStrictlySortedBy-filter cell_cmp (is_in r) (cells_of es) h)

-- ---- rows merged with changes

-- a cell that comes before those of all changes
abbrev IsBeforeAll : Cell → ChangedCells → Type 0
IsBeforeAll c es = AllByRecursion (λ y. cell_cmp c y ≡ Less) (cells_of es)

-- a cell that comes before that of the first row
abbrev IsBeforeFirst : Cell → TableState → Type 0
IsBeforeFirst c [] = Unit {0}
IsBeforeFirst c (row ∷ rows) = cell_cmp c row.0 ≡ Less

before_more : (a b : Cell) → cell_cmp a b ≡ Less → (es : ChangedCells) → IsBeforeAll b es → IsBeforeAll a es
before_more a b lt [] all = tt
before_more a b lt (e ∷ es) all = (cell_total.trans a b e.0 lt all.0, before_more a b lt es all.1)

-- the change of a later cell passes a row
passes : (row : Cell × ℤ) (m : TableState) (c : Cell) (w : Option ℤ) → cell_cmp c row.0 ≡ Greater → changed_row (row ∷ m) c w ≡ row ∷ changed_row m c w
passes row m c (Some v) h = ap (λ o. match_ordering o ((c, v) ∷ row ∷ m) ((row.0, v) ∷ m) (row ∷ with_row m c v)) h
passes row m c None h = ap (λ o. cond (not (is_eq o)) (row ∷ without_row m c) (without_row m c)) h

-- a row before all changes stays in front
front_stays : (row : Cell × ℤ) (m : TableState) (es : ChangedCells) → IsBeforeAll row.0 es → changed (row ∷ m) es ≡ row ∷ changed m es
front_stays row m [] all = refl
front_stays row m (e ∷ es) all =
    ap (λ (rows : TableState). changed_row rows e.0 e.1) (front_stays row m es all.1) ∙ passes row (changed m es) e.0 e.1 (turned row.0 e.0 Less all.0)

first_set : (m : TableState) (c : Cell) (v : ℤ) → IsBeforeFirst c m → with_row m c v ≡ (c, v) ∷ m
first_set [] c v h = refl
first_set (row ∷ m) c v h = ap (λ o. match_ordering o ((c, v) ∷ row ∷ m) ((row.0, v) ∷ m) (row ∷ with_row m c v)) h

still_first : (c k : Cell) (w : Option ℤ) (m : TableState) → IsBeforeFirst c m → cell_cmp c k ≡ Less → row_at m k ≡ None → IsBeforeFirst c (changed_row m k w)
still_first c k (Some v) [] h lt absent = lt
still_first c k (Some v) (row ∷ m) h lt absent =
    elim (cell_cmp k row.0) as (λ o. IsBeforeFirst c (match_ordering o ((k, v) ∷ row ∷ m) ((row.0, v) ∷ m) (row ∷ with_row m k v))) [ Less ↦ lt | Equal ↦ h | Greater ↦ h ]
still_first c k None m h lt absent = subst (IsBeforeFirst c) (absent_stays k m absent) h

first_changed : (c : Cell) (m : TableState) (es : ChangedCells) → IsBeforeFirst c m → IsBeforeAll c es → IsStrictlySortedBy cell_cmp (cells_of es) → AreAbsent m es → IsBeforeFirst c (changed m es)
unfolding IsStrictlySortedBy
first_changed c m [] h all ordered absent = h
first_changed c m (e ∷ es) h all ordered absent =
    still_first c e.0 e.1 (changed m es) (first_changed c m es h all.1 ordered.1 absent.1) all.0 (still_absent m e es ordered.0 absent.0)

-- where the first change comes before all rows, so does its row
first_change : (e : Cell × Option ℤ) (m : TableState) (es : ChangedCells) → IsBeforeFirst e.0 m → IsStrictlySortedBy cell_cmp (cells_of (e ∷ es)) → AreAbsent m (e ∷ es) →
    changed m (e ∷ es) ≡ row_held e.0 e.1 ++ changed m es
unfolding IsStrictlySortedBy
first_change e m es h ordered absent = by_change e.1
  where
    by_change : (w : Option ℤ) → changed_row (changed m es) e.0 w ≡ row_held e.0 w ++ changed m es
    by_change (Some v) = first_set (changed m es) e.0 v (first_changed e.0 m es h ordered.0 ordered.1 absent.1)
    by_change None = sym (absent_stays e.0 (changed m es) (still_absent m e es ordered.0 absent.0))

-- the rows before the first change, its row, and then the others with the other changes
pub merged : (e : Cell × Option ℤ) (es : ChangedCells) (m : TableState) → IsStrictlySortedBy cell_cmp (cells_of (e ∷ es)) → AreAbsent m (e ∷ es) →
    changed m (e ∷ es) ≡ take (rows_before e.0 m) m ++ (row_held e.0 e.1 ++ changed (drop (rows_before e.0 m) m) es)
unfolding IsStrictlySortedBy
merged e es [] ordered absent = first_change e [] es tt ordered absent
merged e es (row ∷ m) ordered absent = by_order (cell_cmp row.0 e.0) refl (merged e es m ordered (all_absent_rest row m (e ∷ es) absent))
  where
    by_order : (o : Ordering) → cell_cmp row.0 e.0 ≡ o → changed m (e ∷ es) ≡ take (rows_before e.0 m) m ++ (row_held e.0 e.1 ++ changed (drop (rows_before e.0 m) m) es) →
        let n = cond (is_lt o) (1 + rows_before e.0 m) 0 in changed (row ∷ m) (e ∷ es) ≡ take n (row ∷ m) ++ (row_held e.0 e.1 ++ changed (drop n (row ∷ m)) es)
    by_order Less is rest =
        front_stays row m (e ∷ es) (is, before_more row.0 e.0 is es ordered.0) ∙ ap (λ (rows : TableState). row ∷ rows) rest
        ∙ ap (λ n. take n (row ∷ m) ++ (row_held e.0 e.1 ++ changed (drop n (row ∷ m)) es)) (sym (one-add (rows_before e.0 m)))
    by_order Equal is rest = let held = ap (λ o. cond (is_eq o) (Some row.1) (row_at m e.0)) (turned row.0 e.0 Equal is) in absurd (cc)
    by_order Greater is rest = first_change e (row ∷ m) es (turned row.0 e.0 Greater is) ordered absent

absent_behind : (n : ℕ) (m : TableState) (es : ChangedCells) → AreAbsent m es → AreAbsent (drop n m) es
absent_behind zero m es h = h
absent_behind (suc n) [] es h = h
absent_behind (suc n) (row ∷ m) es h = absent_behind n m es (all_absent_rest row m es h)

-- what is known of the rows and the changes that are still to be merged
pub record IsToMerge (m : TableState) (es : ChangedCells) : Type 0 where
  pub ordered : IsStrictlySortedBy cell_cmp (cells_of es)
  pub absent : AreAbsent m es

-- one change is merged: so many rows stand before it
module _ (own : ChangedCells) (i : ℕ) (d : Cell × Option ℤ) (left : TableState) (n : ℕ) (lt : i < length own) (count : n ≡ rows_before (get_or own i d).0 left) (more : IsToMerge left (drop i own)) where
  abbrev change : Cell × Option ℤ
  change = get_or own i d

  split : drop i own ≡ change ∷ drop (i + 1) own
  split = rw add-one (drop-cons own i d lt)

  at : IsToMerge left (change ∷ drop (i + 1) own)
  at = subst (IsToMerge left) split more

  pub merge_more : (rest : TableState) → rest ≡ drop n left → IsToMerge rest (drop (i + 1) own)
  unfolding IsStrictlySortedBy
  merge_more rest is = subst (λ rows. IsToMerge rows (drop (i + 1) own)) (sym is)
      (record { ordered = at.ordered.1; absent = absent_behind n left (drop (i + 1) own) at.absent.1 })

  pub merge_one : (seen front rest both one all : TableState) → front ≡ take n left → rest ≡ drop n left → both ≡ seen ++ front → one ≡ both ++ row_held change.0 change.1 →
      seen ++ changed left (drop i own) ≡ all → one ++ changed rest (drop (i + 1) own) ≡ all
  merge_one seen front rest both one all before behind joined added h =
      (λ k. (added ∙ ap (λ rows. rows ++ row_held change.0 change.1) (joined ∙ ap (λ rows. seen ++ rows) before)) k ++ changed (behind k) (drop (i + 1) own))
      ∙ append_assoc (seen ++ take n left) (row_held change.0 change.1) (changed (drop n left) (drop (i + 1) own))
      ∙ append_assoc seen (take n left) (row_held change.0 change.1 ++ changed (drop n left) (drop (i + 1) own))
      ∙ ap (λ k. seen ++ (take k left ++ (row_held change.0 change.1 ++ changed (drop k left) (drop (i + 1) own)))) count
      ∙ ap (λ rows. seen ++ rows) (sym (merged change (drop (i + 1) own) left at.ordered at.absent))
      ∙ ap (λ es. seen ++ changed left es) (sym split) ∙ h
