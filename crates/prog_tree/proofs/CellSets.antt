-- Laws of lists of cells: which cells are among them, and what one more at its place does.
use Rattle.std.proofs.Common.{◌≡◌, ◌∙◌, Bool, true, false, ◌||◌, cond, List, [], ◌∷◌, refl, ap, sym}
use Rattle.std.specs.Prelude.{Some, None, is_some}
use Rattle.std.specs.BTreeSet.{insert_key}
use Rattle.std.specs.Cmp.{eq_by_cmp_equiv}
use Rattle.std.specs.declared.cmp.Ordering.{Ordering}
use Rattle.std.specs.declared.cmp.Ordering.TheVariants.{Less, Equal, Greater}
use Rattle.std.specs.List.{AllByRecursion}
use Rattle.std.specs.List.Sorted.{IsStrictlySortedBy}
use Rattle.std.specs.Ordering.{is_eq, match_ordering, ordering_reverse}
use Rattle.std.proofs.Math.Bool.{or_assoc, or_comm, or_self_left}
use Rattle.std.proofs.lemmas.Map.Keys.{sorted_head}
use Rattle.prog_tree.specs.declared.cell.Cell.{Cell}
use Rattle.prog_tree.specs.Table.{cell_cmp, Cells, cells_of, at_cell, is_same_cell, is_cell_among}
use Rattle.prog_tree.proofs.TableLemmas.{cell_total}
use Rattle.prog_tree.proofs.TableStates.{same_cell, cell_is}

pub same-itself : (c : Cell) → is_same_cell c c ≡ true
same-itself c = (eq_by_cmp_equiv cell_total).refl c

pub same-turned : (a b : Cell) → is_same_cell a b ≡ is_same_cell b a
same-turned a b = (eq_by_cmp_equiv cell_total).symm a b

pub turned : (a b : Cell) (o : Ordering) → cell_cmp a b ≡ o → cell_cmp b a ≡ ordering_reverse o
turned a b o h = cell_total.antisymm b a ∙ ap ordering_reverse h

-- a cell is among those of a map where it has an entry
pub among-some : {A : Type 0} (m : Cells A) (c : Cell) → is_cell_among (cells_of m) c ≡ is_some (at_cell m c)
among-some [] c = refl
among-some {A = A} (e ∷ m) c = ap (λ b. is_same_cell c e.0 || b) (among-some m c) ∙ go (is_same_cell c e.0)
  where
    go : (b : Bool) → (b || is_some (at_cell m c)) ≡ is_some (cond b (Some e.1) (at_cell m c))
    go true = refl
    go false = refl

-- ---- a cell before all others

-- it has no entry among theirs
pub none-above : {A : Type 0} (k : Cell) (rest : Cells A) → AllByRecursion (λ d. cell_cmp k d ≡ Less) (cells_of rest) → at_cell rest k ≡ None
none-above k [] below = refl
none-above k (e ∷ rest) below = ap (λ o. cond (is_eq o) (Some e.1) (at_cell rest k)) below.0 ∙ none-above k rest below.1

-- the first of cells in order has no entry behind itself
pub none-behind : {A : Type 0} (k c : Cell) (rest : Cells A) → IsStrictlySortedBy cell_cmp (k ∷ cells_of rest) → is_same_cell c k ≡ true → at_cell rest c ≡ None
none-behind k c rest sorted same = ap (at_cell rest) (cell_is c k same) ∙ none-above k rest (sorted_head cell_cmp k (cells_of rest) sorted)

not_above : (k : Cell) (rest : List Cell) → AllByRecursion (λ d. cell_cmp k d ≡ Less) rest → is_cell_among rest k ≡ false
not_above k [] below = refl
not_above k (d ∷ rest) below = ap (λ o. is_eq o || is_cell_among rest k) below.0 ∙ not_above k rest below.1

-- the first of cells in order is not behind itself
pub not-behind : (k c : Cell) (rest : List Cell) → IsStrictlySortedBy cell_cmp (k ∷ rest) → is_same_cell c k ≡ true → is_cell_among rest c ≡ false
not-behind k c rest sorted same = ap (is_cell_among rest) (cell_is c k same) ∙ not_above k rest (sorted_head cell_cmp k rest sorted)

-- ---- one more cell, at its place in the order

all_insert : (P : Cell → Type 0) (ks : List Cell) (k : Cell) → P k → AllByRecursion P ks → AllByRecursion P (insert_key cell_cmp ks k)
all_insert P [] k here all = (here, tt)
all_insert P (x ∷ ks) k here all = go (cell_cmp k x) (all_insert P ks k here all.1)
  where
    go : (o : Ordering) → AllByRecursion P (insert_key cell_cmp ks k) → AllByRecursion P (match_ordering o (k ∷ x ∷ ks) (x ∷ ks) (x ∷ insert_key cell_cmp ks k))
    go Less rest = (here, all)
    go Equal rest = all
    go Greater rest = (all.0, rest)

all_beyond : (k x : Cell) (ks : List Cell) → cell_cmp k x ≡ Less → AllByRecursion (λ d. cell_cmp x d ≡ Less) ks → AllByRecursion (λ d. cell_cmp k d ≡ Less) ks
all_beyond k x [] less all = tt
all_beyond k x (d ∷ ks) less all = (cell_total.trans k x d less all.0, all_beyond k x ks less all.1)

-- the cells still rise
pub sorted-insert : (ks : List Cell) (k : Cell) → IsStrictlySortedBy cell_cmp ks → IsStrictlySortedBy cell_cmp (insert_key cell_cmp ks k)
unfolding IsStrictlySortedBy
sorted-insert [] k h = (tt, tt)
sorted-insert (x ∷ ks) k h = go (cell_cmp k x) refl (sorted-insert ks k h.1)
  where
    go : (o : Ordering) → cell_cmp k x ≡ o → IsStrictlySortedBy cell_cmp (insert_key cell_cmp ks k) → IsStrictlySortedBy cell_cmp (match_ordering o (k ∷ x ∷ ks) (x ∷ ks) (x ∷ insert_key cell_cmp ks k))
    go Less is rest = ((is, all_beyond k x ks is h.0), h)
    go Equal is rest = h
    go Greater is rest = (all_insert (λ d. cell_cmp x d ≡ Less) ks k (turned k x Greater is) h.0, rest)

swapped : (a b r : Bool) → (a || (b || r)) ≡ (b || (a || r))
swapped a b r = sym (or_assoc a b r) ∙ ap (λ x. x || r) (or_comm a b) ∙ or_assoc b a r

-- it is among them, beside those that were
pub among-insert : (ks : List Cell) (k c : Cell) → is_cell_among (insert_key cell_cmp ks k) c ≡ (is_same_cell c k || is_cell_among ks c)
among-insert [] k c = refl
among-insert (x ∷ ks) k c = go (cell_cmp k x) refl (among-insert ks k c)
  where
    go : (o : Ordering) → cell_cmp k x ≡ o → is_cell_among (insert_key cell_cmp ks k) c ≡ (is_same_cell c k || is_cell_among ks c) →
        is_cell_among (match_ordering o (k ∷ x ∷ ks) (x ∷ ks) (x ∷ insert_key cell_cmp ks k)) c ≡ (is_same_cell c k || is_cell_among (x ∷ ks) c)
    go Less is rest = refl
    go Equal is rest =
        sym (or_self_left (is_same_cell c x) (is_cell_among ks c)) ∙ ap (λ d. is_same_cell c d || (is_same_cell c x || is_cell_among ks c)) (sym (same_cell k x is))
    go Greater is rest = ap (λ b. is_same_cell c x || b) rest ∙ swapped (is_same_cell c x) (is_same_cell c k) (is_cell_among ks c)
