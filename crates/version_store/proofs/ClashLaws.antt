-- Laws of clashes: the first of some cells that has a number above the start.
use Rattle.std.proofs.Common.{◌+◌, length, ◌≡◌, ◌↔◌, ◌∙◌, ◌⊎◌, inl, inr, ℕ, suc, max, ◌<◌, ◌≤◌, Bool, true, false, ◌||◌, if◌then◌else◌, leb, nat_lt, List, [], ◌∷◌, ◌++◌, append_assoc, append-nil, refl, ap, sym, subst, arith}
use Rattle.std.specs.Prelude.{Option, Some, None}
use Rattle.std.specs.BTreeSet.{insert_key}
use Rattle.std.specs.Cmp.{tied_itself}
use Rattle.std.specs.declared.cmp.Ordering.{Ordering}
use Rattle.std.specs.declared.cmp.Ordering.TheVariants.{Less, Equal, Greater}
use Rattle.std.specs.List.{AllByRecursion}
use Rattle.std.specs.List.Sorted.{IsStrictlySortedBy}
use Rattle.std.specs.Ordering.{is_eq, is_lt, ordering_reverse}
use Rattle.std.proofs.Math.Bool.{or_assoc, or_comm, or-false}
use Rattle.std.proofs.lemmas.Bool.{or_right}
use Rattle.std.proofs.lemmas.Bool.Decides.{leb_tells}
use Rattle.std.proofs.lemmas.List.Folds.{list_any-append}
use Rattle.std.proofs.lemmas.Map.Keys.{sorted_head, sorted_tail}
use Rattle.prog_tree.specs.declared.cell.Cell.{Cell}
use Rattle.prog_tree.specs.ChangeSet.{ChangeSet, touches_cell}
use Rattle.prog_tree.specs.Table.{cell_cmp, Cells, cells_of, is_same_cell, is_cell_among}
use Rattle.prog_tree.proofs.CellSets.{turned, among-some, sorted-insert, among-insert}
use Rattle.prog_tree.proofs.TableLemmas.{cell_total}
use Rattle.prog_tree.proofs.TableStates.{same_cell, cell_is}
use Rattle.version_store.specs.declared.touches.Touch.{Touch}
use Rattle.version_store.specs.Clash.{last_touch, IsClash, IsFirstAbove, first_above, lesser, with_cells, touched, clash_of}
use Rattle.version_store.proofs.TouchLaws.{among_touches, touches_of}

-- ---- the order of cells

not_both : (a b : Cell) → cell_cmp a b ≡ Less → cell_cmp b a ≡ Less → ⊥
not_both a b p q = let back = cell_total.antisymm a b ∙ ap ordering_reverse q in absurd (cc)

-- what is less than a cell is less than one that is not less than it
less_than : (c x y : Cell) → cell_cmp c x ≡ Less → (cell_cmp y x ≡ Less → ⊥) → cell_cmp c y ≡ Less
less_than c x y less least = go (cell_cmp x y) refl
  where
    go : (o : Ordering) → cell_cmp x y ≡ o → cell_cmp c y ≡ Less
    go Less is = cell_total.trans c x y less is
    go Equal is = subst (λ (d : Cell). cell_cmp c d ≡ Less) (same_cell x y is) less
    go Greater is = absurd (least (turned x y Greater is))

-- ---- the first cell above the start

-- the same test and the same numbers
pub first-same :
    (p q : Cell → Bool) (f g : Cell → ℕ) (start : ℕ) (o : Option (Cell × ℕ)) → ((c : Cell) → p c ≡ q c) → ((c : Cell) → f c ≡ g c) → IsFirstAbove p f start o → IsFirstAbove q g start o
first-same p q f g start None same equal h = λ c passes above. h c (same c ∙ passes) (subst (λ (n : ℕ). start < n) (sym (equal c)) above)
first-same p q f g start (Some x) same equal h = (
  sym (same x.0) ∙ h.0,
  subst (λ (n : ℕ). start < n) (equal x.0) h.1,
  h.2 ∙ equal x.0,
  λ c passes above. h.3 c (same c ∙ passes) (subst (λ (n : ℕ). start < n) (sym (equal c)) above),
)

-- a search finds the first of cells in order
pub first-above : (number : Cell → ℕ) (start : ℕ) (cells : List Cell) → IsStrictlySortedBy cell_cmp cells → IsFirstAbove (is_cell_among cells) number start (first_above number start cells)
first-above number start [] sorted = λ c among above. absurd (cc)
first-above number start (k ∷ ks) sorted =
    go (leb_tells (suc start) (number k)) (first_above number start ks) (first-above number start ks (sorted_tail cell_cmp k ks sorted))
  where
    all_above : (ds : List Cell) (c : Cell) → AllByRecursion (λ d. cell_cmp k d ≡ Less) ds → is_cell_among ds c ≡ true → cell_cmp k c ≡ Less
    all_above [] c all among = absurd (cc)
    all_above (d ∷ ds) c all among = at (is_same_cell c d) refl among (all_above ds c all.1)
      where
        at : (b : Bool) → is_same_cell c d ≡ b → (b || is_cell_among ds c) ≡ true → (is_cell_among ds c ≡ true → cell_cmp k c ≡ Less) → cell_cmp k c ≡ Less
        at true same h rest = subst (λ (x : Cell). cell_cmp k x ≡ Less) (sym (cell_is c d same)) all.0
        at false other h rest = rest h

    least : (c : Cell) (b : Bool) → is_same_cell c k ≡ b → (b || is_cell_among ks c) ≡ true → cell_cmp c k ≡ Less → ⊥
    least c true same among less = let not = ap is_eq less in absurd (cc)
    least c false other among less = not_both k c (all_above ks c (sorted_head cell_cmp k ks sorted) among) less

    -- the first is not above the start
    past : (c : Cell) → number k ≤ start → (b : Bool) → is_same_cell c k ≡ b → (b || is_cell_among ks c) ≡ true → start < number c → is_cell_among ks c ≡ true
    past c low true same among above = let is : number c ≡ number k = ap number (cell_is c k same) in absurd (omega arith)
    past c low false other among above = among

    more : (o : Option (Cell × ℕ)) → number k ≤ start → IsFirstAbove (is_cell_among ks) number start o → IsFirstAbove (is_cell_among (k ∷ ks)) number start o
    more None low h = λ c among above. h c (past c low (is_same_cell c k) refl among above) above
    more (Some x) low h = (
      or_right (is_same_cell x.0 k) (is_cell_among ks x.0) h.0,
      h.1,
      h.2,
      λ c among above less. h.3 c (past c low (is_same_cell c k) refl among above) above less,
    )

    go : ((leb (suc start) (number k) ≡ true) × (suc start ≤ number k)) ⊎ ((leb (suc start) (number k) ≡ false) × (number k < suc start)) →
        (o : Option (Cell × ℕ)) → IsFirstAbove (is_cell_among ks) number start o → IsFirstAbove (is_cell_among (k ∷ ks)) number start (if nat_lt start (number k) then Some (k, number k) else o)
    go (inl more_than) o h =
        subst (λ (b : Bool). IsFirstAbove (is_cell_among (k ∷ ks)) number start (if b then Some (k, number k) else o)) (sym more_than.0) (
          ap (λ b. b || is_cell_among ks k) (ap is_eq (tied_itself cell_total k)),
          omega arith,
          refl,
          λ c among above less. least c (is_same_cell c k) refl among less,
        )
    go (inr at_most) o h =
        subst (λ (b : Bool). IsFirstAbove (is_cell_among (k ∷ ks)) number start (if b then Some (k, number k) else o)) (sym at_most.0) (more o (omega arith) h)

-- the lesser of the first of two kinds of cells
pub first-lesser :
    (p q : Cell → Bool) (number : Cell → ℕ) (start : ℕ) (a b : Option (Cell × ℕ)) → IsFirstAbove p number start a → IsFirstAbove q number start b →
    IsFirstAbove (λ c. p c || q c) number start (lesser a b)
first-lesser p q number start None None h k = λ c among above. at c (p c) (h c) among above
  where
    at : (c : Cell) (x : Bool) → (x ≡ true → start < number c → ⊥) → (x || q c) ≡ true → start < number c → ⊥
    at c true none among above = none refl above
    at c false none among above = k c among above
first-lesser p q number start None (Some y) h k = (or_right (p y.0) (q y.0) k.0, k.1, k.2, λ c among above less. at c (p c) (h c) among above less)
  where
    at : (c : Cell) (x : Bool) → (x ≡ true → start < number c → ⊥) → (x || q c) ≡ true → start < number c → cell_cmp c y.0 ≡ Less → ⊥
    at c true none among above less = none refl above
    at c false none among above less = k.3 c among above less
first-lesser p q number start (Some x) None h k = (ap (λ b. b || q x.0) h.0, h.1, h.2, λ c among above less. at c (p c) (h.3 c) among above less)
  where
    at : (c : Cell) (b : Bool) → (b ≡ true → start < number c → cell_cmp c x.0 ≡ Less → ⊥) → (b || q c) ≡ true → start < number c → cell_cmp c x.0 ≡ Less → ⊥
    at c true none among above less = none refl above less
    at c false none among above less = k c among above
first-lesser p q number start (Some x) (Some y) h k = go (cell_cmp y.0 x.0) refl
  where
    at : (c d : Cell) (b : Bool) → (b ≡ true → cell_cmp c d ≡ Less → ⊥) → (q c ≡ true → cell_cmp c d ≡ Less → ⊥) → (b || q c) ≡ true → cell_cmp c d ≡ Less → ⊥
    at c d true first second among less = first refl less
    at c d false first second among less = second among less

    first_stays : (cell_cmp y.0 x.0 ≡ Less → ⊥) → IsFirstAbove (λ c. p c || q c) number start (Some x)
    first_stays least = (
      ap (λ b. b || q x.0) h.0,
      h.1,
      h.2,
      λ c among above less. at c x.0 (p c) (λ is less. h.3 c is above less) (λ is less. k.3 c is above (less_than c x.0 y.0 less least)) among less,
    )

    second_counts : cell_cmp y.0 x.0 ≡ Less → IsFirstAbove (λ c. p c || q c) number start (Some y)
    second_counts before = (
      or_right (p y.0) (q y.0) k.0,
      k.1,
      k.2,
      λ c among above less. at c y.0 (p c) (λ is less. h.3 c is above (cell_total.trans c y.0 x.0 less before)) (λ is less. k.3 c is above less) among less,
    )

    go : (o : Ordering) → cell_cmp y.0 x.0 ≡ o → IsFirstAbove (λ c. p c || q c) number start (if is_lt (cell_cmp y.0 x.0) then Some y else Some x)
    go Less is = subst (λ (r : Ordering). IsFirstAbove (λ c. p c || q c) number start (if is_lt r then Some y else Some x)) (sym is) (second_counts is)
    go Equal is = subst (λ (r : Ordering). IsFirstAbove (λ c. p c || q c) number start (if is_lt r then Some y else Some x)) (sym is) (first_stays (λ less. absurd (cc)))
    go Greater is = subst (λ (r : Ordering). IsFirstAbove (λ c. p c || q c) number start (if is_lt r then Some y else Some x)) (sym is) (first_stays (λ less. absurd (cc)))

-- there is one first cell
pub first-unique : (p : Cell → Bool) (number : Cell → ℕ) (start : ℕ) (a b : Option (Cell × ℕ)) → IsFirstAbove p number start a → IsFirstAbove p number start b → a ≡ b
first-unique p number start None None h k = refl
first-unique p number start None (Some y) h k = absurd (h y.0 k.0 k.1)
first-unique p number start (Some x) None h k = absurd (k x.0 h.0 h.1)
first-unique p number start (Some x) (Some y) h k = go (cell_cmp x.0 y.0) refl
  where
    go : (o : Ordering) → cell_cmp x.0 y.0 ≡ o → Some x ≡ Some y
    go Less is = absurd (k.3 x.0 h.0 h.1 is)
    go Equal is =
        let cell = same_cell x.0 y.0 is in
        let same = h.2 ∙ ap number cell ∙ sym k.2 in
        λ i. Some (cell i, same i)
    go Greater is = absurd (h.3 y.0 k.0 k.1 (turned x.0 y.0 Greater is))

-- ---- clashes

-- numbers that are the same above the start find the same
first-seen :
    (p : Cell → Bool) (number other : Cell → ℕ) (start : ℕ) (o : Option (Cell × ℕ)) → ((c : Cell) → max start (number c) ≡ max start (other c)) → IsFirstAbove p number start o → IsFirstAbove p other start o
first-seen p number other start None same h = λ c passes above. h c passes (omega (arith, above, same c))
first-seen p number other start (Some x) same h =
    let equal : number x.0 ≡ other x.0 = omega (arith, h.1, same x.0) in
    (h.0, omega (arith, h.1, equal), h.2 ∙ equal, λ c passes above. h.3 c passes (omega (arith, above, same c)))

-- no commit has a number above how many there are
last_touch-within : (c : Cell) (k : ℕ) (ws : List ChangeSet) → last_touch c (k + 1) ws ≤ k + length ws
last_touch-within c k [] = omega arith
last_touch-within c k (w ∷ ws) =
    let later = last_touch-within c (k + 1) ws in
    go (touches_cell w c) later
  where
    go : (b : Bool) → last_touch c (k + 1 + 1) ws ≤ k + 1 + length ws → max (if b then k + 1 else 0) (last_touch c (k + 1 + 1) ws) ≤ k + length (w ∷ ws)
    go true later = omega (arith, later)
    go false later = omega (arith, later)

-- behind the last commit nothing clashes
pub none_behind : (ws : List ChangeSet) (start : ℕ) (w : ChangeSet) → length ws ≤ start → IsClash ws start w None
none_behind ws start w last c touches above = let within = last_touch-within c 0 ws in omega (arith, last, above, within)

-- the first of the touched cells, by numbers that are those of the last commits as far as they are above the start
pub clash_found :
    (ws : List ChangeSet) (start : ℕ) (w : ChangeSet) (number : Cell → ℕ) (o : Option (Cell × ℕ)) → ((c : Cell) → max start (number c) ≡ max start (last_touch c 1 ws)) →
    IsFirstAbove (touches_cell w) number start o → IsClash ws start w o
clash_found ws start w number o same first = first-seen (touches_cell w) number (λ c. last_touch c 1 ws) start o same first

-- ---- the search over the touched cells

sorted_with : (cs cells : List Cell) → IsStrictlySortedBy cell_cmp cells → IsStrictlySortedBy cell_cmp (with_cells cells cs)
sorted_with [] cells h = h
sorted_with (c ∷ cs) cells h = sorted_with cs (insert_key cell_cmp cells c) (sorted-insert cells c h)

among_with : (cs cells : List Cell) (c : Cell) → is_cell_among (with_cells cells cs) c ≡ (is_cell_among cells c || is_cell_among cs c)
among_with [] cells c = sym (or-false (is_cell_among cells c))
among_with (d ∷ cs) cells c =
    among_with cs (insert_key cell_cmp cells d) c
    ∙ ap (λ b. b || is_cell_among cs c) (among-insert cells d c ∙ or_comm (is_same_cell c d) (is_cell_among cells c))
    ∙ or_assoc (is_cell_among cells c) (is_same_cell c d) (is_cell_among cs c)

among_touched : (w : ChangeSet) (c : Cell) → is_cell_among (touched w) c ≡ touches_cell w c
among_touched w c =
    among_with w.kept (with_cells [] (cells_of w.cells)) c
    ∙ ap (λ b. b || is_cell_among w.kept c) (among_with (cells_of w.cells) [] c ∙ among-some w.cells c)

nothing_sorted : IsStrictlySortedBy cell_cmp []
unfolding IsStrictlySortedBy
nothing_sorted = tt

search_clashes : (ws : List ChangeSet) (start : ℕ) (w : ChangeSet) → IsClash ws start w (clash_of ws start w)
search_clashes ws start w =
    let number = λ (c : Cell). last_touch c 1 ws in
    let sorted = sorted_with w.kept (with_cells [] (cells_of w.cells)) (sorted_with (cells_of w.cells) [] nothing_sorted) in
    first-same (is_cell_among (touched w)) (touches_cell w) number number start (clash_of ws start w) (among_touched w) (λ c. refl) (first-above number start (touched w) sorted)

-- the search finds the clash, and nothing else is one
pub clashes_found : (ws : List ChangeSet) (start : ℕ) (w : ChangeSet) (o : Option (Cell × ℕ)) → IsClash ws start w o ↔ (o ≡ clash_of ws start w)
clashes_found ws start w o = (
  λ clash. first-unique (touches_cell w) (λ c. last_touch c 1 ws) start o (clash_of ws start w) clash (search_clashes ws start w),
  λ same. subst (λ (x : Option (Cell × ℕ)). IsClash ws start w x) (sym same) (search_clashes ws start w),
)

-- ---- a walk over the touched cells

-- what was found is the first of the touches that were walked over
pub record Finds (number : Cell → ℕ) (start : ℕ) (touches walked rest : Cells Touch) (found : Option (Cell × ℕ)) : Type 0 where
  pub joined : walked ++ rest ≡ touches
  pub first : IsFirstAbove (is_cell_among (cells_of walked)) number start found

cells-append : (walked more : Cells Touch) → cells_of (walked ++ more) ≡ cells_of walked ++ cells_of more
cells-append [] more = refl
cells-append (t ∷ walked) more = ap (λ cs. t.0 ∷ cs) (cells-append walked more)

pub finds_more :
    (number : Cell → ℕ) (start : ℕ) (touches walked left rest : Cells Touch) (k : Cell) (touch : Touch) (found here next : Option (Cell × ℕ)) → left ≡ (k, touch) ∷ rest →
    here ≡ first_above number start (k ∷ []) → next ≡ lesser found here → Finds number start touches walked left found → Finds number start touches (walked ++ (k, touch) ∷ []) rest next
finds_more number start touches walked left rest k touch found here next is at is_next h = record {
  joined = append_assoc walked ((k, touch) ∷ []) rest ∙ ap (λ ts. walked ++ ts) (sym is) ∙ h.joined;
  first =
      subst (λ (o : Option (Cell × ℕ)). IsFirstAbove (is_cell_among (cells_of (walked ++ (k, touch) ∷ []))) number start o) (sym (is_next ∙ ap (lesser found) at))
      (first-same (λ c. is_cell_among (cells_of walked) c || is_cell_among (k ∷ []) c) (is_cell_among (cells_of (walked ++ (k, touch) ∷ []))) number number start _
      (λ c. sym (ap (λ cs. is_cell_among cs c) (cells-append walked ((k, touch) ∷ [])) ∙ list_any-append (is_same_cell c) (cells_of walked) (k ∷ []))) (λ c. refl)
      (first-lesser (is_cell_among (cells_of walked)) (is_cell_among (k ∷ [])) number start found (first_above number start (k ∷ [])) h.first
      (first-above number start (k ∷ []) (sorted-insert [] k nothing_sorted))));
}

pub finds_all :
    (number : Cell → ℕ) (start : ℕ) (w : ChangeSet) (walked left : Cells Touch) (found : Option (Cell × ℕ)) → left ≡ [] → Finds number start (touches_of w) walked left found →
    IsFirstAbove (touches_cell w) number start found
finds_all number start w walked left found none h =
    let all : walked ≡ touches_of w = sym (append-nil walked) ∙ ap (λ ts. walked ++ ts) (sym none) ∙ h.joined in
    first-same (is_cell_among (cells_of walked)) (touches_cell w) number number start found (λ c. ap (λ (ts : Cells Touch). is_cell_among (cells_of ts) c) all ∙ among_touches w c) (λ c. refl) h.first
