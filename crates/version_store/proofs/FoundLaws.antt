-- The rows that are found in chains, one behind another.
use Rattle.std.proofs.Common.{◌≡◌, ◌∙◌, ℕ, ℤ, Bool, true, false, cond, if◌then◌else◌, List, [], ◌∷◌, ◌++◌, refl, ap, sym, subst}
use Rattle.std.specs.Prelude.{◌↔◌, IsTrue, Option, Some, None, filter, unwrap_or}
use Rattle.std.specs.Cmp.{tied_itself}
use Rattle.std.specs.declared.cmp.Ordering.TheVariants.{Less}
use Rattle.std.specs.List.{AllByRecursion, flat_map}
use Rattle.std.specs.List.Sorted.{IsStrictlySortedBy}
use Rattle.std.specs.FinMap.Entries.{find-where_key}
use Rattle.std.specs.Ordering.{is_eq}
use Rattle.std.specs.Option.{option_or}
use Rattle.std.proofs.lemmas.List.{append_assoc, append-nil}
use Rattle.std.proofs.lemmas.List.Kept.{IsStrictlySortedBy-filter}
use Rattle.std.proofs.lemmas.Map.Keys.{sorted_tail}
use Rattle.prog_tree.specs.declared.cell.Cell.{Cell}
use Rattle.prog_tree.specs.declared.cell.Region.{Region}
use Rattle.prog_tree.specs.Table.{cell_cmp, Cells, cells_of, at_cell, is_same_cell, is_in, is_cell_among, TableState, IsTableState, row_at, row_held}
use Rattle.prog_tree.proofs.CellSets.{none-behind}
use Rattle.prog_tree.proofs.TableLemmas.{cell_total, find_is}
use Rattle.prog_tree.proofs.TableStates.{same_cell, cell_is, same_state, IsTableState-nil}
use Rattle.version_store.specs.StandsFor.{VersionChain, no_chain}
use Rattle.version_store.specs.Reading.{AllRise, RisesFrom, chain_at, value_at}
use Rattle.prog_tree.specs.Corners.{is_between, AreCorners}
use Rattle.version_store.specs.Regions.{seen_in, seen_left, seen_between, left_between, IsSeen}
use Rattle.version_store.proofs.BetweenLaws.{in_by_second}
use Rattle.version_store.proofs.ScanLaws.{seen_at, or_none}

-- the rows of what is seen of chains, in their order
abbrev pub found_rows : (Cell → VersionChain → Option ℤ) → Cells VersionChain → TableState
found_rows seen = flat_map (λ (entry : Cell × VersionChain). row_held entry.0 (seen entry.0 entry.1))

abbrev pub Seen : Type 0
Seen = Cell → VersionChain → Option ℤ

-- ---- the order of the rows

above_one : (P : Cell → Type 0) (k : Cell) (o : Option ℤ) (rows : TableState) → P k → AllByRecursion P (cells_of rows) → AllByRecursion P (cells_of (row_held k o ++ rows))
above_one P k None rows p h = h
above_one P k (Some v) rows p h = (p, h)

above_all : (P : Cell → Type 0) (seen : Seen) (es : Cells VersionChain) → AllByRecursion P (cells_of es) → AllByRecursion P (cells_of (found_rows seen es))
above_all P seen [] h = tt
above_all P seen (e ∷ es) h = above_one P e.0 (seen e.0 e.1) (found_rows seen es) h.0 (above_all P seen es h.1)

one_more : (k : Cell) (o : Option ℤ) (rows : TableState) → AllByRecursion (λ d. cell_cmp k d ≡ Less) (cells_of rows) → IsTableState rows → IsTableState (row_held k o ++ rows)
unfolding IsStrictlySortedBy
one_more k None rows below h = h
one_more k (Some v) rows below h = (below, h)

in_order : (seen : Seen) (es : Cells VersionChain) → IsStrictlySortedBy cell_cmp (cells_of es) → IsTableState (found_rows seen es)
unfolding IsStrictlySortedBy
in_order seen [] h = tt
in_order seen (e ∷ es) h = one_more e.0 (seen e.0 e.1) (found_rows seen es) (above_all (λ d. cell_cmp e.0 d ≡ Less) seen es h.0) (in_order seen es h.1)

-- ---- the rows at a cell

row_at-row_held : (k : Cell) (o : Option ℤ) (rows : TableState) (c : Cell) → row_at (row_held k o ++ rows) c ≡ cond (is_same_cell c k) (option_or o (row_at rows c)) (row_at rows c)
row_at-row_held k None rows c = elim (is_same_cell c k) as (λ b. row_at rows c ≡ cond b (row_at rows c) (row_at rows c)) [ true ↦ refl | false ↦ refl ]
row_at-row_held k (Some v) rows c = refl

row_at-found_rows : (seen : Seen) (es : Cells VersionChain) → IsStrictlySortedBy cell_cmp (cells_of es) → (c : Cell) → row_at (found_rows seen es) c ≡ seen_at seen c (at_cell es c)
row_at-found_rows seen [] h c = refl
row_at-found_rows seen (e ∷ es) h c =
    row_at-row_held e.0 (seen e.0 e.1) (found_rows seen es) c
    ∙ turn (is_same_cell c e.0) refl (row_at-found_rows seen es (sorted_tail cell_cmp e.0 (cells_of es) h) c)
  where
    turn : (b : Bool) → is_same_cell c e.0 ≡ b → row_at (found_rows seen es) c ≡ seen_at seen c (at_cell es c) →
        cond b (option_or (seen e.0 e.1) (row_at (found_rows seen es) c)) (row_at (found_rows seen es) c) ≡ seen_at seen c (cond b (Some e.1) (at_cell es c))
    turn true same rest =
        ap (option_or (seen e.0 e.1)) (rest ∙ ap (seen_at seen c) (none-behind e.0 c es h same))
        ∙ or_none (seen e.0 e.1) ∙ ap (λ x. seen x e.1) (sym (cell_is c e.0 same))
    turn false apart rest = rest

-- the rows that are found are what is seen
pub is_seen : (seen : Seen) → ((c : Cell) → seen c no_chain ≡ None) → (chains : Cells VersionChain) → IsStrictlySortedBy cell_cmp (cells_of chains) → IsSeen seen chains (found_rows seen chains)
is_seen seen unseen chains sorted = (in_order seen chains sorted, λ c. row_at-found_rows seen chains sorted c ∙ go c (at_cell chains c))
  where
    go : (c : Cell) (o : Option VersionChain) → seen_at seen c o ≡ seen c (unwrap_or o no_chain)
    go c None = sym (unseen c)
    go c (Some chain) = refl

pub found_is : (seen : Seen) → ((c : Cell) → seen c no_chain ≡ None) → (chains : Cells VersionChain) → IsStrictlySortedBy cell_cmp (cells_of chains) → (m : TableState) → IsSeen seen chains m → found_rows seen chains ≡ m
found_is seen unseen chains sorted m h =
    let found = is_seen seen unseen chains sorted in
    same_state (found_rows seen chains) m found.0 h.0 (λ c. found.1 c ∙ sym (h.1 c))

-- ---- a part of the chains

pub cells-filter : {A : Type 0} (p : Cell → Bool) (es : Cells A) → filter p (cells_of es) ≡ cells_of (filter (λ e. p e.0) es)
cells-filter p [] = refl
cells-filter p (e ∷ es) = ap (λ cs. cond (p e.0) (e.0 ∷ cs) cs) (cells-filter p es) ∙ go (p e.0)
  where
    go : (b : Bool) → cond b (e.0 ∷ cells_of (filter (λ e. p e.0) es)) (cells_of (filter (λ e. p e.0) es)) ≡ cells_of (cond b (e ∷ filter (λ e. p e.0) es) (filter (λ e. p e.0) es))
    go true = refl
    go false = refl

pub at_cell-filter : {A : Type 0} (p : Cell → Bool) (es : Cells A) (c : Cell) → at_cell (filter (λ e. p e.0) es) c ≡ cond (p c) (at_cell es c) None
at_cell-filter p es c =
    find_is (filter (λ e. p e.0) es) c
    ∙ find-where_key cell_cmp p c (λ x t. ap p (sym (same_cell c x t))) es
    ∙ ap (λ o. cond (p c) o None) (sym (find_is es c))

-- what is left of chains on a walk: in order, and each rises
pub record IsLeft (left : Cells VersionChain) : Type 0 where
  pub sorted : IsStrictlySortedBy cell_cmp (cells_of left)
  pub rises : (c : Cell) (chain : VersionChain) → at_cell left c ≡ Some chain → RisesFrom 0 chain.versions

all_left : (chains : Cells VersionChain) → IsStrictlySortedBy cell_cmp (cells_of chains) → AllRise chains → IsLeft chains
all_left chains sorted rise = record {
  sorted = sorted;
  rises = λ c chain found. subst (λ (o : Option VersionChain). RisesFrom 0 (unwrap_or o no_chain).versions) found (rise c);
}

pub between_left : (p : Cell → Bool) (chains between : Cells VersionChain) → IsStrictlySortedBy cell_cmp (cells_of chains) → AllRise chains → between ≡ filter (λ e. p e.0) chains → IsLeft between
between_left p chains between sorted rise is = record {
  sorted = subst (λ (cs : List Cell). IsStrictlySortedBy cell_cmp cs) (cells-filter p chains ∙ ap cells_of (sym is)) (IsStrictlySortedBy-filter cell_cmp p (cells_of chains) sorted);
  rises = λ c chain found. inside (p c) c chain (sym (at_cell-filter p chains c) ∙ ap (λ es. at_cell es c) (sym is) ∙ found);
}
  where
    inside : (b : Bool) (c : Cell) (chain : VersionChain) → cond b (at_cell chains c) None ≡ Some chain → RisesFrom 0 chain.versions
    inside true c chain found = subst (λ (o : Option VersionChain). RisesFrom 0 (unwrap_or o no_chain).versions) found (rise c)
    inside false c chain found = absurd (cc)

pub first_rises : (k : Cell) (chain : VersionChain) (rest : Cells VersionChain) → IsLeft ((k, chain) ∷ rest) → RisesFrom 0 chain.versions
first_rises k chain rest h = h.rises k chain (ap (λ b. cond b (Some chain) (at_cell rest k)) (ap is_eq (tied_itself cell_total k)))

pub rest_left : (k : Cell) (chain : VersionChain) (rest : Cells VersionChain) → IsLeft ((k, chain) ∷ rest) → IsLeft rest
rest_left k chain rest h = record {
  sorted = sorted_tail cell_cmp k (cells_of rest) h.sorted;
  rises = λ c x found. go (is_same_cell c k) c x refl found;
}
  where
    go : (b : Bool) (c : Cell) (x : VersionChain) → is_same_cell c k ≡ b → at_cell rest c ≡ Some x → RisesFrom 0 x.versions
    go true c x same found = let none = none-behind k c rest h.sorted same in absurd (cc)
    go false c x apart found = h.rises c x (ap (λ b. cond b (Some chain) (at_cell rest c)) apart ∙ found)

-- the chains in which nothing is seen do not matter
found_where :
    (shown seen : Seen) (p : Cell → Bool) (es : Cells VersionChain) → ((c : Cell) (chain : VersionChain) → p c ≡ true → shown c chain ≡ seen c chain) →
    ((c : Cell) (chain : VersionChain) → p c ≡ false → seen c chain ≡ None) → found_rows shown (filter (λ e. p e.0) es) ≡ found_rows seen es
found_where shown seen p [] inside outside = refl
found_where shown seen p (e ∷ es) inside outside = go (p e.0) refl (found_where shown seen p es inside outside)
  where
    go : (b : Bool) → p e.0 ≡ b → found_rows shown (filter (λ e. p e.0) es) ≡ found_rows seen es → found_rows shown (cond b (e ∷ filter (λ e. p e.0) es) (filter (λ e. p e.0) es)) ≡ row_held e.0 (seen e.0 e.1) ++ found_rows seen es
    go true within rest =
        ap (λ o. row_held e.0 o ++ found_rows shown (filter (λ e. p e.0) es)) (inside e.0 e.1 within)
        ∙ ap (λ rows. row_held e.0 (seen e.0 e.1) ++ rows) rest
    go false apart rest = rest ∙ ap (λ o. row_held e.0 o ++ found_rows seen es) (sym (outside e.0 e.1 apart))

beside : (region : Region) (low high c : Cell) → AreCorners region (Some (low, high)) → is_between low high c ≡ false → is_in region c ≡ false
beside region low high c corners apart = go (is_in region c) (corners.1 c)
  where
    go : (b : Bool) → (b ≡ true → is_between low high c ≡ true) → b ≡ false
    go true h = let met = h refl in absurd (cc)
    go false h = refl

-- ---- what is seen in a region, and what of it is not an instance's own

abbrev nothing : Option ℤ
nothing = None

pub outside_region : (region : Region) (n : ℕ) (c : Cell) (chain : VersionChain) → is_in region c ≡ false → seen_in region n c chain ≡ None
outside_region region n c chain apart = ap (λ b. if b then value_at n chain else None) apart

outside_left : (region : Region) (own : List Cell) (n : ℕ) (c : Cell) (chain : VersionChain) → is_in region c ≡ false → seen_left region own n c chain ≡ None
outside_left region own n c chain apart = ap (λ o. if is_cell_among own c then None else o) (outside_region region n c chain apart) ∙ go (is_cell_among own c)
  where
    go : (b : Bool) → (if b then nothing else nothing) ≡ nothing
    go true = refl
    go false = refl

pub no_chain_in : (region : Region) (n : ℕ) (c : Cell) → seen_in region n c no_chain ≡ None
no_chain_in region n c = go (is_in region c)
  where
    go : (b : Bool) → (if b then value_at n no_chain else None) ≡ None
    go true = refl
    go false = refl

no_chain_left : (region : Region) (own : List Cell) (n : ℕ) (c : Cell) → seen_left region own n c no_chain ≡ None
no_chain_left region own n c = ap (λ o. if is_cell_among own c then None else o) (no_chain_in region n c) ∙ go (is_cell_among own c)
  where
    go : (b : Bool) → (if b then nothing else nothing) ≡ nothing
    go true = refl
    go false = refl

-- between the corners of a region it is seen by the second column
seen_there :
    (region : Region) (n : ℕ) (low high c : Cell) (chain : VersionChain) → AreCorners region (Some (low, high)) → is_between low high c ≡ true →
    seen_between region n c chain ≡ seen_in region n c chain
seen_there region n low high c chain corners between =
    ap (λ b. if b then value_at n chain else None) (sym (in_by_second region low high c corners.0 between))

left_there :
    (region : Region) (own : List Cell) (n : ℕ) (low high c : Cell) (chain : VersionChain) → AreCorners region (Some (low, high)) → is_between low high c ≡ true →
    left_between region own n c chain ≡ seen_left region own n c chain
left_there region own n low high c chain corners between =
    ap (λ o. if is_cell_among own c then None else o) (seen_there region n low high c chain corners between)

-- ---- rows that are gathered

-- with those of the chains that are left, the rows are all
pub record Gains (seen : Seen) (all : TableState) (left : Cells VersionChain) (rows : TableState) : Type 0 where
  pub walk : IsLeft left
  pub joined : rows ++ found_rows seen left ≡ all

pub gains_first :
    (region : Region) (n : ℕ) (low high : Cell) (chains between : Cells VersionChain) → IsStrictlySortedBy cell_cmp (cells_of chains) → AllRise chains →
    AreCorners region (Some (low, high)) → between ≡ filter (λ e. is_between low high e.0) chains → Gains (seen_between region n) (found_rows (seen_in region n) chains) between []
gains_first region n low high chains between sorted rise corners is = record {
  walk = between_left (is_between low high) chains between sorted rise is;
  joined =
      ap (found_rows (seen_between region n)) is
      ∙ found_where (seen_between region n) (seen_in region n) (is_between low high) chains
      (λ c chain inside. seen_there region n low high c chain corners inside)
      (λ c chain apart. outside_region region n c chain (beside region low high c corners apart));
}

pub gains_all : (seen : Seen) (chains left : Cells VersionChain) → IsStrictlySortedBy cell_cmp (cells_of chains) → AllRise chains → left ≡ chains → Gains seen (found_rows seen chains) left []
gains_all seen chains left sorted rise is = subst (λ (es : Cells VersionChain). Gains seen (found_rows seen chains) es []) (sym is) record { walk = all_left chains sorted rise; joined = refl }

pub gains_more :
    (seen : Seen) (all : TableState) (left rest : Cells VersionChain) (k : Cell) (chain : VersionChain) (rows next : TableState) → left ≡ (k, chain) ∷ rest → Gains seen all left rows →
    (RisesFrom 0 chain.versions → next ≡ rows ++ row_held k (seen k chain)) → Gains seen all rest next
gains_more seen all left rest k chain rows next is so_far adds = record {
  walk = rest_left k chain rest h.walk;
  joined = ap (λ m. m ++ found_rows seen rest) (adds (first_rises k chain rest h.walk)) ∙ append_assoc rows (row_held k (seen k chain)) (found_rows seen rest) ∙ h.joined;
}
  where
    h : Gains seen all ((k, chain) ∷ rest) rows
    h = subst (λ (es : Cells VersionChain). Gains seen all es rows) is so_far

pub gained_of :
    (shown seen : Seen) → ((c : Cell) → seen c no_chain ≡ None) → (chains left : Cells VersionChain) (rows : TableState) → IsStrictlySortedBy cell_cmp (cells_of chains) → left ≡ [] →
    Gains shown (found_rows seen chains) left rows → IsSeen seen chains rows
gained_of shown seen unseen chains left rows sorted none h =
    subst (λ (m : TableState). IsSeen seen chains m)
    (sym (sym (append-nil rows) ∙ ap (λ es. rows ++ found_rows shown es) (sym none) ∙ h.joined))
    (is_seen seen unseen chains sorted)

pub gained :
    (region : Region) (n : ℕ) (chains left : Cells VersionChain) (rows : TableState) → IsStrictlySortedBy cell_cmp (cells_of chains) → left ≡ [] →
    Gains (seen_between region n) (found_rows (seen_in region n) chains) left rows → IsSeen (seen_in region n) chains rows
gained region n = gained_of (seen_between region n) (seen_in region n) (no_chain_in region n)

pub gained_nothing : (region : Region) (n : ℕ) (chains : Cells VersionChain) → AreCorners region None → IsSeen (seen_in region n) chains []
gained_nothing region n chains corners = (IsTableState-nil, λ c. sym (outside_region region n c (chain_at chains c) (corners c)))

-- ---- rows that are compared

-- the rest is what is found in the chains that are left exactly where the rows are all
pub record Matches (seen : Seen) (all : TableState) (left : Cells VersionChain) (rest rows : TableState) : Type 0 where
  pub walk : IsLeft left
  pub same : (found_rows seen left ≡ rest) ↔ (all ≡ rows)

pub matches_first :
    (region : Region) (own : List Cell) (n : ℕ) (low high : Cell) (chains between : Cells VersionChain) (rows : TableState) → IsStrictlySortedBy cell_cmp (cells_of chains) → AllRise chains →
    AreCorners region (Some (low, high)) → between ≡ filter (λ e. is_between low high e.0) chains → Matches (left_between region own n) (found_rows (seen_left region own n) chains) between rows rows
matches_first region own n low high chains between rows sorted rise corners is = record {
  walk = between_left (is_between low high) chains between sorted rise is;
  same = (λ same. sym all ∙ same, λ same. all ∙ same);
}
  where
    all : found_rows (left_between region own n) between ≡ found_rows (seen_left region own n) chains
    all =
        ap (found_rows (left_between region own n)) is
        ∙ found_where (left_between region own n) (seen_left region own n) (is_between low high) chains
        (λ c chain inside. left_there region own n low high c chain corners inside)
        (λ c chain apart. outside_left region own n c chain (beside region low high c corners apart))

-- a step: what is behind the row of a chain goes on exactly where the rest does
abbrev pub GoesOn : Cell → Option ℤ → (rest : TableState) → Option TableState → Type 0
GoesOn k o rest after = (m : TableState) → (after ≡ Some m) ↔ (row_held k o ++ m ≡ rest)

pub matches_more :
    (seen : Seen) (all : TableState) (left behind : Cells VersionChain) (k : Cell) (chain : VersionChain) (o : Option ℤ) (rest after rows : TableState) → left ≡ (k, chain) ∷ behind →
    Matches seen all left rest rows → (RisesFrom 0 chain.versions → o ≡ seen k chain) → GoesOn k o rest (Some after) → Matches seen all behind after rows
matches_more seen all left behind k chain o rest after rows is so_far sees goes = record {
  walk = rest_left k chain behind h.walk;
  same = (λ same. h.same.0 (found ∙ (goes (found_rows seen behind)).0 (ap Some (sym same))), λ same. some_is ((goes (found_rows seen behind)).1 (sym found ∙ h.same.1 same)));
}
  where
    h : Matches seen all ((k, chain) ∷ behind) rest rows
    h = subst (λ (es : Cells VersionChain). Matches seen all es rest rows) is so_far

    found : row_held k (seen k chain) ++ found_rows seen behind ≡ row_held k o ++ found_rows seen behind
    found = ap (λ x. row_held k x ++ found_rows seen behind) (sym (sees (first_rises k chain behind h.walk)))

    some_is : Some after ≡ Some (found_rows seen behind) → found_rows seen behind ≡ after
    some_is e = cc

pub mismatch :
    (seen : Seen) (all : TableState) (left behind : Cells VersionChain) (k : Cell) (chain : VersionChain) (o : Option ℤ) (rest rows : TableState) → left ≡ (k, chain) ∷ behind →
    Matches seen all left rest rows → (RisesFrom 0 chain.versions → o ≡ seen k chain) → GoesOn k o rest None → all ≡ rows → ⊥
mismatch seen all left behind k chain o rest rows is so_far sees goes same =
    let never = (goes (found_rows seen behind)).1 (sym found ∙ h.same.1 same) in absurd (cc)
  where
    h : Matches seen all ((k, chain) ∷ behind) rest rows
    h = subst (λ (es : Cells VersionChain). Matches seen all es rest rows) is so_far

    found : row_held k (seen k chain) ++ found_rows seen behind ≡ row_held k o ++ found_rows seen behind
    found = ap (λ x. row_held k x ++ found_rows seen behind) (sym (sees (first_rises k chain behind h.walk)))

-- what is found but for own cells is all that is seen but for them
pub left_is :
    (region : Region) (own : List Cell) (n : ℕ) (chains : Cells VersionChain) → IsStrictlySortedBy cell_cmp (cells_of chains) → (m : TableState) →
    IsSeen (seen_left region own n) chains m → found_rows (seen_left region own n) chains ≡ m
left_is region own n = found_is (seen_left region own n) (no_chain_left region own n)

pub left_nothing : (region : Region) (own : List Cell) (n : ℕ) (chains : Cells VersionChain) → AreCorners region None → (m : TableState) → IsSeen (seen_left region own n) chains m → m ≡ []
left_nothing region own n chains corners m h = same_state m [] h.0 IsTableState-nil (λ c. h.1 c ∙ outside_left region own n c (chain_at chains c) (corners c))

-- ---- the end of a comparison

pub empty_is : (rows m : TableState) (b : Bool) → (IsTrue b ↔ (rows ≡ [])) → m ≡ [] → IsTrue b ↔ (m ≡ rows)
empty_is rows m b empty none = (λ t. none ∙ sym (empty.0 t), λ same. empty.1 (sym same ∙ none))

pub matched :
    (seen : Seen) (all : TableState) (left : Cells VersionChain) (rest rows m : TableState) (b : Bool) → left ≡ [] → Matches seen all left rest rows → all ≡ m →
    (IsTrue b ↔ (rest ≡ [])) → IsTrue b ↔ (m ≡ rows)
matched seen all left rest rows m b none h is empty =
    let at_end : found_rows seen left ≡ [] = ap (found_rows seen) none in
    (λ t. sym is ∙ h.same.0 (at_end ∙ sym (empty.0 t)), λ same. empty.1 (sym (h.same.1 (is ∙ same)) ∙ at_end))

pub unmatched : (rows found m : TableState) → found ≡ m → (found ≡ rows → ⊥) → IsTrue false ↔ (m ≡ rows)
unmatched rows found m is never = (λ t. absurd (cc), λ same. absurd (never (is ∙ same)))
