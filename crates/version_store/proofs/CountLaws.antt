-- How many versions a vacuum leaves: cell by cell, and together.
use Rattle.std.proofs.Common.{◌≡◌, ◌∙◌, ℕ, ℤ, suc, ◌+◌, ◌<◌, ◌≤◌, Bool, true, false, ◌||◌, ◌&&◌, not, cond, if◌then◌else◌, leb, nat_lt, List, [], ◌∷◌, ◌++◌, length, map, refl, ap, sym, arith, append_assoc, append-nil, length-append}
use Rattle.std.specs.Prelude.{Option, Some, None, is_some, filter, nat_le, unwrap_or}
use Rattle.std.specs.List.{list_any}
use Rattle.std.specs.List.Sorted.{IsStrictlySortedBy}
use Rattle.std.specs.Map.{values_of}
use Rattle.std.proofs.Math.Bool.{and-false, or-false}
use Rattle.std.proofs.lemmas.Bool.{le-leb, lt-leb}
use Rattle.std.proofs.lemmas.Bool.Decides.{nat_tests}
use Rattle.std.proofs.lemmas.List.Elements.{filter-append, filter_agree}
use Rattle.std.proofs.lemmas.List.Filters.{length-filter_both}
use Rattle.std.proofs.lemmas.List.Folds.{list_any-append}
use Rattle.std.proofs.lemmas.List.{map-append, length-map}
use Rattle.std.proofs.lemmas.List.Sums.{sum_by-cons}
use Rattle.std.proofs.lemmas.Map.Keys.{sorted_tail}
use Rattle.prog_tree.specs.declared.cell.Cell.{Cell}
use Rattle.prog_tree.specs.ChangeSet.{ChangeSet}
use Rattle.prog_tree.specs.Table.{cell_cmp, Cells, cells_of, at_cell, is_same_cell, TableState, IsTableState, row_at}
use Rattle.prog_tree.proofs.CellSets.{same-itself, none-behind, same-turned}
use Rattle.prog_tree.proofs.TableStates.{cell_is}
use Rattle.version_store.specs.Reading.{RisesFrom, chain_at}
use Rattle.version_store.specs.StandsFor.{VersionChain, no_chain, version_by, changes_of, chain_of, trimmed, size, AreCommits}
use Rattle.version_store.specs.Trimming.{shown, versions_kept}
use Rattle.version_store.specs.Versions.{CellVersion, versions_from, versions_of, is_newest, is_retained, retained, versions_at}
use Rattle.version_store.proofs.TrimLaws.{kept_above}
use Rattle.version_store.proofs.VersionLaws.{chain_rises, made_by, of_row}

-- ---- chains, and lists of versions that have as many of each cell

abbrev pub is_of : Cell → CellVersion → Bool
is_of c v = is_same_cell c v.cell

abbrev pub is_not_of : Cell → CellVersion → Bool
is_not_of c v = not (is_same_cell c v.cell)

none_of_others : (k : Cell) (ys : List CellVersion) → filter (is_of k) (filter (is_not_of k) ys) ≡ []
none_of_others k [] = refl
none_of_others k (y ∷ ys) = go (is_same_cell k y.cell) refl (none_of_others k ys)
  where
    go : (b : Bool) → is_same_cell k y.cell ≡ b → filter (is_of k) (filter (is_not_of k) ys) ≡ [] → filter (is_of k) (cond (not b) (y ∷ filter (is_not_of k) ys) (filter (is_not_of k) ys)) ≡ []
    go true same rest = rest
    go false apart rest = ap (λ b. cond b (y ∷ filter (is_of k) (filter (is_not_of k) ys)) (filter (is_of k) (filter (is_not_of k) ys))) apart ∙ rest

-- another cell's versions are all among the others
others_of : (c k : Cell) (ys : List CellVersion) → is_same_cell c k ≡ false → filter (is_of c) (filter (is_not_of k) ys) ≡ filter (is_of c) ys
others_of c k [] apart = refl
others_of c k (y ∷ ys) apart = go (is_same_cell k y.cell) refl (others_of c k ys apart)
  where
    away : is_same_cell k y.cell ≡ true → is_same_cell c y.cell ≡ false
    away same = ap (is_same_cell c) (sym (cell_is k y.cell same)) ∙ apart

    go : (b : Bool) → is_same_cell k y.cell ≡ b → filter (is_of c) (filter (is_not_of k) ys) ≡ filter (is_of c) ys →
        filter (is_of c) (cond (not b) (y ∷ filter (is_not_of k) ys) (filter (is_not_of k) ys)) ≡ filter (is_of c) (y ∷ ys)
    go true same rest = rest ∙ ap (λ b. cond b (y ∷ filter (is_of c) ys) (filter (is_of c) ys)) (sym (away same))
    go false other rest = ap (λ xs. cond (is_same_cell c y.cell) (y ∷ xs) xs) rest

no_versions : (ys : List CellVersion) → ((c : Cell) → 0 ≡ length (filter (is_of c) ys)) → 0 ≡ length ys
no_versions [] h = refl
no_versions (y ∷ ys) h = absurd (let one : 0 ≡ suc (length (filter (is_of y.cell) ys)) = h y.cell ∙ ap (λ b. length (cond b (y ∷ filter (is_of y.cell) ys) (filter (is_of y.cell) ys))) (same-itself y.cell) in omega arith)

-- chains that have as many versions of each cell as a list have as many together
pub size_grouped : (chains : Cells VersionChain) (ys : List CellVersion) → IsStrictlySortedBy cell_cmp (cells_of chains) →
    ((c : Cell) → length (chain_at chains c).versions ≡ length (filter (is_of c) ys)) → size chains ≡ length ys
size_grouped [] ys sorted h = no_versions ys h
size_grouped ((k, chain) ∷ rest) ys sorted h =
    let others = size_grouped rest (filter (is_not_of k) ys) (sorted_tail cell_cmp k (cells_of rest) sorted) (λ c. go (is_same_cell c k) c refl) in
    let both : length (filter (is_of k) ys) + length (filter (is_not_of k) ys) ≡ length ys = length-filter_both (is_of k) (is_not_of k) (λ v. refl) ys in
    let first : length chain.versions ≡ length (filter (is_of k) ys) =
    sym (ap (λ b. length (here b k).versions) (same-itself k)) ∙ h k in
    let sum : size ((k, chain) ∷ rest) ≡ length chain.versions + size rest = sum_by-cons (λ (x : VersionChain). length x.versions) chain (values_of rest) in
    omega (arith, others, both, first, sum)
  where
    here : Bool → Cell → VersionChain
    here b c = unwrap_or (cond b (Some chain) (at_cell rest c)) no_chain

    go : (b : Bool) (c : Cell) → is_same_cell c k ≡ b → length (chain_at rest c).versions ≡ length (filter (is_of c) (filter (is_not_of k) ys))
    go true c same =
        ap (λ o. length (unwrap_or o no_chain).versions) (none-behind k c rest sorted same)
        ∙ ap length (sym (none_of_others c ys))
        ∙ ap (λ x. length (filter (is_of c) (filter (is_not_of x) ys))) (cell_is c k same)
    go false c apart =
        ap (λ b. length (here b c).versions) (sym apart) ∙ h c ∙ ap length (sym (others_of c k ys apart))

-- ---- the versions of one cell

abbrev pub pair_of_version : CellVersion → ℕ × Option ℤ
pair_of_version v = (v.number, v.value)

abbrev pub own : Cell → List CellVersion → List (ℕ × Option ℤ)
own = versions_at

own_append : (c : Cell) (xs ys : List CellVersion) → own c (xs ++ ys) ≡ own c xs ++ own c ys
own_append c xs ys = ap (map pair_of_version) (filter-append (is_of c) xs ys) ∙ map-append pair_of_version (filter (is_of c) xs) (filter (is_of c) ys)

-- one version at most, as each cell stands once
own_of_commit : (c : Cell) (n : ℕ) (cells : Cells (Option ℤ)) → IsStrictlySortedBy cell_cmp (cells_of cells) → own c (map (made_by n) cells) ≡ version_by n (at_cell cells c)
own_of_commit c n [] sorted = refl
own_of_commit c n (e ∷ es) sorted = go (is_same_cell c e.0) refl (own_of_commit c n es (sorted_tail cell_cmp e.0 (cells_of es) sorted))
  where
    go : (b : Bool) → is_same_cell c e.0 ≡ b → own c (map (made_by n) es) ≡ version_by n (at_cell es c) →
        map pair_of_version (cond b (made_by n e ∷ filter (is_of c) (map (made_by n) es)) (filter (is_of c) (map (made_by n) es))) ≡ version_by n (cond b (Some e.1) (at_cell es c))
    go true same rest = ap (λ vs. (n, e.1) ∷ vs) (rest ∙ ap (version_by n) (none-behind e.0 c es sorted same))
    go false apart rest = rest

own_of_rows : (c : Cell) (rows : TableState) → IsTableState rows → own c (map of_row rows) ≡ shown 0 (row_at rows c)
own_of_rows c [] sorted = refl
own_of_rows c (e ∷ es) sorted = go (is_same_cell c e.0) refl (own_of_rows c es (sorted_tail cell_cmp e.0 (cells_of es) sorted))
  where
    go : (b : Bool) → is_same_cell c e.0 ≡ b → own c (map of_row es) ≡ shown 0 (row_at es c) →
        map pair_of_version (cond b (of_row e ∷ filter (is_of c) (map of_row es)) (filter (is_of c) (map of_row es))) ≡ shown 0 (cond b (Some e.1) (row_at es c))
    go true same rest = ap (λ vs. (0, Some e.1) ∷ vs) (rest ∙ ap (shown 0) (none-behind e.0 c es sorted same))
    go false apart rest = rest

own_from : (c : Cell) (n : ℕ) (ws : List ChangeSet) → AreCommits ws → own c (versions_from n ws) ≡ changes_of c n ws
own_from c n [] each = refl
own_from c n (w ∷ ws) each =
    own_append c (map (made_by n) w.cells) (versions_from (n + 1) ws)
    ∙ (λ i. own_of_commit c n w.cells each.0 i ++ own_from c (n + 1) ws each.1 i)

own_of_history : (opening : TableState) (ws : List ChangeSet) (c : Cell) → IsTableState opening → AreCommits ws → own c (versions_of opening ws) ≡ (chain_of opening ws c).versions
own_of_history opening ws c ordered each =
    own_append c (map of_row opening) (versions_from 1 ws)
    ∙ (λ i. own_of_rows c opening ordered i ++ own_from c 1 ws each i)

-- ---- the retained ones among them

-- the same test on the versions of one cell
abbrev pub stays : List (ℕ × Option ℤ) → ℕ → ℕ × Option ℤ → Bool
stays vs f v = nat_lt f v.0 || (not (list_any (λ (u : ℕ × Option ℤ). nat_lt v.0 u.0 && nat_le u.0 f) vs) && is_some v.1)

newer_own : (c x : Cell) (n f : ℕ) (vs : List CellVersion) → c ≡ x →
    list_any (λ u. is_same_cell u.cell x && (nat_lt n u.number && nat_le u.number f)) vs ≡ list_any (λ (u : ℕ × Option ℤ). nat_lt n u.0 && nat_le u.0 f) (own c vs)
newer_own c x n f [] same = refl
newer_own c x n f (v ∷ vs) same = turn ∙ go (is_same_cell c v.cell) (newer_own c x n f vs same)
  where
    newer : Bool
    newer = nat_lt n v.number && nat_le v.number f

    rest_of : Bool
    rest_of = list_any (λ u. is_same_cell u.cell x && (nat_lt n u.number && nat_le u.number f)) vs

    turn : (is_same_cell v.cell x && newer) || rest_of ≡ (is_same_cell c v.cell && newer) || rest_of
    turn = ap (λ b. (b && newer) || rest_of) (same-turned v.cell x ∙ ap (λ y. is_same_cell y v.cell) (sym same))

    go : (b : Bool) → rest_of ≡ list_any (λ (u : ℕ × Option ℤ). nat_lt n u.0 && nat_le u.0 f) (own c vs) →
        (b && newer) || rest_of ≡ list_any (λ (u : ℕ × Option ℤ). nat_lt n u.0 && nat_le u.0 f) (map pair_of_version (cond b (v ∷ filter (is_of c) vs) (filter (is_of c) vs)))
    go true rest = ap (λ b. newer || b) rest
    go false rest = rest

retained_own : (c : Cell) (f : ℕ) (vs : List CellVersion) (v : CellVersion) → is_of c v ≡ true → is_retained vs f v ≡ stays (own c vs) f (pair_of_version v)
retained_own c f vs v same = ap (λ b. nat_lt f v.number || (not b && is_some v.value)) (newer_own c v.cell v.number f vs (cell_is c v.cell same))

-- two filters in turn, where the second test is one on the pairs
filter_own : (c : Cell) (p : CellVersion → Bool) (q : ℕ × Option ℤ → Bool) → ((v : CellVersion) → is_of c v ≡ true → p v ≡ q (pair_of_version v)) →
    (xs : List CellVersion) → own c (filter p xs) ≡ filter q (own c xs)
filter_own c p q same [] = refl
filter_own c p q same (v ∷ xs) = go (p v) (is_of c v) refl refl (filter_own c p q same xs)
  where
    go : (a b : Bool) → p v ≡ a → is_of c v ≡ b → own c (filter p xs) ≡ filter q (own c xs) →
        own c (cond a (v ∷ filter p xs) (filter p xs)) ≡ filter q (map pair_of_version (cond b (v ∷ filter (is_of c) xs) (filter (is_of c) xs)))
    go true true passes is rest =
        ap (λ b. map pair_of_version (cond b (v ∷ filter (is_of c) (filter p xs)) (filter (is_of c) (filter p xs)))) is
        ∙ ap (λ ys. pair_of_version v ∷ ys) rest
        ∙ ap (λ b. cond b (pair_of_version v ∷ filter q (own c xs)) (filter q (own c xs))) (sym (sym (same v is) ∙ passes))
    go true false passes is rest = ap (λ b. map pair_of_version (cond b (v ∷ filter (is_of c) (filter p xs)) (filter (is_of c) (filter p xs)))) is ∙ rest
    go false true fails is rest = rest ∙ ap (λ b. cond b (pair_of_version v ∷ filter q (own c xs)) (filter q (own c xs))) (sym (sym (same v is) ∙ fails))
    go false false fails is rest = rest

-- ---- on versions that rise the test leaves what a vacuum leaves

none_newer : (n k f : ℕ) (vs : List (ℕ × Option ℤ)) → f < n → RisesFrom n vs → list_any (λ (u : ℕ × Option ℤ). nat_lt k u.0 && nat_le u.0 f) vs ≡ false
none_newer n k f [] high rises = refl
none_newer n k f (v ∷ vs) high rises =
    ap (λ b. (nat_lt k v.0 && b) || list_any (λ (u : ℕ × Option ℤ). nat_lt k u.0 && nat_le u.0 f) vs) (lt-leb v.0 f (omega (arith, high, rises.0)))
    ∙ go (nat_lt k v.0) (none_newer (v.0 + 1) k f vs (omega (arith, high, rises.0)) rises.1)
  where
    go : (b : Bool) → list_any (λ (u : ℕ × Option ℤ). nat_lt k u.0 && nat_le u.0 f) vs ≡ false → ((b && false) || list_any (λ (u : ℕ × Option ℤ). nat_lt k u.0 && nat_le u.0 f) vs) ≡ false
    go true rest = rest
    go false rest = rest

-- a held version stays where no newer one at most f follows
kept_list : (f k : ℕ) (o : Option ℤ) (vs : List (ℕ × Option ℤ)) → RisesFrom (k + 1) vs →
    versions_kept f (shown k o) vs ≡ (if not (list_any (λ (u : ℕ × Option ℤ). nat_lt k u.0 && nat_le u.0 f) vs) && is_some o then (k, o) ∷ versions_kept f [] vs else versions_kept f [] vs)
kept_list f k None [] rises = refl
kept_list f k (Some x) [] rises = refl
kept_list f k o (v ∷ vs) rises = go (leb v.0 f) refl
  where
    newer : nat_lt k v.0 ≡ true
    newer = le-leb (suc k) v.0 (omega (arith, rises.0))

    shows : (o : Option ℤ) → shown k o ++ v ∷ vs ≡ (if is_some o then (k, o) ∷ v ∷ vs else v ∷ vs)
    shows None = refl
    shows (Some x) = refl

    go : (b : Bool) → leb v.0 f ≡ b →
        cond b (versions_kept f (shown v.0 v.1) vs) (shown k o ++ v ∷ vs)
        ≡ (if not ((nat_lt k v.0 && b) || list_any (λ (u : ℕ × Option ℤ). nat_lt k u.0 && nat_le u.0 f) vs) && is_some o
        then (k, o) ∷ cond b (versions_kept f (shown v.0 v.1) vs) (v ∷ vs) else cond b (versions_kept f (shown v.0 v.1) vs) (v ∷ vs))
    go true low =
        ap (λ t. if not ((t && true) || list_any (λ (u : ℕ × Option ℤ). nat_lt k u.0 && nat_le u.0 f) vs) && is_some o
        then (k, o) ∷ versions_kept f (shown v.0 v.1) vs else versions_kept f (shown v.0 v.1) vs) (sym newer)
    go false above =
        let high : f < v.0 = grind (arith, nat_tests) in
        let none = none_newer (v.0 + 1) k f vs (omega (arith, high)) rises.1 in
        shows o
        ∙ ap (λ t. if not (t || false) && is_some o then (k, o) ∷ v ∷ vs else v ∷ vs) (sym (and-false (nat_lt k v.0)))
        ∙ ap (λ t. if not ((nat_lt k v.0 && false) || t) && is_some o then (k, o) ∷ v ∷ vs else v ∷ vs) (sym none)

-- `whole` has of what is newer than n just what the rest of it has
kept_by_test : (f n : ℕ) (whole vs : List (ℕ × Option ℤ)) →
    ((k : ℕ) → n ≤ k → list_any (λ (u : ℕ × Option ℤ). nat_lt k u.0 && nat_le u.0 f) whole ≡ list_any (λ (u : ℕ × Option ℤ). nat_lt k u.0 && nat_le u.0 f) vs) →
    RisesFrom n vs → filter (stays whole f) vs ≡ versions_kept f [] vs
kept_by_test f n whole [] same rises = refl
kept_by_test f n whole (v ∷ vs) same rises =
    ap (λ t. cond (nat_lt f v.0 || (not t && is_some v.1)) (v ∷ filter (stays whole f) vs) (filter (stays whole f) vs)) here
    ∙ go (leb v.0 f) refl (kept_by_test f (v.0 + 1) whole vs (λ k low. same k (omega (arith, low, rises.0)) ∙ older k low) rises.1)
  where
    older : (k : ℕ) → v.0 + 1 ≤ k → list_any (λ (u : ℕ × Option ℤ). nat_lt k u.0 && nat_le u.0 f) (v ∷ vs) ≡ list_any (λ (u : ℕ × Option ℤ). nat_lt k u.0 && nat_le u.0 f) vs
    older k low = ap (λ b. (b && nat_le v.0 f) || list_any (λ (u : ℕ × Option ℤ). nat_lt k u.0 && nat_le u.0 f) vs) (lt-leb (suc k) v.0 (omega (arith, low)))

    later : Bool
    later = list_any (λ (u : ℕ × Option ℤ). nat_lt v.0 u.0 && nat_le u.0 f) vs

    here : list_any (λ (u : ℕ × Option ℤ). nat_lt v.0 u.0 && nat_le u.0 f) whole ≡ later
    here = same v.0 rises.0 ∙ ap (λ b. (b && nat_le v.0 f) || later) (lt-leb (suc v.0) v.0 (omega arith))

    go : (b : Bool) → leb v.0 f ≡ b → filter (stays whole f) vs ≡ versions_kept f [] vs →
        cond (nat_lt f v.0 || (not later && is_some v.1)) (v ∷ filter (stays whole f) vs) (filter (stays whole f) vs) ≡ cond b (versions_kept f (shown v.0 v.1) vs) (v ∷ vs)
    go true low rest =
        let order : v.0 ≤ f = grind (arith, nat_tests) in
        ap (λ b. cond (b || (not later && is_some v.1)) (v ∷ filter (stays whole f) vs) (filter (stays whole f) vs)) (lt-leb (suc f) v.0 (omega (arith, order)))
        ∙ chosen (not later && is_some v.1) rest
        ∙ sym (kept_list f v.0 v.1 vs rises.1)
      where
        chosen : (b : Bool) → filter (stays whole f) vs ≡ versions_kept f [] vs →
            cond b (v ∷ filter (stays whole f) vs) (filter (stays whole f) vs) ≡ (if b then v ∷ versions_kept f [] vs else versions_kept f [] vs)
        chosen true rest = ap (λ xs. v ∷ xs) rest
        chosen false rest = rest
    go false above rest =
        let high : f < v.0 = grind (arith, nat_tests) in
        ap (λ b. cond (b || (not later && is_some v.1)) (v ∷ filter (stays whole f) vs) (filter (stays whole f) vs)) (le-leb (suc f) v.0 high)
        ∙ ap (λ xs. v ∷ xs) (rest ∙ kept_above f (v.0 + 1) [] vs (omega (arith, high)) rises.1)

-- of each cell a vacuum leaves just the retained versions
pub retained_at : (opening : TableState) (ws : List ChangeSet) (f : ℕ) (c : Cell) → IsTableState opening → AreCommits ws →
    versions_at c (retained opening ws f) ≡ (trimmed f (chain_of opening ws c)).versions
retained_at opening ws f c ordered each =
    let vs = versions_of opening ws in
    let chain = (chain_of opening ws c).versions in
    filter_own c (is_retained vs f) (stays (own c vs) f) (λ v same. retained_own c f vs v same) vs
    ∙ ap (λ xs. filter (stays xs f) xs) (own_of_history opening ws c ordered each)
    ∙ kept_by_test f 0 chain chain (λ k low. refl) (chain_rises opening ws c)

-- the chains of a history after a vacuum have as many versions as are retained
pub size_retained : (chains : Cells VersionChain) (opening : TableState) (ws : List ChangeSet) (f : ℕ) → IsTableState opening → AreCommits ws →
    IsStrictlySortedBy cell_cmp (cells_of chains) → ((c : Cell) → chain_at chains c ≡ trimmed f (chain_of opening ws c)) → size chains ≡ length (retained opening ws f)
size_retained chains opening ws f ordered each sorted is =
    size_grouped chains (retained opening ws f) sorted (λ c. ap (λ (x : VersionChain). length x.versions) (is c) ∙ sym (ap length (retained_at opening ws f c ordered each)) ∙ length-map (filter (is_of c) (retained opening ws f)) pair_of_version)

-- ---- at the beginning

none_newer_row : (v : CellVersion) (rows : TableState) → list_any (λ u. is_same_cell u.cell v.cell && (nat_lt v.number u.number && nat_le u.number 0)) (map of_row rows ++ []) ≡ false
none_newer_row v [] = refl
none_newer_row v (e ∷ es) = go (is_same_cell e.0 v.cell) (none_newer_row v es)
  where
    go : (b : Bool) → list_any (λ u. is_same_cell u.cell v.cell && (nat_lt v.number u.number && nat_le u.number 0)) (map of_row es ++ []) ≡ false →
        ((b && (nat_lt v.number 0 && nat_le 0 0)) || list_any (λ u. is_same_cell u.cell v.cell && (nat_lt v.number u.number && nat_le u.number 0)) (map of_row es ++ [])) ≡ false
    go b rest = ap (λ t. (b && (t && nat_le 0 0)) || list_any (λ u. is_same_cell u.cell v.cell && (nat_lt v.number u.number && nat_le u.number 0)) (map of_row es ++ [])) (lt-leb (suc v.number) 0 (omega arith)) ∙ and_nothing b rest
      where
        and_nothing : (b : Bool) → list_any (λ u. is_same_cell u.cell v.cell && (nat_lt v.number u.number && nat_le u.number 0)) (map of_row es ++ []) ≡ false →
            ((b && false) || list_any (λ u. is_same_cell u.cell v.cell && (nat_lt v.number u.number && nat_le u.number 0)) (map of_row es ++ [])) ≡ false
        and_nothing true rest = rest
        and_nothing false rest = rest

rows_pass : (p : CellVersion → Bool) → ((e : Cell × ℤ) → p (of_row e) ≡ true) → (rows : TableState) → length (filter p (map of_row rows ++ [])) ≡ length rows
rows_pass p passes [] = refl
rows_pass p passes (e ∷ es) = ap (λ b. length (cond b (of_row e ∷ filter p (map of_row es ++ [])) (filter p (map of_row es ++ [])))) (passes e) ∙ ap suc (rows_pass p passes es)

-- the opening rows are all retained
pub retained-open : (opening : TableState) → length (retained opening [] 0) ≡ length opening
retained-open opening =
    rows_pass (is_retained (map of_row opening ++ []) 0)
    (λ e. ap (λ b. nat_lt 0 0 || (not b && true)) (none_newer_row (of_row e) opening)) opening

-- ---- one more commit

none_newer_made : (n f : ℕ) (v : CellVersion) (cells : Cells (Option ℤ)) → f < n → list_any (λ u. is_same_cell u.cell v.cell && (nat_lt v.number u.number && nat_le u.number f)) (map (made_by n) cells) ≡ false
none_newer_made n f v [] high = refl
none_newer_made n f v (e ∷ es) high =
    ap (λ t. (is_same_cell e.0 v.cell && (nat_lt v.number n && t)) || list_any (λ u. is_same_cell u.cell v.cell && (nat_lt v.number u.number && nat_le u.number f)) (map (made_by n) es)) (lt-leb n f high)
    ∙ go (is_same_cell e.0 v.cell) (nat_lt v.number n) (none_newer_made n f v es high)
  where
    go : (a b : Bool) → list_any (λ u. is_same_cell u.cell v.cell && (nat_lt v.number u.number && nat_le u.number f)) (map (made_by n) es) ≡ false →
        ((a && (b && false)) || list_any (λ u. is_same_cell u.cell v.cell && (nat_lt v.number u.number && nat_le u.number f)) (map (made_by n) es)) ≡ false
    go true true rest = rest
    go true false rest = rest
    go false b rest = rest

all_made_pass : (p : CellVersion → Bool) (n : ℕ) → ((e : Cell × Option ℤ) → p (made_by n e) ≡ true) → (cells : Cells (Option ℤ)) → length (filter p (map (made_by n) cells)) ≡ length cells
all_made_pass p n passes [] = refl
all_made_pass p n passes (e ∷ es) = ap (λ b. length (cond b (made_by n e ∷ filter p (map (made_by n) es)) (filter p (map (made_by n) es)))) (passes e) ∙ ap suc (all_made_pass p n passes es)

versions_from-push : (k : ℕ) (ws : List ChangeSet) (w : ChangeSet) → versions_from k (ws ++ w ∷ []) ≡ versions_from k ws ++ map (made_by (k + length ws)) w.cells
versions_from-push k [] w = append-nil (map (made_by k) w.cells) ∙ ap (λ n. map (made_by n) w.cells) (omega arith)
versions_from-push k (v ∷ ws) w =
    let place : k + 1 + length ws ≡ k + suc (length ws) = omega arith in
    ap (λ vs. map (made_by k) v.cells ++ vs) (versions_from-push (k + 1) ws w ∙ ap (λ n. versions_from (k + 1) ws ++ map (made_by n) w.cells) place)
    ∙ sym (append_assoc (map (made_by k) v.cells) (versions_from (k + 1) ws) (map (made_by (k + suc (length ws))) w.cells))

-- a commit above the floor adds a retained version for each changed cell
pub retained-push : (opening : TableState) (ws : List ChangeSet) (w : ChangeSet) (f : ℕ) → f ≤ length ws →
    length (retained opening (ws ++ w ∷ []) f) ≡ length (retained opening ws f) + length w.cells
retained-push opening ws w f low =
    ap (λ xs. length (filter (is_retained xs f) xs)) all
    ∙ ap length (filter-append (is_retained (vs ++ new) f) vs new ∙ ap (λ xs. xs ++ filter (is_retained (vs ++ new) f) new) (filter_agree (is_retained (vs ++ new) f) (is_retained vs f) same vs))
    ∙ length-append (filter (is_retained vs f) vs) (filter (is_retained (vs ++ new) f) new)
    ∙ ap (λ n. length (filter (is_retained vs f) vs) + n) (all_made_pass (is_retained (vs ++ new) f) (1 + length ws) passes w.cells)
  where
    vs : List CellVersion
    vs = versions_of opening ws

    new : List CellVersion
    new = map (made_by (1 + length ws)) w.cells

    all : versions_of opening (ws ++ w ∷ []) ≡ vs ++ new
    all = ap (λ xs. map of_row opening ++ xs) (versions_from-push 1 ws w) ∙ sym (append_assoc (map of_row opening) (versions_from 1 ws) new)

    same : (v : CellVersion) → is_retained (vs ++ new) f v ≡ is_retained vs f v
    same v =
        ap (λ b. nat_lt f v.number || (not b && is_some v.value))
        (list_any-append (λ u. is_same_cell u.cell v.cell && (nat_lt v.number u.number && nat_le u.number f)) vs new
        ∙ ap (λ b. list_any (λ u. is_same_cell u.cell v.cell && (nat_lt v.number u.number && nat_le u.number f)) vs || b) (none_newer_made (1 + length ws) f v w.cells (omega (arith, low)))
        ∙ or-false (list_any (λ u. is_same_cell u.cell v.cell && (nat_lt v.number u.number && nat_le u.number f)) vs))

    passes : (e : Cell × Option ℤ) → is_retained (vs ++ new) f (made_by (1 + length ws) e) ≡ true
    passes e = ap (λ b. b || (is_newest (vs ++ new) f (made_by (1 + length ws) e) && is_some e.1)) (le-leb (suc f) (1 + length ws) (omega (arith, low)))
