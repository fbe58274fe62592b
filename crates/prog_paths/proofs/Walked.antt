-- The accesses of nodes, walked one after another, table by table.
use Rattle.std.proofs.Common.{◌≡◌, ℕ, ◌<◌, ◌≤◌, ◌+◌, ◌⊎◌, inl, inr, Bool, true, false, ◌||◌, ◌&&◌, List, Option, Some, None, [], ◌∷◌, ◌++◌, length, get_or, take, min, not, refl, sym, subst, ap, ◌∙◌, arith, append_assoc, cond, suc, ◌-◌, ◌^◌}
use Rattle.std.specs.Prelude.{All, nat_lt, nat_le, ◌==◌}
use Rattle.std.specs.List.{filter}
use Rattle.std.proofs.lemmas.Bool.{cases_lt, cases_eq, eq-eqb, ne_eqb, lt-ltb, le-ltb, le-leb, lt-leb, ltb-true, ltb-false, true≢false, or_from, or_left, or_right, and_from, and_left, and_right}
use Rattle.std.proofs.lemmas.List.{append-nil, take_more, length-take-le}
use Rattle.std.proofs.lemmas.List.Elements.{All-nil, All-cons, All-head, All-tail, All-append, All-weaker, All-more}
use Rattle.prog_check.specs.declared.path.Access.{Access}
use Rattle.prog_check.specs.declared.path.Path.{Path}
use Rattle.prog_paths.specs.declared.accesses.places.Placed.{Placed}
use Rattle.prog_paths.specs.declared.accesses.tally.AccessTally.{AccessTally}
use Rattle.prog_paths.specs.Places.{placed_from, all_from}
use Rattle.prog_paths.specs.Questions.{asked_by, asked_among}
use Rattle.prog_paths.specs.Limits.{most_questions}
use Rattle.prog_paths.specs.Tally.{IsTally, of_table, is_behind, is_before, NextIsGreater}
use Rattle.prog_paths.proofs.Questions.{placed}
use Rattle.prog_paths.proofs.Counted.{among-cons}

-- ---- one access or one node more

placed_from-append : (node n : ℕ) (xs ys : List Access) → placed_from node n (xs ++ ys) ≡ placed_from node n xs ++ placed_from node (n + length xs) ys
placed_from-append node n [] ys = let e : n ≡ n + 0 = omega arith in ap (λ k. placed_from node k ys) e
placed_from-append node n (x ∷ xs) ys =
    let e : n + 1 + length xs ≡ n + suc (length xs) = omega arith in
    ap (λ (l : List Placed). placed node n x ∷ l) (placed_from-append node (n + 1) xs ys ∙ ap (λ k. placed_from node (n + 1) xs ++ placed_from node k ys) e)

placed_from-more : (node k : ℕ) (xs : List Access) (d : Access) → k < length xs → placed_from node 0 (take (k + 1) xs) ≡ placed_from node 0 (take k xs) ++ placed node k (get_or xs k d) ∷ []
placed_from-more node k xs d lt =
    let e : 0 + length (take k xs) ≡ k = let l = length-take-le k xs (omega (arith, lt)) in omega (arith, l) in
    ap (placed_from node 0) (take_more xs k d lt)
    ∙ placed_from-append node 0 (take k xs) (get_or xs k d ∷ [])
    ∙ ap (λ j. placed_from node 0 (take k xs) ++ placed node j (get_or xs k d) ∷ []) e

all_from-append : (n : ℕ) (xs ys : List Path) → all_from n (xs ++ ys) ≡ all_from n xs ++ all_from (n + length xs) ys
all_from-append n [] ys = let e : n ≡ n + 0 = omega arith in ap (λ k. all_from k ys) e
all_from-append n (x ∷ xs) ys =
    let e : n + 1 + length xs ≡ n + suc (length xs) = omega arith in
    ap (λ (l : List Placed). placed_from n 0 x.accesses ++ l) (all_from-append (n + 1) xs ys ∙ ap (λ k. all_from (n + 1) xs ++ all_from k ys) e)
    ∙ sym (append_assoc (placed_from n 0 x.accesses) (all_from (n + 1) xs) (all_from (n + suc (length xs)) ys))

pub all_from-more : (k : ℕ) (paths : List Path) (path : Path) → k < length paths → path ≡ get_or paths k path → all_from 0 (take (k + 1) paths) ≡ all_from 0 (take k paths) ++ placed_from k 0 path.accesses
all_from-more k paths path lt is =
    let e : 0 + length (take k paths) ≡ k = let l = length-take-le k paths (omega (arith, lt)) in omega (arith, l) in
    ap (all_from 0) (take_more paths k path lt ∙ ap (λ (p : Path). take k paths ++ p ∷ []) (sym is))
    ∙ all_from-append 0 (take k paths) (path ∷ [])
    ∙ ap (λ j. all_from 0 (take k paths) ++ all_from j (path ∷ [])) e
    ∙ ap (λ (l : List Placed). all_from 0 (take k paths) ++ l) (append-nil (placed_from k 0 path.accesses))

-- ---- the places before an access

all_below : (n m : ℕ) (paths : List Path) → n + length paths ≤ m → All (λ p. p.node < m) (all_from n paths)
all_below n m [] le = All-nil (λ (p : Placed). p.node < m)
all_below n m (path ∷ paths) le =
    All-append (λ (p : Placed). p.node < m) (placed_from n 0 path.accesses) (all_from (n + 1) paths)
    (node_below n m 0 path.accesses (omega (arith, le))) (all_below (n + 1) m paths (omega (arith, le)))
  where
    node_below : (node m n : ℕ) (xs : List Access) → node < m → All (λ p. p.node < m) (placed_from node n xs)
    node_below node m n [] lt = All-nil (λ (p : Placed). p.node < m)
    node_below node m n (x ∷ xs) lt = All-cons (λ (p : Placed). p.node < m) (placed node n x) (placed_from node (n + 1) xs) lt (node_below node m (n + 1) xs lt)

pub first_nodes : (k : ℕ) (paths : List Path) → k ≤ length paths → All (λ p. p.node < k) (all_from 0 (take k paths))
first_nodes k paths le = all_below 0 k (take k paths) (let l = length-take-le k paths le in omega (arith, l))

-- an access stands before the one of a number of a node
abbrev IsEarlier : ℕ → ℕ → Placed → Type 0
IsEarlier node number q =
    ((nat_lt q.node node || ((q.node == node) && nat_le q.number number)) ≡ true)
    × ((nat_lt node q.node || ((node == q.node) && nat_le number q.number)) ≡ false)

earlier_node : (node number : ℕ) (q : Placed) → q.node < node → IsEarlier node number q
earlier_node node number q lt = (
  or_left (nat_lt q.node node) _ (lt-ltb q.node node lt),
  or_from (nat_lt node q.node) _ (le-ltb node q.node (omega (arith, lt))) (and_left (node == q.node) (nat_le number q.number) (ne_eqb node q.node (λ e. omega (arith, lt, e)))),
)

earlier_number : (node number : ℕ) (q : Placed) → q.node ≡ node → q.number < number → IsEarlier node number q
earlier_number node number q e lt = (
  or_right (nat_lt q.node node) _ (and_from (q.node == node) (nat_le q.number number) (eq-eqb q.node node e) (le-leb q.number number (omega (arith, lt)))),
  or_from (nat_lt node q.node) _ (le-ltb node q.node (omega (arith, e))) (and_right (node == q.node) (nat_le number q.number) (lt-leb number q.number lt)),
)

numbers_before : (node n m : ℕ) (xs : List Access) → n + length xs ≤ m → All (IsEarlier node m) (placed_from node n xs)
numbers_before node n m [] le = All-nil (IsEarlier node m)
numbers_before node n m (x ∷ xs) le =
    All-cons (IsEarlier node m) (placed node n x) (placed_from node (n + 1) xs) (earlier_number node m (placed node n x) refl (omega (arith, le)))
    (numbers_before node (n + 1) m xs (omega (arith, le)))

pub stands_behind : (node k : ℕ) (places : List Placed) (xs : List Access) → k ≤ length xs → All (λ p. p.node < node) places → All (λ q. ((nat_lt q.node node || ((q.node == node) && nat_le q.number k)) ≡ true) × ((nat_lt node q.node || ((node == q.node) && nat_le k q.number)) ≡ false)) (places ++ placed_from node 0 (take k xs))
stands_behind node k places xs le below =
    All-append (IsEarlier node k) places (placed_from node 0 (take k xs))
    (All-weaker (λ (p : Placed). p.node < node) (IsEarlier node k) (λ q lt. earlier_node node k q lt) places below)
    (numbers_before node 0 k (take k xs) (let l = length-take-le k xs le in omega (arith, l)))

-- the places of a walk, one access further
pub walked : (node k : ℕ) (places : List Placed) (xs : List Access) (d : Access) → k < length xs → (places ++ placed_from node 0 (take k xs)) ++ placed node k (get_or xs k d) ∷ [] ≡ places ++ placed_from node 0 (take (k + 1) xs)
walked node k places xs d lt =
    append_assoc places (placed_from node 0 (take k xs)) (placed node k (get_or xs k d) ∷ [])
    ∙ ap (λ (l : List Placed). places ++ l) (sym (placed_from-more node k xs d lt))

-- ---- all of the tables before the next one

abbrev pub before : Option ℕ → List Placed → List Placed
before next places = filter (λ p. is_before next p.access.table) places

among-filter : (test : Placed → Bool) (x : Placed) (xs ys : List Placed) → length (asked_among (filter test (x ∷ xs)) ys) ≡ cond (test x) (length (asked_by x ys)) 0 + length (asked_among (filter test xs) ys)
among-filter test x xs ys = go (test x)
  where
    go : (b : Bool) → length (asked_among (cond b (x ∷ filter test xs) (filter test xs)) ys) ≡ cond b (length (asked_by x ys)) 0 + length (asked_among (filter test xs) ys)
    go true = among-cons x (filter test xs) ys
    go false = omega arith

-- a table counts before the next one just where it counts before this one or as this one
one_table : (this table n : ℕ) (b : Bool) → b ≡ not (nat_lt this table) → cond b n 0 ≡ cond (nat_lt table this) n 0 + cond (table == this) n 0
one_table this table n b e = ap (λ c. cond c n 0) e ∙ go (cases_lt table this) (cases_eq table this)
  where
    go : (table < this) ⊎ (this ≤ table) → (table ≡ this) ⊎ (table ≡ this → ⊥) → cond (not (nat_lt this table)) n 0 ≡ cond (nat_lt table this) n 0 + cond (table == this) n 0
    go (inl lt) _ =
        let l = ap (λ c. cond (not c) n 0) (le-ltb this table (omega (arith, lt))) in
        let m = ap (λ c. cond c n 0) (lt-ltb table this lt) in
        let r = ap (λ c. cond c n 0) (ne_eqb table this (λ f. omega (arith, lt, f))) in
        omega (arith, l, m, r)
    go (inr le) (inl f) =
        let l = ap (λ c. cond (not c) n 0) (le-ltb this table (omega (arith, f))) in
        let m = ap (λ c. cond c n 0) (le-ltb table this le) in
        let r = ap (λ c. cond c n 0) (eq-eqb table this f) in
        omega (arith, l, m, r)
    go (inr le) (inr d) =
        let less : this < table = above le d in
        let l = ap (λ c. cond (not c) n 0) (lt-ltb this table less) in
        let m = ap (λ c. cond c n 0) (le-ltb table this le) in
        let r = ap (λ c. cond c n 0) (ne_eqb table this d) in
        omega (arith, l, m, r)
      where
        above : this ≤ table → (table ≡ this → ⊥) → this < table
        above le d = omega (arith, le, d)

pub table_more : (this : ℕ) (next : Option ℕ) (xs ys : List Placed) → All (λ p. is_before next p.access.table ≡ not (is_behind (Some this) p.access.table)) xs → length (asked_among (before next xs) ys) ≡ length (asked_among (before (Some this) xs) ys) + length (asked_among (of_table this xs) ys)
table_more this next [] ys h = omega arith
table_more this next (x ∷ xs) ys h =
    let a = among-filter (λ (p : Placed). is_before next p.access.table) x xs ys in
    let b = among-filter (λ (p : Placed). is_before (Some this) p.access.table) x xs ys in
    let c = among-filter (λ (p : Placed). p.access.table == this) x xs ys in
    let one = one_table this x.access.table (length (asked_by x ys)) (is_before next x.access.table) (All-head (λ (p : Placed). is_before next p.access.table ≡ not (is_behind (Some this) p.access.table)) x xs h) in
    let rest = table_more this next xs ys (All-tail (λ (p : Placed). is_before next p.access.table ≡ not (is_behind (Some this) p.access.table)) x xs h) in
    omega (arith, a, b, c, one, rest)

pub none_before : (next : Option ℕ) (xs ys : List Placed) → All (λ p. is_before next p.access.table ≡ not (is_behind None p.access.table)) xs → length (asked_among (before next xs) ys) ≡ 0
none_before next [] ys h = refl
none_before next (x ∷ xs) ys h =
    let a = among-filter (λ (p : Placed). is_before next p.access.table) x xs ys in
    let one = ap (λ c. cond c (length (asked_by x ys)) 0) (All-head (λ (p : Placed). is_before next p.access.table ≡ not (is_behind None p.access.table)) x xs h) in
    let rest = none_before next xs ys (All-tail (λ (p : Placed). is_before next p.access.table ≡ not (is_behind None p.access.table)) x xs h) in
    omega (arith, a, one, rest)

pub before-none : (xs : List Placed) → before None xs ≡ xs
before-none [] = refl
before-none (x ∷ xs) = ap (λ (l : List Placed). x ∷ l) (before-none xs)

-- ---- the next table

-- how far it is from the next table to the end
abbrev pub left : Option ℕ → ℕ
left None = 0
left (Some table) = 2 ^ 64 - table

at_or_behind : (found : Option ℕ) (table other : ℕ) → is_before found table ≡ true → is_before found other ≡ false → table ≤ other
at_or_behind None table other e f = absurd (true≢false f)
at_or_behind (Some next) table other e f =
    let a = ltb-true table next e in
    let b = ltb-false other next f in
    omega (arith, a, b)

still_before : (last : Option ℕ) (table other : ℕ) → is_behind last table ≡ true → is_behind last other ≡ false → other < table
still_before None table other e f = absurd (true≢false f)
still_before (Some last) table other e f =
    let a = ltb-true last table e in
    let b = ltb-false last other f in
    omega (arith, a, b)

-- a lesser one that is found between keeps what holds of the others
pub next_lower : (last found : Option ℕ) (table other : ℕ) → is_behind last table ≡ true → is_before found table ≡ true → is_before found other ≡ not (is_behind last other) → is_before (Some table) other ≡ not (is_behind last other)
next_lower last found table other behind before' h = go (is_behind last other) refl
  where
    go : (b : Bool) → is_behind last other ≡ b → nat_lt other table ≡ not (is_behind last other)
    go true e = le-ltb other table (at_or_behind found table other before' (h ∙ ap not e)) ∙ ap not (sym e)
    go false e = lt-ltb other table (still_before last table other behind e) ∙ ap not (sym e)

pub next_own : (last : Option ℕ) (table : ℕ) → is_behind last table ≡ true → is_before (Some table) table ≡ not (is_behind last table)
next_own last table behind = le-ltb table table (omega arith) ∙ ap not (sym behind)

before_rises : (last next : Option ℕ) (table : ℕ) → NextIsGreater last next → is_behind last table ≡ false → is_before next table ≡ true
before_rises None next table r e = absurd (true≢false e)
before_rises (Some last) None table r e = refl
before_rises (Some last) (Some next) table r e =
    let a = ltb-false last table e in
    lt-ltb table next (omega (arith, a, r))

-- one that isn't found between stands with the others
pub next_kept : (last next : Option ℕ) (table : ℕ) → NextIsGreater last next → (is_behind last table ≡ true → is_before next table ≡ false) → is_before next table ≡ not (is_behind last table)
next_kept last next table r h = go (is_behind last table) refl
  where
    go : (b : Bool) → is_behind last table ≡ b → is_before next table ≡ not (is_behind last table)
    go true e = h e ∙ ap not (sym e)
    go false e = before_rises last next table r e ∙ ap not (sym e)

pub rises_found : (last : Option ℕ) (table : ℕ) → is_behind last table ≡ true → NextIsGreater last (Some table)
rises_found None table e = tt
rises_found (Some last) table e = ltb-true last table e

pub all_placed : (P : ℕ → Type 0) (node n : ℕ) (xs : List Access) → All (λ a. P a.table) xs → All (λ p. P p.access.table) (placed_from node n xs)
all_placed P node n [] h = All-nil (λ (p : Placed). P p.access.table)
all_placed P node n (x ∷ xs) h =
    All-cons (λ (p : Placed). P p.access.table) (placed node n x) (placed_from node (n + 1) xs) (All-head (λ (a : Access). P a.table) x xs h)
    (all_placed P node (n + 1) xs (All-tail (λ (a : Access). P a.table) x xs h))

-- the least table behind the last one among the first so many of some accesses, or the one that was found before them
pub record IsNextOf (last found : Option ℕ) (xs : List Access) (k : ℕ) (next : Option ℕ) : Type 0 where
  pub rises : NextIsGreater last found → NextIsGreater last next
  pub keeps : (table : ℕ) → is_before found table ≡ not (is_behind last table) → is_before next table ≡ not (is_behind last table)
  pub all : NextIsGreater last found → All (λ a. is_before next a.table ≡ not (is_behind last a.table)) (take k xs)

pub next_found : (last found next : Option ℕ) (xs : List Access) (k : ℕ) (d : Access) → k < length xs → is_behind last (get_or xs k d).table ≡ true → is_before next (get_or xs k d).table ≡ true → IsNextOf last found xs k next → IsNextOf last found xs (k + 1) (Some (get_or xs k d).table)
next_found last found next xs k d lt behind before' h = record {
  rises = λ r. rises_found last (get_or xs k d).table behind;
  keeps = λ table e. next_lower last next (get_or xs k d).table table behind before' (h.keeps table e);
  all = λ r. All-more (λ (a : Access). is_before (Some (get_or xs k d).table) a.table ≡ not (is_behind last a.table)) xs k d lt
      (All-weaker (λ (a : Access). is_before next a.table ≡ not (is_behind last a.table)) (λ (a : Access). is_before (Some (get_or xs k d).table) a.table ≡ not (is_behind last a.table)) (λ a e. next_lower last next (get_or xs k d).table a.table behind before' e) (take k xs) (h.all r))
      (next_own last (get_or xs k d).table behind);
}

pub next_passed : (last found next : Option ℕ) (xs : List Access) (k : ℕ) (d : Access) → k < length xs → (is_behind last (get_or xs k d).table ≡ true → is_before next (get_or xs k d).table ≡ false) → IsNextOf last found xs k next → IsNextOf last found xs (k + 1) next
next_passed last found next xs k d lt passed h = record {
  rises = h.rises;
  keeps = h.keeps;
  all = λ r. All-more (λ (a : Access). is_before next a.table ≡ not (is_behind last a.table)) xs k d lt (h.all r) (next_kept last next (get_or xs k d).table (h.rises r) passed);
}

-- the tables of the first so many nodes, with those of one more
pub next_node : (last next new : Option ℕ) (k : ℕ) (paths : List Path) (path : Path) (xs : List Access) → k < length paths → path ≡ get_or paths k path → xs ≡ path.accesses → ((table : ℕ) → is_before next table ≡ not (is_behind last table) → is_before new table ≡ not (is_behind last table)) → All (λ a. is_before new a.table ≡ not (is_behind last a.table)) xs → All (λ p. is_before next p.access.table ≡ not (is_behind last p.access.table)) (all_from 0 (take k paths)) → All (λ p. is_before new p.access.table ≡ not (is_behind last p.access.table)) (all_from 0 (take (k + 1) paths))
next_node last next new k paths path xs lt is e keeps all h =
    subst (All (λ (p : Placed). is_before new p.access.table ≡ not (is_behind last p.access.table))) (sym (all_from-more k paths path lt is))
    (All-append (λ (p : Placed). is_before new p.access.table ≡ not (is_behind last p.access.table)) (all_from 0 (take k paths)) (placed_from k 0 path.accesses)
    (All-weaker (λ (p : Placed). is_before next p.access.table ≡ not (is_behind last p.access.table)) (λ (p : Placed). is_before new p.access.table ≡ not (is_behind last p.access.table)) (λ p f. keeps p.access.table f) (all_from 0 (take k paths)) h)
    (all_placed (λ table. is_before new table ≡ not (is_behind last table)) k 0 path.accesses (subst (λ (l : List Access). All (λ a. is_before new a.table ≡ not (is_behind last a.table)) l) e all)))

-- the count of the tables before the next one
pub count_more : (this : ℕ) (next : Option ℕ) (places : List Placed) (tally : AccessTally) (count new : ℕ) → All (λ p. is_before next p.access.table ≡ not (is_behind (Some this) p.access.table)) places → IsTally this places tally → count ≡ min (length (asked_among (before (Some this) places) places)) (most_questions + 1) → new ≡ min (count + tally.questions) (most_questions + 1) → new ≡ min (length (asked_among (before next places) places)) (most_questions + 1)
count_more this next places tally count new all is h e =
    let parts = table_more this next places places all in
    let asked = is.questions in
    omega (arith, parts, asked, h, e)

pub less_left : (table : ℕ) (next : Option ℕ) → table < 2 ^ 64 → NextIsGreater (Some table) next → left next < left (Some table)
less_left table None lt r = omega (arith, lt)
less_left table (Some next) lt r = omega (arith, lt, r)
