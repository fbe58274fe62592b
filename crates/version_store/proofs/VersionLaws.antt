-- The chain of a cell in a history.
use Rattle.std.proofs.Common.{◌≡◌, ◌∙◌, ℕ, ℤ, zero, suc, ◌+◌, ◌<◌, ◌≤◌, max, Bool, true, false, ◌||◌, cond, if◌then◌else◌, leb, nat_lt, List, [], ◌∷◌, ◌++◌, length, take, refl, ap, sym, arith, append_assoc, append-nil}
use Rattle.std.specs.Prelude.{Option, Some, None, is_some, fold, filter, unwrap_or}
use Rattle.std.proofs.lemmas.Bool.{le-leb, lt-leb}
use Rattle.prog_tree.specs.declared.cell.Cell.{Cell}
use Rattle.prog_tree.specs.ChangeSet.{ChangeSet, change_at, changed}
use Rattle.prog_tree.specs.Table.{TableState, row_at, is_cell_among}
use Rattle.prog_tree.proofs.ChangedLemmas.{row_at-changed}
use Rattle.version_store.specs.Clash.{last_touch}
use Rattle.version_store.specs.Commits.{state_at}
use Rattle.version_store.specs.Reading.{version_number, RisesFrom, value_after, value_at, version_numbers, last_number_or, last_number, with_commit, with_mark_by, with_change_by, IsBelow}
use Rattle.version_store.specs.Trimming.{shown}
use Rattle.version_store.specs.StandsFor.{version_by, changes_of, marks_of, chain_of}
use Rattle.version_store.specs.Versions.{CellVersion}
use Rattle.version_store.proofs.RisingLaws.{rises_more}

abbrev state_from : TableState → List ChangeSet → TableState
state_from m ws = fold (λ n w. changed n w.cells) m ws

-- ---- what is read

-- versions above n change nothing
value_above : (c : Cell) (n k : ℕ) (before : Option ℤ) (ws : List ChangeSet) → n < k → value_after n before (changes_of c k ws) ≡ before
value_above c n k before [] above = refl
value_above c n k before (w ∷ ws) above = go (change_at w c) (value_above c n (k + 1) before ws (omega arith))
  where
    go : (o : Option (Option ℤ)) → value_after n before (changes_of c (k + 1) ws) ≡ before → value_after n before (version_by k o ++ changes_of c (k + 1) ws) ≡ before
    go None rest = rest
    go (Some x) rest = ap (λ b. value_after n (cond b x before) (changes_of c (k + 1) ws)) (lt-leb k n above) ∙ rest

-- commits from the number k on, after a state
value_from : (c : Cell) (n k j : ℕ) (m : TableState) (ws : List ChangeSet) → k + j ≡ n + 1 → value_after n (row_at m c) (changes_of c k ws) ≡ row_at (state_from m (take j ws)) c
value_from c n k zero m ws end = value_above c n k (row_at m c) ws (omega arith)
value_from c n k (suc j) m [] end = refl
value_from c n k (suc j) m (w ∷ ws) end = go (change_at w c) (row_at-changed m w.cells c) ∙ value_from c n (k + 1) j (changed m w.cells) ws (omega arith)
  where
    within : leb k n ≡ true
    within = le-leb k n (omega arith)

    go : (o : Option (Option ℤ)) → row_at (changed m w.cells) c ≡ unwrap_or o (row_at m c) →
        value_after n (row_at m c) (version_by k o ++ changes_of c (k + 1) ws) ≡ value_after n (row_at (changed m w.cells) c) (changes_of c (k + 1) ws)
    go None is = ap (λ x. value_after n x (changes_of c (k + 1) ws)) (sym is)
    go (Some x) is = ap (λ b. value_after n (cond b x (row_at m c)) (changes_of c (k + 1) ws)) within ∙ ap (λ x. value_after n x (changes_of c (k + 1) ws)) (sym is)

-- the newest version at most n is what the cell held after n commits
pub value_at-chain_of : (opening : TableState) (ws : List ChangeSet) (c : Cell) (n : ℕ) → value_at n (chain_of opening ws c) ≡ row_at (state_at opening ws n) c
value_at-chain_of opening ws c n = go (row_at opening c) ∙ value_from c n 1 n opening ws (omega arith)
  where
    go : (o : Option ℤ) → value_after n None (shown 0 o ++ changes_of c 1 ws) ≡ value_after n o (changes_of c 1 ws)
    go None = refl
    go (Some v) = ap (λ b. value_after n (cond b (Some v) None) (changes_of c 1 ws)) (le-leb 0 n (omega arith))

-- ---- numbers rise

pub changes_rise : (c : Cell) (k : ℕ) (ws : List ChangeSet) → RisesFrom k (changes_of c k ws)
changes_rise c k [] = tt
changes_rise c k (w ∷ ws) = go (change_at w c) (changes_rise c (k + 1) ws)
  where
    go : (o : Option (Option ℤ)) → RisesFrom (k + 1) (changes_of c (k + 1) ws) → RisesFrom k (version_by k o ++ changes_of c (k + 1) ws)
    go None rest = rises_more version_number k (k + 1) (changes_of c (k + 1) ws) (omega arith) rest
    go (Some x) rest = (omega arith, rest)

pub chain_rises : (opening : TableState) (ws : List ChangeSet) (c : Cell) → RisesFrom 0 (chain_of opening ws c).versions
chain_rises opening ws c = go (row_at opening c)
  where
    go : (o : Option ℤ) → RisesFrom 0 (shown 0 o ++ changes_of c 1 ws)
    go None = rises_more version_number 0 1 (changes_of c 1 ws) (omega arith) (changes_rise c 1 ws)
    go (Some v) = (omega arith, changes_rise c 1 ws)

-- ---- the last number

last_from : (c : Cell) (k a b : ℕ) (ws : List ChangeSet) → a < k → b < k → max (last_number_or a (version_numbers (changes_of c k ws))) (last_number_or b (marks_of c k ws)) ≡ max (max a b) (last_touch c k ws)
last_from c k a b [] p q = omega arith
last_from c k a b (w ∷ ws) p q = go (change_at w c) (is_cell_among w.kept c) (λ x y lx ly. last_from c (k + 1) x y ws lx ly)
  where
    go : (o : Option (Option ℤ)) (kept : Bool) →
        ((x y : ℕ) → x < k + 1 → y < k + 1 → max (last_number_or x (version_numbers (changes_of c (k + 1) ws))) (last_number_or y (marks_of c (k + 1) ws)) ≡ max (max x y) (last_touch c (k + 1) ws)) →
        max (last_number_or a (version_numbers (version_by k o ++ changes_of c (k + 1) ws))) (last_number_or b (if kept then k ∷ marks_of c (k + 1) ws else marks_of c (k + 1) ws))
        ≡ max (max a b) (max (if is_some o || kept then k else 0) (last_touch c (k + 1) ws))
    go None true rest = let h = rest a k (omega arith) (omega arith) in omega arith
    go None false rest = let h = rest a b (omega arith) (omega arith) in omega arith
    go (Some x) true rest = let h = rest k k (omega arith) (omega arith) in omega arith
    go (Some x) false rest = let h = rest k b (omega arith) (omega arith) in omega arith

pub last_number-chain_of : (opening : TableState) (ws : List ChangeSet) (c : Cell) → last_number (chain_of opening ws c) ≡ last_touch c 1 ws
last_number-chain_of opening ws c = go (row_at opening c)
  where
    rest : max (last_number_or 0 (version_numbers (changes_of c 1 ws))) (last_number_or 0 (marks_of c 1 ws)) ≡ last_touch c 1 ws
    rest = let h = last_from c 1 0 0 ws (omega arith) (omega arith) in omega arith

    go : (o : Option ℤ) → max (last_number_or 0 (version_numbers (shown 0 o ++ changes_of c 1 ws))) (last_number_or 0 (marks_of c 1 ws)) ≡ last_touch c 1 ws
    go None = rest
    go (Some v) = rest

-- ---- one more commit

changes-push : (c : Cell) (k : ℕ) (ws : List ChangeSet) (w : ChangeSet) → changes_of c k (ws ++ w ∷ []) ≡ changes_of c k ws ++ version_by (k + length ws) (change_at w c)
changes-push c k [] w =
    let here : k ≡ k + 0 = omega arith in
    go (change_at w c) ∙ ap (λ n. version_by n (change_at w c)) here
  where
    go : (o : Option (Option ℤ)) → version_by k o ++ [] ≡ version_by k o
    go None = refl
    go (Some x) = refl
changes-push c k (v ∷ ws) w =
    let place : k + 1 + length ws ≡ k + suc (length ws) = omega arith in
    ap (λ vs. version_by k (change_at v c) ++ vs) (changes-push c (k + 1) ws w ∙ ap (λ n. changes_of c (k + 1) ws ++ version_by n (change_at w c)) place)
    ∙ sym (append_assoc (version_by k (change_at v c)) (changes_of c (k + 1) ws) (version_by (k + suc (length ws)) (change_at w c)))

marks-push : (c : Cell) (k : ℕ) (ws : List ChangeSet) (w : ChangeSet) →
    marks_of c k (ws ++ w ∷ []) ≡ (if is_cell_among w.kept c then marks_of c k ws ++ (k + length ws) ∷ [] else marks_of c k ws)
marks-push c k [] w = let here : k ≡ k + 0 = omega arith in ap (λ n. if is_cell_among w.kept c then n ∷ [] else []) here
marks-push c k (v ∷ ws) w =
    let place : k + 1 + length ws ≡ k + suc (length ws) = omega arith in
    ap (λ ms. if is_cell_among v.kept c then k ∷ ms else ms)
    (marks-push c (k + 1) ws w ∙ ap (λ n. if is_cell_among w.kept c then marks_of c (k + 1) ws ++ n ∷ [] else marks_of c (k + 1) ws) place)
    ∙ go (is_cell_among v.kept c) (is_cell_among w.kept c)
  where
    ms : List ℕ
    ms = marks_of c (k + 1) ws

    n : ℕ
    n = k + suc (length ws)

    go : (a b : Bool) → (if a then k ∷ (if b then ms ++ n ∷ [] else ms) else (if b then ms ++ n ∷ [] else ms))
        ≡ (if b then (if a then k ∷ ms else ms) ++ n ∷ [] else (if a then k ∷ ms else ms))
    go true true = refl
    go true false = refl
    go false true = refl
    go false false = refl

pub chain_of-push : (opening : TableState) (ws : List ChangeSet) (w : ChangeSet) (c : Cell) →
    chain_of opening (ws ++ w ∷ []) c ≡ with_commit (length ws + 1) w c (chain_of opening ws c)
chain_of-push opening ws w c =
    let place : 1 + length ws ≡ length ws + 1 = omega arith in
    let versions = changes-push c 1 ws w ∙ ap (λ n. changes_of c 1 ws ++ version_by n (change_at w c)) place in
    let marks = marks-push c 1 ws w ∙ ap (λ n. if is_cell_among w.kept c then marks_of c 1 ws ++ n ∷ [] else marks_of c 1 ws) place in
    (λ i. record { versions = shown 0 (row_at opening c) ++ versions i; marks = marks i })
    ∙ go (shown 0 (row_at opening c)) (change_at w c) (is_cell_among w.kept c)
  where
    n : ℕ
    n = length ws + 1

    vs : List (ℕ × Option ℤ)
    vs = changes_of c 1 ws

    ms : List ℕ
    ms = marks_of c 1 ws

    go : (first : List (ℕ × Option ℤ)) (o : Option (Option ℤ)) (kept : Bool) →
        record { versions = first ++ (vs ++ version_by n o); marks = if kept then ms ++ n ∷ [] else ms }
        ≡ with_mark_by n kept (with_change_by n o record { versions = first ++ vs; marks = ms })
    go first None true i = record { versions = first ++ append-nil vs i; marks = ms ++ n ∷ [] }
    go first None false i = record { versions = first ++ append-nil vs i; marks = ms }
    go first (Some x) true i = record { versions = sym (append_assoc first vs ((n, x) ∷ [])) i; marks = ms ++ n ∷ [] }
    go first (Some x) false i = record { versions = sym (append_assoc first vs ((n, x) ∷ [])) i; marks = ms }

-- ---- what has lesser numbers

below_all : (c : Cell) (k n : ℕ) (ws : List ChangeSet) → k + length ws ≤ n → filter (λ (v : ℕ × Option ℤ). nat_lt v.0 n) (changes_of c k ws) ≡ changes_of c k ws
below_all c k n [] less = refl
below_all c k n (w ∷ ws) less = go (change_at w c) (below_all c (k + 1) n ws (omega arith))
  where
    go : (o : Option (Option ℤ)) → filter (λ (v : ℕ × Option ℤ). nat_lt v.0 n) (changes_of c (k + 1) ws) ≡ changes_of c (k + 1) ws →
        filter (λ (v : ℕ × Option ℤ). nat_lt v.0 n) (version_by k o ++ changes_of c (k + 1) ws) ≡ version_by k o ++ changes_of c (k + 1) ws
    go None rest = rest
    go (Some x) rest =
        ap (λ b. cond b ((k, x) ∷ filter (λ (v : ℕ × Option ℤ). nat_lt v.0 n) (changes_of c (k + 1) ws)) (filter (λ (v : ℕ × Option ℤ). nat_lt v.0 n) (changes_of c (k + 1) ws))) (le-leb (suc k) n (omega arith))
        ∙ ap (λ vs. (k, x) ∷ vs) rest

marks_below : (c : Cell) (k n : ℕ) (ws : List ChangeSet) → k + length ws ≤ n → filter (λ (m : ℕ). nat_lt m n) (marks_of c k ws) ≡ marks_of c k ws
marks_below c k n [] less = refl
marks_below c k n (w ∷ ws) less = go (is_cell_among w.kept c) (marks_below c (k + 1) n ws (omega arith))
  where
    ms : List ℕ
    ms = marks_of c (k + 1) ws

    go : (kept : Bool) → filter (λ (m : ℕ). nat_lt m n) ms ≡ ms → filter (λ (m : ℕ). nat_lt m n) (if kept then k ∷ ms else ms) ≡ (if kept then k ∷ ms else ms)
    go true rest = ap (λ b. cond b (k ∷ filter (λ (m : ℕ). nat_lt m n) ms) (filter (λ (m : ℕ). nat_lt m n) ms)) (le-leb (suc k) n (omega arith)) ∙ ap (λ l. k ∷ l) rest
    go false rest = rest

pub chain_below : (opening : TableState) (ws : List ChangeSet) (c : Cell) → IsBelow (length ws + 1) (chain_of opening ws c)
chain_below opening ws c i = record { versions = go (row_at opening c) i; marks = marks_below c 1 n ws (omega arith) i }
  where
    n : ℕ
    n = length ws + 1

    go : (o : Option ℤ) → filter (λ (v : ℕ × Option ℤ). nat_lt v.0 n) (shown 0 o ++ changes_of c 1 ws) ≡ shown 0 o ++ changes_of c 1 ws
    go None = below_all c 1 n ws (omega arith)
    go (Some v) =
        ap (λ b. cond b ((0, Some v) ∷ filter (λ (v : ℕ × Option ℤ). nat_lt v.0 n) (changes_of c 1 ws)) (filter (λ (v : ℕ × Option ℤ). nat_lt v.0 n) (changes_of c 1 ws))) (le-leb 1 n (omega arith))
        ∙ ap (λ vs. (0, Some v) ∷ vs) (below_all c 1 n ws (omega arith))

-- ---- the versions of commits and of rows

abbrev pub made_by : ℕ → Cell × Option ℤ → CellVersion
made_by n e = record { cell = e.0; number = n; value = e.1 }

abbrev pub of_row : Cell × ℤ → CellVersion
of_row row = record { cell = row.0; number = 0; value = Some row.1 }
