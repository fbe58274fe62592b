-- Laws of touches: by them a vacuum finds all cells that have something to drop.
use Rattle.std.proofs.Common.{◌≡◌, ◌∙◌, ℕ, ℤ, suc, ◌+◌, ◌<◌, ◌≤◌, Bool, true, false, ◌||◌, cond, leb, List, [], ◌∷◌, ◌++◌, length, refl, ap, sym, arith, append_assoc, append-nil}
use Rattle.std.specs.Prelude.{Option, Some, None, is_some}
use Rattle.std.proofs.lemmas.Bool.{le-leb, lt-leb}
use Rattle.std.proofs.lemmas.Bool.Decides.{nat_tests}
use Rattle.std.proofs.lemmas.List.Folds.{list_any-append}
use Rattle.prog_tree.specs.declared.cell.Cell.{Cell}
use Rattle.prog_tree.specs.ChangeSet.{ChangeSet, change_at}
use Rattle.prog_tree.specs.Table.{is_cell_among, is_same_cell, cells_of, TableState, row_at}
use Rattle.prog_tree.proofs.CellSets.{among-some}
use Rattle.version_store.specs.StandsFor.{version_by, changes_of, marks_of, chain_of, trimmed}
use Rattle.version_store.specs.Trimming.{shown, versions_kept, marks_kept, numbered, touches_by, touches_above, within, beyond}
use Rattle.version_store.proofs.TrimLaws.{kept_above}
use Rattle.version_store.proofs.VersionLaws.{changes_rise}

-- ---- one more commit

pub touches-push : (f k : ℕ) (ws : List ChangeSet) (w : ChangeSet) → f < k + length ws → touches_above f k (ws ++ w ∷ []) ≡ touches_above f k ws ++ touches_by (k + length ws) w
touches-push f k [] w less =
    let here : k ≡ k + 0 = omega arith in
    ap (λ b. cond b [] (touches_by k w ++ [])) (lt-leb k f (omega (arith, less))) ∙ append-nil (touches_by k w) ∙ ap (λ n. touches_by n w) here
touches-push f k (v ∷ ws) w less = go (leb k f) (touches-push f (k + 1) ws w (omega (arith, less)))
  where
    n : ℕ
    n = k + suc (length ws)

    place : k + 1 + length ws ≡ n
    place = omega arith

    more : touches_above f (k + 1) (ws ++ w ∷ []) ≡ touches_above f (k + 1) ws ++ touches_by (k + 1 + length ws) w → touches_above f (k + 1) (ws ++ w ∷ []) ≡ touches_above f (k + 1) ws ++ touches_by n w
    more rest = rest ∙ ap (λ m. touches_above f (k + 1) ws ++ touches_by m w) place

    go : (b : Bool) → touches_above f (k + 1) (ws ++ w ∷ []) ≡ touches_above f (k + 1) ws ++ touches_by (k + 1 + length ws) w →
        cond b (touches_above f (k + 1) (ws ++ w ∷ [])) (touches_by k v ++ touches_above f (k + 1) (ws ++ w ∷ []))
        ≡ cond b (touches_above f (k + 1) ws) (touches_by k v ++ touches_above f (k + 1) ws) ++ touches_by n w
    go true rest = more rest
    go false rest = ap (λ ts. touches_by k v ++ ts) (more rest) ∙ sym (append_assoc (touches_by k v) (touches_above f (k + 1) ws) (touches_by n w))

-- ---- those at most a floor

within_numbered : (g k : ℕ) (cells : List Cell) (ts : List (ℕ × Cell)) → leb k g ≡ true → within g (numbered k cells ++ ts) ≡ cells ++ within g ts
within_numbered g k [] ts low = refl
within_numbered g k (c ∷ cs) ts low = ap (λ b. cond b (c ∷ within g (numbered k cs ++ ts)) []) low ∙ ap (λ xs. c ∷ xs) (within_numbered g k cs ts low)

within_touches : (g k : ℕ) (w : ChangeSet) (ts : List (ℕ × Cell)) → leb k g ≡ true → within g (touches_by k w ++ ts) ≡ cells_of w.cells ++ (w.kept ++ within g ts)
within_touches g k w ts low =
    ap (within g) (append_assoc (numbered k (cells_of w.cells)) (numbered k w.kept) ts)
    ∙ within_numbered g k (cells_of w.cells) (numbered k w.kept ++ ts) low
    ∙ ap (λ xs. cells_of w.cells ++ xs) (within_numbered g k w.kept ts low)

beyond_low : (g k : ℕ) (cells : List Cell) (ts : List (ℕ × Cell)) → leb k g ≡ true → beyond g (numbered k cells ++ ts) ≡ beyond g ts
beyond_low g k [] ts low = refl
beyond_low g k (c ∷ cs) ts low = ap (λ b. cond b (beyond g (numbered k cs ++ ts)) ((k, c) ∷ (numbered k cs ++ ts))) low ∙ beyond_low g k cs ts low

beyond_high : (g k : ℕ) (cells : List Cell) (ts : List (ℕ × Cell)) → leb k g ≡ false → beyond g ts ≡ ts → beyond g (numbered k cells ++ ts) ≡ numbered k cells ++ ts
beyond_high g k [] ts high rest = rest
beyond_high g k (c ∷ cs) ts high rest = ap (λ b. cond b (beyond g (numbered k cs ++ ts)) ((k, c) ∷ (numbered k cs ++ ts))) high

-- commits above g have all their touches above it
above_both : (f g k : ℕ) (ws : List ChangeSet) → f ≤ g → g < k → (beyond g (touches_above f k ws) ≡ touches_above f k ws) × (touches_above f k ws ≡ touches_above g k ws)
above_both f g k [] less high = (refl, refl)
above_both f g k (w ∷ ws) less high =
    let rest = above_both f g (k + 1) ws less (omega arith) in
    let above_f : leb k f ≡ false = lt-leb k f (omega arith) in
    let above_g : leb k g ≡ false = lt-leb k g high in
    let at_f : touches_above f k (w ∷ ws) ≡ touches_by k w ++ touches_above f (k + 1) ws =
    ap (λ b. cond b (touches_above f (k + 1) ws) (touches_by k w ++ touches_above f (k + 1) ws)) above_f in
    let at_g : touches_above g k (w ∷ ws) ≡ touches_by k w ++ touches_above g (k + 1) ws =
    ap (λ b. cond b (touches_above g (k + 1) ws) (touches_by k w ++ touches_above g (k + 1) ws)) above_g in
    let stays : beyond g (touches_by k w ++ touches_above f (k + 1) ws) ≡ touches_by k w ++ touches_above f (k + 1) ws =
    ap (beyond g) (append_assoc (numbered k (cells_of w.cells)) (numbered k w.kept) (touches_above f (k + 1) ws))
    ∙ beyond_high g k (cells_of w.cells) (numbered k w.kept ++ touches_above f (k + 1) ws) above_g (beyond_high g k w.kept (touches_above f (k + 1) ws) above_g rest.0)
    ∙ sym (append_assoc (numbered k (cells_of w.cells)) (numbered k w.kept) (touches_above f (k + 1) ws)) in
    (ap (beyond g) at_f ∙ stays ∙ sym at_f, at_f ∙ ap (λ ts. touches_by k w ++ ts) rest.1 ∙ sym at_g)

-- what is left of the touches above one floor are those above a later one
pub beyond_floor : (f g k : ℕ) (ws : List ChangeSet) → f ≤ g → beyond g (touches_above f k ws) ≡ touches_above g k ws
beyond_floor f g k [] less = refl
beyond_floor f g k (w ∷ ws) less = go (leb k f) (leb k g) refl refl (beyond_floor f g (k + 1) ws less)
  where
    go : (a b : Bool) → leb k f ≡ a → leb k g ≡ b → beyond g (touches_above f (k + 1) ws) ≡ touches_above g (k + 1) ws →
        beyond g (cond a (touches_above f (k + 1) ws) (touches_by k w ++ touches_above f (k + 1) ws)) ≡ cond b (touches_above g (k + 1) ws) (touches_by k w ++ touches_above g (k + 1) ws)
    go true true low within_g rest = rest
    go true false low above_g rest = absurd (let p : k ≤ f = grind (arith, nat_tests) in let q : g < k = grind (arith, nat_tests) in omega arith)
    go false true above_f within_g rest =
        ap (beyond g) (append_assoc (numbered k (cells_of w.cells)) (numbered k w.kept) (touches_above f (k + 1) ws))
        ∙ beyond_low g k (cells_of w.cells) (numbered k w.kept ++ touches_above f (k + 1) ws) within_g
        ∙ beyond_low g k w.kept (touches_above f (k + 1) ws) within_g
        ∙ rest
    go false false above_f above_g rest =
        let q : g < k = grind (arith, nat_tests) in
        let at_f : touches_above f k (w ∷ ws) ≡ touches_by k w ++ touches_above f (k + 1) ws =
        ap (λ b. cond b (touches_above f (k + 1) ws) (touches_by k w ++ touches_above f (k + 1) ws)) above_f in
        let at_g : touches_above g k (w ∷ ws) ≡ touches_by k w ++ touches_above g (k + 1) ws =
        ap (λ b. cond b (touches_above g (k + 1) ws) (touches_by k w ++ touches_above g (k + 1) ws)) above_g in
        let both = above_both f g k (w ∷ ws) less q in
        ap (beyond g) (sym at_f) ∙ both.0 ∙ both.1 ∙ at_g

-- ---- a cell without a touch between two floors

-- a commit at most g and above f that is not among the pending ones for a cell does nothing to it
not_touched : (g k : ℕ) (c : Cell) (w : ChangeSet) (ts : List (ℕ × Cell)) → leb k g ≡ true → is_cell_among (within g (touches_by k w ++ ts)) c ≡ false →
    (change_at w c ≡ None) × (is_cell_among w.kept c ≡ false) × (is_cell_among (within g ts) c ≡ false)
not_touched g k c w ts low none = go (change_at w c) (is_cell_among w.kept c) (is_cell_among (within g ts) c) found
  where
    found : (is_some (change_at w c) || (is_cell_among w.kept c || is_cell_among (within g ts) c)) ≡ false
    found =
        ap (λ b. b || (is_cell_among w.kept c || is_cell_among (within g ts) c)) (sym (among-some w.cells c))
        ∙ ap (λ b. is_cell_among (cells_of w.cells) c || b) (sym (list_any-append (is_same_cell c) w.kept (within g ts)))
        ∙ sym (list_any-append (is_same_cell c) (cells_of w.cells) (w.kept ++ within g ts))
        ∙ ap (λ xs. is_cell_among xs c) (sym (within_touches g k w ts low))
        ∙ none

    go : (o : Option (Option ℤ)) (kept rest : Bool) → (is_some o || (kept || rest)) ≡ false → (o ≡ None) × (kept ≡ false) × (rest ≡ false)
    go None false false h = (refl, refl, refl)
    go None false true h = absurd (cc)
    go None true rest h = absurd (cc)
    go (Some x) kept rest h = absurd (cc)

same_versions : (f g : ℕ) → f ≤ g → (c : Cell) (k : ℕ) (held : List (ℕ × Option ℤ)) (ws : List ChangeSet) → is_cell_among (within g (touches_above f k ws)) c ≡ false →
    versions_kept g held (changes_of c k ws) ≡ versions_kept f held (changes_of c k ws)
same_versions f g less c k held [] none = refl
same_versions f g less c k held (w ∷ ws) none = go (leb k f) (leb k g) refl refl none (λ x rest. same_versions f g less c (k + 1) x ws rest)
  where
    ts : List (ℕ × Cell)
    ts = touches_above f (k + 1) ws

    Later : Type 0
    Later = (x : List (ℕ × Option ℤ)) → is_cell_among (within g ts) c ≡ false → versions_kept g x (changes_of c (k + 1) ws) ≡ versions_kept f x (changes_of c (k + 1) ws)

    early : (o : Option (Option ℤ)) → leb k f ≡ true → leb k g ≡ true → is_cell_among (within g ts) c ≡ false → Later →
        versions_kept g held (version_by k o ++ changes_of c (k + 1) ws) ≡ versions_kept f held (version_by k o ++ changes_of c (k + 1) ws)
    early None low_f low_g rest later = later held rest
    early (Some x) low_f low_g rest later =
        ap (λ b. cond b (versions_kept g (shown k x) (changes_of c (k + 1) ws)) (held ++ (k, x) ∷ changes_of c (k + 1) ws)) low_g
        ∙ later (shown k x) rest
        ∙ ap (λ b. cond b (versions_kept f (shown k x) (changes_of c (k + 1) ws)) (held ++ (k, x) ∷ changes_of c (k + 1) ws)) (sym low_f)

    go : (a b : Bool) → leb k f ≡ a → leb k g ≡ b → is_cell_among (within g (cond a ts (touches_by k w ++ ts))) c ≡ false → Later →
        versions_kept g held (changes_of c k (w ∷ ws)) ≡ versions_kept f held (changes_of c k (w ∷ ws))
    go true true low_f low_g rest later = early (change_at w c) low_f low_g rest later
    go true false low_f above_g rest later = absurd (let p : k ≤ f = grind (arith, nat_tests) in let q : g < k = grind (arith, nat_tests) in omega arith)
    go false true above_f low_g rest later =
        let apart = not_touched g k c w ts low_g rest in
        ap (λ o. versions_kept g held (version_by k o ++ changes_of c (k + 1) ws)) apart.0
        ∙ later held apart.2
        ∙ ap (λ o. versions_kept f held (version_by k o ++ changes_of c (k + 1) ws)) (sym apart.0)
    go false false above_f above_g rest later =
        let p : f < k = grind (arith, nat_tests) in
        let q : g < k = grind (arith, nat_tests) in
        kept_above g k held (changes_of c k (w ∷ ws)) q (changes_rise c k (w ∷ ws)) ∙ sym (kept_above f k held (changes_of c k (w ∷ ws)) p (changes_rise c k (w ∷ ws)))

marks_above : (f : ℕ) (c : Cell) (k : ℕ) (ws : List ChangeSet) → f < k → marks_kept f (marks_of c k ws) ≡ marks_of c k ws
marks_above f c k [] high = refl
marks_above f c k (w ∷ ws) high = go (is_cell_among w.kept c) (marks_above f c (k + 1) ws (omega arith))
  where
    go : (b : Bool) → marks_kept f (marks_of c (k + 1) ws) ≡ marks_of c (k + 1) ws → marks_kept f (cond b (k ∷ marks_of c (k + 1) ws) (marks_of c (k + 1) ws)) ≡ cond b (k ∷ marks_of c (k + 1) ws) (marks_of c (k + 1) ws)
    go true rest = ap (λ b. cond b (marks_kept f (marks_of c (k + 1) ws)) (k ∷ marks_of c (k + 1) ws)) (lt-leb k f high)
    go false rest = rest

same_marks : (f g : ℕ) → f ≤ g → (c : Cell) (k : ℕ) (ws : List ChangeSet) → is_cell_among (within g (touches_above f k ws)) c ≡ false →
    marks_kept g (marks_of c k ws) ≡ marks_kept f (marks_of c k ws)
same_marks f g less c k [] none = refl
same_marks f g less c k (w ∷ ws) none = go (leb k f) (leb k g) refl refl none (λ rest. same_marks f g less c (k + 1) ws rest)
  where
    ts : List (ℕ × Cell)
    ts = touches_above f (k + 1) ws

    Later : Type 0
    Later = is_cell_among (within g ts) c ≡ false → marks_kept g (marks_of c (k + 1) ws) ≡ marks_kept f (marks_of c (k + 1) ws)

    early : (b : Bool) → leb k f ≡ true → leb k g ≡ true → is_cell_among (within g ts) c ≡ false → Later →
        marks_kept g (cond b (k ∷ marks_of c (k + 1) ws) (marks_of c (k + 1) ws)) ≡ marks_kept f (cond b (k ∷ marks_of c (k + 1) ws) (marks_of c (k + 1) ws))
    early false low_f low_g rest later = later rest
    early true low_f low_g rest later =
        ap (λ b. cond b (marks_kept g (marks_of c (k + 1) ws)) (k ∷ marks_of c (k + 1) ws)) low_g
        ∙ later rest
        ∙ ap (λ b. cond b (marks_kept f (marks_of c (k + 1) ws)) (k ∷ marks_of c (k + 1) ws)) (sym low_f)

    go : (a b : Bool) → leb k f ≡ a → leb k g ≡ b → is_cell_among (within g (cond a ts (touches_by k w ++ ts))) c ≡ false → Later →
        marks_kept g (marks_of c k (w ∷ ws)) ≡ marks_kept f (marks_of c k (w ∷ ws))
    go true true low_f low_g rest later = early (is_cell_among w.kept c) low_f low_g rest later
    go true false low_f above_g rest later = absurd (let p : k ≤ f = grind (arith, nat_tests) in let q : g < k = grind (arith, nat_tests) in omega arith)
    go false true above_f low_g rest later =
        let apart = not_touched g k c w ts low_g rest in
        ap (λ b. marks_kept g (cond b (k ∷ marks_of c (k + 1) ws) (marks_of c (k + 1) ws))) apart.1
        ∙ later apart.2
        ∙ ap (λ b. marks_kept f (cond b (k ∷ marks_of c (k + 1) ws) (marks_of c (k + 1) ws))) (sym apart.1)
    go false false above_f above_g rest later =
        let p : f < k = grind (arith, nat_tests) in
        let q : g < k = grind (arith, nat_tests) in
        marks_above g c k (w ∷ ws) q ∙ sym (marks_above f c k (w ∷ ws) p)

-- a cell that no pending touch names has nothing to drop
pub untouched : (f g : ℕ) → f ≤ g → (opening : TableState) (ws : List ChangeSet) (c : Cell) → is_cell_among (within g (touches_above f 1 ws)) c ≡ false →
    trimmed g (chain_of opening ws c) ≡ trimmed f (chain_of opening ws c)
untouched f g less opening ws c none i = record { versions = go (row_at opening c) i; marks = same_marks f g less c 1 ws none i }
  where
    go : (o : Option ℤ) → versions_kept g [] (shown 0 o ++ changes_of c 1 ws) ≡ versions_kept f [] (shown 0 o ++ changes_of c 1 ws)
    go None = same_versions f g less c 1 [] ws none
    go (Some v) =
        ap (λ b. cond b (versions_kept g ((0, Some v) ∷ []) (changes_of c 1 ws)) ((0, Some v) ∷ changes_of c 1 ws)) (le-leb 0 g (omega arith))
        ∙ same_versions f g less c 1 ((0, Some v) ∷ []) ws none
        ∙ ap (λ b. cond b (versions_kept f ((0, Some v) ∷ []) (changes_of c 1 ws)) ((0, Some v) ∷ changes_of c 1 ws)) (sym (le-leb 0 f (omega arith)))
