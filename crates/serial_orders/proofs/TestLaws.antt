-- Tests and what they tell.
use Rattle.std.proofs.Common.{◌≡◌, ◌==◌, ◌⊎◌, inl, inr, ℕ, ◌<◌, ◌≤◌, Bool, true, false, ◌||◌, not, List, [], ◌∷◌, ap, subst, arith}
use Rattle.std.specs.List.{list_any}
use Rattle.std.proofs.lemmas.Bool.Decides.{nat_tests}
use Rattle.std.proofs.lemmas.Bool.{or_cases, or_left, or_right, eqb-false, not-true, ne_eqb}
use Rattle.prog_tree.specs.declared.cell.Cell.{Cell}
use Rattle.prog_tree.specs.Table.{is_same_cell, is_cell_among}
use Rattle.prog_tree.proofs.TableStates.{cell_is}
use Rattle.prog_tree.proofs.CellSets.{same-itself}

pub lt_by : (i j : ℕ) → i ≤ j → (i == j) ≡ false → i < j
lt_by i j le apart = grind (arith, nat_tests)

pub ne_told : (i j : ℕ) → not (i == j) ≡ true → i ≡ j → ⊥
ne_told i j h = eqb-false i j (not-true (i == j) h)

pub apart_by_lt : (i j : ℕ) → i < j → not (i == j) ≡ true
apart_by_lt i j h = ap not (ne_eqb i j (λ same. omega (arith, h, same)))

-- a cell among others that passes a test
pub any_at : (q : Cell → Bool) (cs : List Cell) (c : Cell) → is_cell_among cs c ≡ true → q c ≡ true → list_any q cs ≡ true
any_at q [] c among holds = absurd (cc)
any_at q (d ∷ cs) c among holds = go (or_cases (is_same_cell c d) (is_cell_among cs c) among) (λ later. any_at q cs c later holds)
  where
    go : (is_same_cell c d ≡ true) ⊎ (is_cell_among cs c ≡ true) → (is_cell_among cs c ≡ true → list_any q cs ≡ true) → (q d || list_any q cs) ≡ true
    go (inl same) rest = or_left (q d) (list_any q cs) (subst (λ (x : Cell). q x ≡ true) (cell_is c d same) holds)
    go (inr later) rest = or_right (q d) (list_any q cs) (rest later)

-- a cell among some that passes a test
pub record PassesAmong (q : Cell → Bool) (cs : List Cell) : Type 0 where
  pub cell : Cell
  pub among : is_cell_among cs cell ≡ true
  pub passes : q cell ≡ true

pub any_some : (q : Cell → Bool) (cs : List Cell) → list_any q cs ≡ true → PassesAmong q cs
any_some q [] h = absurd (cc)
any_some q (d ∷ cs) h = go (or_cases (q d) (list_any q cs) h) (any_some q cs)
  where
    go : (q d ≡ true) ⊎ (list_any q cs ≡ true) → (list_any q cs ≡ true → PassesAmong q cs) → PassesAmong q (d ∷ cs)
    go (inl here) rest = record { cell = d; among = or_left (is_same_cell d d) (is_cell_among cs d) (same-itself d); passes = here }
    go (inr later) rest =
        let found = rest later in
        record { cell = found.cell; among = or_right (is_same_cell found.cell d) (is_cell_among cs found.cell) found.among; passes = found.passes }
