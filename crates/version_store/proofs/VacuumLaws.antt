-- What the loops over touches keep.
use Rattle.std.proofs.Common.{◌≡◌, ◌∙◌, ℕ, ◌+◌, ◌-◌, ◌^◌, ◌≤◌, min, inl, inr, Bool, true, false, ◌||◌, cond, if◌then◌else◌, leb, List, [], ◌∷◌, ◌++◌, length, take, refl, ap, sym, arith, append-nil}
use Rattle.std.proofs.lemmas.Bool.{le-leb}
use Rattle.prog_tree.specs.declared.cell.Cell.{Cell}
use Rattle.prog_tree.specs.Table.{Cells, is_same_cell, is_cell_among}
use Rattle.prog_tree.proofs.CellSets.{same-turned}
use Rattle.version_store.specs.Reading.{chain_at, MakesAt, MayBeTrimmed, MayTrim}
use Rattle.version_store.specs.StandsFor.{VersionChain, trimmed, size, EachHolds}
use Rattle.version_store.specs.Trimming.{numbered, within, beyond, TakesWithin}
use Rattle.version_store.proofs.TrimLaws.{trimmed_again}

-- ---- touches are added

-- with the cells that are left, the touches are what they will be at the end, and the first ones are those from before
pub record Adds (number : ℕ) (cells rest : List Cell) (before now : List (ℕ × Cell)) : Type 0 where
  pub ends : now ++ numbered number rest ≡ before ++ numbered number cells
  pub first : take (length before) now ≡ before

pub adds_all : (number : ℕ) (cells left : List Cell) (before now : List (ℕ × Cell)) → left ≡ [] → Adds number cells left before now → now ≡ before ++ numbered number cells
adds_all number cells left before now is h = sym (append-nil now) ∙ ap (λ ks. now ++ numbered number ks) (sym is) ∙ h.ends

-- ---- chains are trimmed

-- the chains of the cells of the touches that are left will be trimmed, and the others are
pub record Vacuums (f : ℕ) (before now : Cells VersionChain) (first left : List (ℕ × Cell)) (count : ℕ) : Type 0 where
  pub rest : beyond f left ≡ beyond f first
  pub each : MayTrim f before now
  pub done :
      ((c : Cell) → is_cell_among (within f first) c ≡ false → trimmed f (chain_at before c) ≡ chain_at before c) →
      (c : Cell) → is_cell_among (within f left) c ≡ false → chain_at now c ≡ trimmed f (chain_at before c)
  pub hold : EachHolds before → EachHolds now
  pub falls : size now ≤ size before
  pub counted : count ≡ min (size before - size now) (2 ^ 64 - 1)

pub vacuums_more :
    (f : ℕ) (before now next : Cells VersionChain) (first left rest : List (ℕ × Cell)) (cell : Cell) (count n total : ℕ) → TakesWithin f cell left rest →
    MakesAt cell (trimmed f) now next → (EachHolds now → EachHolds next) → size next + n ≡ size now → total ≡ min (count + n) (2 ^ 64 - 1) → Vacuums f before now first left count →
    Vacuums f before next first rest total
vacuums_more f before now next first left rest cell count n total takes made holds fewer adds h = record {
  rest = sym beyond_left ∙ h.rest;
  each = λ c. one c (is_same_cell cell c) (made c) (h.each c);
  done = λ idle c none. made c ∙ turn c (is_same_cell cell c) refl none (h.done idle c);
  hold = λ each. holds (h.hold each);
  falls = omega (arith, fewer, h.falls);
  counted = omega (arith, fewer, adds, h.falls, h.counted);
}
  where
    low : leb takes.0 f ≡ true
    low = le-leb takes.0 f takes.1

    beyond_left : beyond f left ≡ beyond f rest
    beyond_left = ap (beyond f) takes.2 ∙ ap (λ b. cond b (beyond f rest) ((takes.0, cell) ∷ rest)) low

    within_left : within f left ≡ cell ∷ within f rest
    within_left = ap (within f) takes.2 ∙ ap (λ b. cond b (cell ∷ within f rest) []) low

    same : (c : Cell) → MayBeTrimmed f (chain_at before c) (chain_at now c) → trimmed f (chain_at now c) ≡ trimmed f (chain_at before c)
    same c (inl is) = ap (trimmed f) is
    same c (inr is) = ap (trimmed f) is ∙ trimmed_again f f (omega arith) (chain_at before c)

    one : (c : Cell) (b : Bool) → chain_at next c ≡ (if b then trimmed f (chain_at now c) else chain_at now c) →
        MayBeTrimmed f (chain_at before c) (chain_at now c) → MayBeTrimmed f (chain_at before c) (chain_at next c)
    one c true e so_far = inr (e ∙ same c so_far)
    one c false e (inl is) = inl (e ∙ is)
    one c false e (inr is) = inr (e ∙ is)

    turn : (c : Cell) (b : Bool) → is_same_cell cell c ≡ b → is_cell_among (within f rest) c ≡ false →
        (is_cell_among (within f left) c ≡ false → chain_at now c ≡ trimmed f (chain_at before c)) →
        (if b then trimmed f (chain_at now c) else chain_at now c) ≡ trimmed f (chain_at before c)
    turn c true found none later = same c (h.each c)
    turn c false apart none later = later (ap (λ cells. is_cell_among cells c) within_left ∙ ap (λ b. b || is_cell_among (within f rest) c) (same-turned c cell ∙ apart) ∙ none)
