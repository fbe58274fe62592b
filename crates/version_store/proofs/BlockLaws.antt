-- What blocks go on saying of chains.
use Rattle.std.proofs.Common.{◌≡◌, ◌∙◌, ℕ, ◌≤◌, ◌⊎◌, inl, inr, Bool, true, false, cond, if◌then◌else◌, leb, List, [], ◌∷◌, refl, ap, sym, subst, arith}
use Rattle.std.specs.Prelude.{Option, Some, None, IfSome, IsSome, filter, option_map}
use Rattle.std.specs.Cmp.{tied_itself}
use Rattle.std.specs.declared.cmp.Ordering.{Ordering}
use Rattle.std.specs.declared.cmp.Ordering.TheVariants.{Less, Equal, Greater}
use Rattle.std.specs.List.{AllByRecursion}
use Rattle.std.specs.List.Sorted.{IsStrictlySortedBy}
use Rattle.std.specs.Ordering.{is_gt, is_le}
use Rattle.std.proofs.lemmas.List.Kept.{IsStrictlySortedBy-filter}
use Rattle.std.proofs.lemmas.Option.{same_Some}
use Rattle.std.proofs.lemmas.Map.Keys.{sorted_head}
use Rattle.prog_tree.specs.declared.cell.Cell.{Cell}
use Rattle.prog_tree.specs.declared.cell.Region.{Region}
use Rattle.prog_tree.specs.Table.{cell_cmp, Cells, cells_of, at_cell, is_same_cell, is_in}
use Rattle.prog_tree.proofs.CellSets.{same-itself}
use Rattle.prog_tree.proofs.TableLemmas.{cell_total}
use Rattle.prog_tree.proofs.TableStates.{same_cell, cell_is}
use Rattle.version_store.specs.declared.block.RowBlock.{RowBlock}
use Rattle.version_store.specs.declared.block.Slot.{Slot}
use Rattle.version_store.specs.Blocks.{IsTrueBlock, IsTrueSlot, IsTrueAt, AreTrue, IsPut, IsTaken, ended, ended_slot, EndsBefore, AreEnded, IsKeyOf, with_block}
use Rattle.version_store.specs.StandsFor.{VersionChain}
use Rattle.version_store.proofs.FoundLaws.{cells-filter, at_cell-filter}

-- what is true of each slot is true of all
pub all_true :
    (floor f : ℕ) (before after : Cells VersionChain) (slots : Cells Slot) → ((key : Cell) (slot : Slot) → at_cell slots key ≡ Some slot → IsTrueSlot floor before slot → IsTrueSlot f after slot) →
    AreTrue floor before slots → AreTrue f after slots
all_true floor f before after slots each holds key = go (at_cell slots key) refl (holds key)
  where
    go : (o : Option Slot) → at_cell slots key ≡ o → IsTrueAt floor before o → IsTrueAt f after o
    go None e h = tt
    go (Some slot) e h = each key slot e h

-- a slot that takes a block keeps its region
pub with_block_region : (block : RowBlock) (slot : Slot) → (with_block block slot).region ≡ slot.region
with_block_region block slot = go (leb slot.newest.since block.since)
  where
    go : (b : Bool) → (if b then record slot { newest = block; older = Some slot.newest } else record slot { older = Some block }).region ≡ slot.region
    go true = refl
    go false = refl

-- ---- blocks that end

-- what is true from 0 on is true from any floor on
pub true_from : (floor : ℕ) (chains : Cells VersionChain) (region : Region) (block : RowBlock) → IsTrueBlock 0 chains region block → IsTrueBlock floor chains region block
true_from floor chains region block h n above since below = h n (omega arith) since below

ended_true : (number floor : ℕ) (chains : Cells VersionChain) (region : Region) (block : RowBlock) → IsTrueBlock floor chains region block → IsTrueBlock floor chains region (ended number block)
ended_true number floor chains region block h n above since below = h n above since (omega (arith, below))

pub ended_slot_true : (number floor : ℕ) (chains : Cells VersionChain) (slot : Slot) → IsTrueSlot floor chains slot → IsTrueSlot floor chains (ended_slot number slot)
ended_slot_true number floor chains slot h = (ended_true number floor chains slot.region slot.newest h.0, go slot.older h.1)
  where
    go : (o : Option RowBlock) → IfSome o (IsTrueBlock floor chains slot.region) → IfSome (option_map (ended number) o) (IsTrueBlock floor chains slot.region)
    go None h = tt
    go (Some block) h = ended_true number floor chains slot.region block h

pub ended_ends : (number : ℕ) (slot : Slot) → EndsBefore number (ended_slot number slot)
ended_ends number slot = (omega arith, go slot.older)
  where
    go : (o : Option RowBlock) → IfSome (option_map (ended number) o) (λ (block : RowBlock). block.till ≤ number)
    go None = tt
    go (Some block) = omega arith

pub ended_still : (n number : ℕ) (slot : Slot) → EndsBefore n slot → EndsBefore n (ended_slot number slot)
ended_still n number slot h = (omega (arith, h.0), go slot.older h.1)
  where
    go : (o : Option RowBlock) → IfSome o (λ (block : RowBlock). block.till ≤ n) → IfSome (option_map (ended number) o) (λ (block : RowBlock). block.till ≤ n)
    go None h = tt
    go (Some block) h = omega (arith, h)

-- ---- one written slot

pub put_true : (floor : ℕ) (chains : Cells VersionChain) (m n : Cells Slot) (key : Cell) (slot : Slot) → IsTrueSlot floor chains slot → IsPut m n key slot → AreTrue floor chains m → AreTrue floor chains n
put_true floor chains m n key slot h put all c = subst (IsTrueAt floor chains) (sym (put c)) (go (is_same_cell key c))
  where
    go : (b : Bool) → IsTrueAt floor chains (cond b (Some slot) (at_cell m c))
    go true = h
    go false = all c

pub taken_true : (floor : ℕ) (chains : Cells VersionChain) (m n : Cells Slot) (key : Cell) → IsTaken m n key → AreTrue floor chains m → AreTrue floor chains n
taken_true floor chains m n key taken all c = subst (IsTrueAt floor chains) (sym (taken c)) (go (is_same_cell key c))
  where
    go : (b : Bool) → IsTrueAt floor chains (cond b None (at_cell m c))
    go true = tt
    go false = all c

-- what is found is true
pub found_true : (floor : ℕ) (chains : Cells VersionChain) (m : Cells Slot) (key : Cell) (slot : Slot) → Some slot ≡ at_cell m key → AreTrue floor chains m → IsTrueSlot floor chains slot
found_true floor chains m key slot found all = subst (IsTrueAt floor chains) (sym found) (all key)

-- the slot of a key in a map into which one was put
pub put_cases : (m n : Cells Slot) (key : Cell) (slot : Slot) → IsPut m n key slot → (c : Cell) (s : Slot) → at_cell n c ≡ Some s → ((key ≡ c) × (slot ≡ s)) ⊎ (at_cell m c ≡ Some s)
put_cases m n key slot put c s at = go (is_same_cell key c) (λ same. cell_is key c same) (sym (put c) ∙ at)
  where
    go : (b : Bool) → (b ≡ true → key ≡ c) → cond b (Some slot) (at_cell m c) ≡ Some s → ((key ≡ c) × (slot ≡ s)) ⊎ (at_cell m c ≡ Some s)
    go true same e = inl (same refl, same_Some slot s e)
    go false same e = inr e

pub taken_was : (m n : Cells Slot) (key : Cell) → IsTaken m n key → (c : Cell) (s : Slot) → at_cell n c ≡ Some s → at_cell m c ≡ Some s
taken_was m n key taken c s at = go (is_same_cell key c) (sym (taken c) ∙ at)
  where
    go : (b : Bool) → cond b None (at_cell m c) ≡ Some s → at_cell m c ≡ Some s
    go true e = absurd (cc)
    go false e = e

-- ---- the slots that have a cell end

pub put_ends :
    (number : ℕ) (m n : Cells Slot) (cell key : Cell) (slot : Slot) → IsKeyOf m cell (Some key) → IsPut m n key (ended_slot number slot) → AreEnded number cell n
put_ends number m n cell key slot is_key put c s at inside = go (put_cases m n key (ended_slot number slot) put c s at)
  where
    go : ((key ≡ c) × (ended_slot number slot ≡ s)) ⊎ (at_cell m c ≡ Some s) → EndsBefore number s
    go (inl h) = subst (EndsBefore number) h.1 (ended_ends number slot)
    go (inr old) = same (is_key c s old inside)
      where
        same : Some key ≡ Some c → EndsBefore number s
        same e =
            let is : key ≡ c = same_Some key c e in
            let here : at_cell n c ≡ Some (ended_slot number slot) = put c ∙ ap (λ b. cond b (Some (ended_slot number slot)) (at_cell m c)) (ap (λ k. is_same_cell k c) is ∙ same-itself c) in
            let this : ended_slot number slot ≡ s = same_Some (ended_slot number slot) s (sym here ∙ at) in
            subst (EndsBefore number) this (ended_ends number slot)

pub put_still :
    (n number : ℕ) (before after : Cells Slot) (c key : Cell) (slot : Slot) → Some slot ≡ at_cell before key → IsPut before after key (ended_slot number slot) →
    AreEnded n c before → AreEnded n c after
put_still n number before after c key slot found put h k s at inside = go (put_cases before after key (ended_slot number slot) put k s at)
  where
    go : ((key ≡ k) × (ended_slot number slot ≡ s)) ⊎ (at_cell before k ≡ Some s) → EndsBefore n s
    go (inl e) = subst (EndsBefore n) e.1 (ended_still n number slot (h key slot (sym found) (ap (λ (x : Slot). is_in x.region c) e.1 ∙ inside)))
    go (inr old) = h k s old inside

-- ---- the order of cells

pub less_le : (a b c : Cell) → cell_cmp a b ≡ Less → is_gt (cell_cmp b c) ≡ false → cell_cmp a c ≡ Less
less_le a b c less le = go (cell_cmp b c) refl le
  where
    go : (o : Ordering) → cell_cmp b c ≡ o → is_gt o ≡ false → cell_cmp a c ≡ Less
    go Less e h = cell_total.trans a b c less e
    go Equal e h = ap (cell_cmp a) (sym (same_cell b c e)) ∙ less
    go Greater e h = absurd (cc)

pub le_less : (a b c : Cell) → is_gt (cell_cmp a b) ≡ false → cell_cmp b c ≡ Less → cell_cmp a c ≡ Less
le_less a b c le less = go (cell_cmp a b) refl le
  where
    go : (o : Ordering) → cell_cmp a b ≡ o → is_gt o ≡ false → cell_cmp a c ≡ Less
    go Less e h = cell_total.trans a b c e less
    go Equal e h = ap (λ x. cell_cmp x c) (same_cell a b e) ∙ less
    go Greater e h = absurd (cc)

pub never_less : (a : Cell) → cell_cmp a a ≡ Less → ⊥
never_less a less = let tied : cell_cmp a a ≡ Equal = tied_itself cell_total a in let clash = sym tied ∙ less in absurd (cc)

pub le_of : (o : Ordering) → is_le o ≡ true → is_gt o ≡ false
le_of Less h = refl
le_of Equal h = refl
le_of Greater h = absurd (cc)

-- ---- the first slot from a cell on

below_found : {A : Type 0} (k c : Cell) (rest : Cells A) (x : A) → AllByRecursion (λ d. cell_cmp k d ≡ Less) (cells_of rest) → at_cell rest c ≡ Some x → cell_cmp k c ≡ Less
below_found k c [] x below at = absurd (cc)
below_found k c (e ∷ rest) x below at = go (is_same_cell c e.0) refl at (below_found k c rest x below.1)
  where
    go : (b : Bool) → is_same_cell c e.0 ≡ b → cond b (Some e.1) (at_cell rest c) ≡ Some x → (at_cell rest c ≡ Some x → cell_cmp k c ≡ Less) → cell_cmp k c ≡ Less
    go true same at more = ap (cell_cmp k) (cell_is c e.0 same) ∙ below.0
    go false apart at more = more at

-- of the entries whose keys pass a test, the first one
pub record IsFirst (p : Cell → Bool) (slots : Cells Slot) (key : Cell) (slot : Slot) : Type 0 where
  pub at : at_cell slots key ≡ Some slot
  pub passes : p key ≡ true
  pub others : (k : Cell) (s : Slot) → at_cell slots k ≡ Some s → p k ≡ true → ((key ≡ k) × (slot ≡ s)) ⊎ (cell_cmp key k ≡ Less)

pub first_is : (p : Cell → Bool) (slots rest : Cells Slot) (key : Cell) (slot : Slot) → IsStrictlySortedBy cell_cmp (cells_of slots) → filter (λ e. p e.0) slots ≡ (key, slot) ∷ rest → IsFirst p slots key slot
first_is p slots rest key slot sorted is = record {
  at = split.0;
  passes = split.1;
  others = λ k s at passes. go k s (is_same_cell k key) refl
      (sym (ap (λ es. at_cell es k) is) ∙ at_cell-filter p slots k ∙ ap (λ b. cond b (at_cell slots k) None) passes ∙ at);
}
  where
    sorted_rest : IsStrictlySortedBy cell_cmp (key ∷ cells_of rest)
    sorted_rest = subst (λ (cs : List Cell). IsStrictlySortedBy cell_cmp cs) (cells-filter p slots ∙ ap cells_of is) (IsStrictlySortedBy-filter cell_cmp p (cells_of slots) sorted)

    found : cond (p key) (at_cell slots key) None ≡ Some slot
    found = sym (at_cell-filter p slots key) ∙ ap (λ es. at_cell es key) is ∙ ap (λ b. cond b (Some slot) (at_cell rest key)) (same-itself key)

    parts : (b : Bool) → p key ≡ b → cond b (at_cell slots key) None ≡ Some slot → (at_cell slots key ≡ Some slot) × (p key ≡ true)
    parts true e h = (h, e)
    parts false e h = absurd (cc)

    split : (at_cell slots key ≡ Some slot) × (p key ≡ true)
    split = parts (p key) refl found

    go : (k : Cell) (s : Slot) (b : Bool) → is_same_cell k key ≡ b → cond b (Some slot) (at_cell rest k) ≡ Some s → ((key ≡ k) × (slot ≡ s)) ⊎ (cell_cmp key k ≡ Less)
    go k s true same h = inl (sym (cell_is k key same), same_Some slot s h)
    go k s false apart h = inr (below_found key k rest s (sorted_head cell_cmp key (cells_of rest) sorted_rest) h)

-- where none passes, no entry does
pub none_passes : (p : Cell → Bool) (slots : Cells Slot) → filter (λ e. p e.0) slots ≡ [] → (k : Cell) (s : Slot) → at_cell slots k ≡ Some s → p k ≡ true → ⊥
none_passes p slots none k s at passes =
    let never : None ≡ Some s = sym (ap (λ es. at_cell es k) none) ∙ at_cell-filter p slots k ∙ ap (λ b. cond b (at_cell slots k) None) passes ∙ at in absurd (cc)

-- ---- a found slot that is written

-- a found slot is written
pub put_found : (m n : Cells Slot) (key : Cell) (old new : Slot) → Some old ≡ at_cell m key → (IsSome (at_cell m key) → IsPut m n key new) → IsPut m n key new
put_found m n key old new found written = written (subst (λ (o : Option Slot). IsSome o) found refl)

-- and ended
pub put_ended :
    (number : ℕ) (m n : Cells Slot) (key : Cell) (old new : Slot) → Some old ≡ at_cell m key → new ≡ ended_slot number old → (IsSome (at_cell m key) → IsPut m n key new) →
    IsPut m n key (ended_slot number old)
put_ended number m n key old new found is written = subst (IsPut m n key) is (put_found m n key old new found written)

-- where the key of a cell has no slot, none has the cell
pub none_at : (number : ℕ) (m : Cells Slot) (cell key : Cell) → IsKeyOf m cell (Some key) → None ≡ at_cell m key → AreEnded number cell m
none_at number m cell key is_key absent c s at inside =
    let same = same_Some key c (is_key c s at inside) in
    let never : None ≡ Some s = absent ∙ ap (at_cell m) same ∙ at in absurd (cc)
