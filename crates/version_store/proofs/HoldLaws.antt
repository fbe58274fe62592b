-- Which chains hold something, once one of them is written or leaves.
use Rattle.std.proofs.Common.{◌≡◌, ◌∙◌, ℕ, Bool, true, false, cond, List, [], ◌∷◌, ◌++◌, refl, ap, sym, subst}
use Rattle.std.specs.Prelude.{Option, Some, None, IsSome}
use Rattle.prog_tree.specs.declared.cell.Cell.{Cell}
use Rattle.prog_tree.specs.Table.{Cells, at_cell, is_same_cell}
use Rattle.prog_tree.proofs.TableStates.{cell_is}
use Rattle.version_store.specs.declared.touches.Touch.{Touch}
use Rattle.version_store.specs.declared.touches.Touch.TheVariants.{Change, Keep}
use Rattle.version_store.specs.Reading.{OthersHold}
use Rattle.version_store.specs.Touches.{with_touch}
use Rattle.version_store.specs.StandsFor.{VersionChain, no_chain, HoldsSome, EachHolds}
use Rattle.version_store.proofs.ChainsLaws.{IsWritten}

not_pushed : {A : Type 0} (xs : List A) (x : A) → xs ++ x ∷ [] ≡ [] → ⊥
not_pushed [] x h = cc
not_pushed (y ∷ xs) x h = cc

pub touch_holds : (n : ℕ) (touch : Touch) (chain : VersionChain) → with_touch n touch chain ≡ no_chain → ⊥
touch_holds n (Change value) chain h = not_pushed chain.versions (n, value) (ap (λ (x : VersionChain). x.versions) h)
touch_holds n Keep chain h = not_pushed chain.marks n (ap (λ (x : VersionChain). x.marks) h)

-- what is found holds something
pub found_holds : (m : Cells VersionChain) (cell : Cell) (chain : VersionChain) → Some chain ≡ at_cell m cell → EachHolds m → chain ≡ no_chain → ⊥
found_holds m cell chain found holds = subst HoldsSome (sym found) (holds cell)

-- a written chain that holds something
pub hold_written : (m n : Cells VersionChain) (cell : Cell) (chain : VersionChain) → (chain ≡ no_chain → ⊥) → IsWritten m n cell chain → EachHolds m → EachHolds n
hold_written m n cell chain some written holds c = subst HoldsSome (sym (written c)) (go (is_same_cell cell c))
  where
    go : (b : Bool) → HoldsSome (cond b (Some chain) (at_cell m c))
    go true = some
    go false = holds c

-- a written chain, of which nothing may be left
pub others_written : (m n : Cells VersionChain) (cell : Cell) (chain : VersionChain) → IsWritten m n cell chain → EachHolds m → OthersHold cell n
others_written m n cell chain written holds c apart = subst HoldsSome (sym (written c ∙ ap (λ b. cond b (Some chain) (at_cell m c)) apart)) (holds c)

-- the chain of the cell leaves
pub hold_removed : (m n : Cells VersionChain) (cell : Cell) → ((c : Cell) → at_cell n c ≡ cond (is_same_cell cell c) None (at_cell m c)) → OthersHold cell m → EachHolds n
hold_removed m n cell updates holds c = subst HoldsSome (sym (updates c)) (go (is_same_cell cell c) (λ apart. holds c apart))
  where
    go : (b : Bool) → (b ≡ false → HoldsSome (at_cell m c)) → HoldsSome (cond b None (at_cell m c))
    go true others = tt
    go false others = others refl

-- a found chain is written: it holds something where it did before
pub hold_found :
    (m n : Cells VersionChain) (cell : Cell) (old new : VersionChain) → Some old ≡ at_cell m cell → ((old ≡ no_chain → ⊥) → new ≡ no_chain → ⊥) →
    (IsSome (at_cell m cell) → IsWritten m n cell new) → EachHolds m → EachHolds n
hold_found m n cell old new found some written holds =
    hold_written m n cell new (some (found_holds m cell old found holds)) (written (subst (λ (o : Option VersionChain). IsSome o) found refl)) holds

pub others_found :
    (m n : Cells VersionChain) (cell : Cell) (old new : VersionChain) → Some old ≡ at_cell m cell → (IsSome (at_cell m cell) → IsWritten m n cell new) → EachHolds m → OthersHold cell n
others_found m n cell old new found written = others_written m n cell new (written (subst (λ (o : Option VersionChain). IsSome o) found refl))

-- a found chain is written, of which something is left
pub hold_left :
    (m n : Cells VersionChain) (cell : Cell) (old new : VersionChain) (is_empty : Bool) → Some old ≡ at_cell m cell → (new ≡ no_chain → is_empty ≡ true) → is_empty ≡ false →
    (IsSome (at_cell m cell) → IsWritten m n cell new) → EachHolds m → EachHolds n
hold_left m n cell old new is_empty found tells left written = hold_found m n cell old new found (λ holds none. let clash : true ≡ false = sym (tells none) ∙ left in cc) written

-- where the chain of a cell holds something too, all do
pub hold_beside : (m : Cells VersionChain) (cell : Cell) → HoldsSome (at_cell m cell) → OthersHold cell m → EachHolds m
hold_beside m cell holds others c = go (is_same_cell cell c) (λ same. cell_is cell c same) (λ apart. others c apart)
  where
    go : (b : Bool) → (b ≡ true → cell ≡ c) → (b ≡ false → HoldsSome (at_cell m c)) → HoldsSome (at_cell m c)
    go true same apart = subst (λ (d : Cell). HoldsSome (at_cell m d)) (same refl) holds
    go false same apart = apart refl
