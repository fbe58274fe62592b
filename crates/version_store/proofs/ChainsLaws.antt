-- Laws of one written chain.
use Rattle.std.proofs.Common.{◌≡◌, ◌∙◌, Bool, true, false, cond, if◌then◌else◌, refl, ap, subst}
use Rattle.std.specs.Prelude.{Option, Some, IsSome, unwrap_or}
use Rattle.prog_tree.specs.declared.cell.Cell.{Cell}
use Rattle.prog_tree.specs.Table.{Cells, at_cell, is_same_cell}
use Rattle.prog_tree.proofs.TableStates.{cell_is}
use Rattle.version_store.specs.StandsFor.{VersionChain, no_chain}
use Rattle.version_store.specs.Reading.{chain_at, MakesAt}

-- n is m with a chain at a cell
abbrev pub IsWritten : Cells VersionChain → Cells VersionChain → Cell → VersionChain → Type 0
IsWritten m n cell chain = (c : Cell) → at_cell n c ≡ cond (is_same_cell cell c) (Some chain) (at_cell m c)

pub made : (m n : Cells VersionChain) (cell : Cell) (f : VersionChain → VersionChain) (new : VersionChain) → new ≡ f (chain_at m cell) → IsWritten m n cell new → MakesAt cell f m n
made m n cell f new is written c = ap (λ o. unwrap_or o no_chain) (written c) ∙ go (is_same_cell cell c) (λ same. cell_is cell c same)
  where
    go : (b : Bool) → (b ≡ true → cell ≡ c) → unwrap_or (cond b (Some new) (at_cell m c)) no_chain ≡ (if b then f (chain_at m c) else chain_at m c)
    go true same = is ∙ ap (λ x. f (chain_at m x)) (same refl)
    go false same = refl

pub made_found :
    (m n : Cells VersionChain) (cell : Cell) (f : VersionChain → VersionChain) (old new : VersionChain) → Some old ≡ at_cell m cell → new ≡ f old →
    (IsSome (at_cell m cell) → IsWritten m n cell new) → MakesAt cell f m n
made_found m n cell f old new found is written = made m n cell f new (is ∙ ap (λ o. f (unwrap_or o no_chain)) found) (written (subst (λ (o : Option VersionChain). IsSome o) found refl))

-- what makes nothing new changes nothing
pub same_chains : (m n : Cells VersionChain) (cell : Cell) → MakesAt cell (λ chain. chain) m n → (c : Cell) → chain_at n c ≡ chain_at m c
same_chains m n cell h c = h c ∙ go (is_same_cell cell c)
  where
    go : (b : Bool) → (if b then chain_at m c else chain_at m c) ≡ chain_at m c
    go true = refl
    go false = refl
