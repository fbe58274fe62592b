-- What chains are after a commit that could not be added.
use Rattle.std.proofs.Common.{◌≡◌, ◌∙◌, ℕ, Bool, true, false, if◌then◌else◌, refl}
use Rattle.prog_tree.specs.declared.cell.Cell.{Cell}
use Rattle.prog_tree.specs.ChangeSet.{ChangeSet, touches_cell}
use Rattle.prog_tree.specs.Table.{Cells}
use Rattle.version_store.specs.Reading.{chain_at, cut_from, IsBelow, IsGrown, MakesTouched}
use Rattle.version_store.specs.StandsFor.{VersionChain}

-- cut back at the touched cells, a chain of lesser numbers alone is as before
pub cut_back :
    (n : ℕ) (w : ChangeSet) (before grown last : Cells VersionChain) → IsGrown n w before grown → MakesTouched w (cut_from n) grown last →
    (c : Cell) → IsBelow n (chain_at before c) → chain_at last c ≡ chain_at before c
cut_back n w before grown last so_far cut c below = cut c ∙ go (touches_cell w c) (so_far c).1
  where
    go : (b : Bool) → (b ≡ false → chain_at grown c ≡ chain_at before c) → (if b then cut_from n (chain_at grown c) else chain_at grown c) ≡ chain_at before c
    go true apart = (so_far c).0 ∙ below
    go false apart = apart refl
