-- Clashes name a commit.
use Rattle.std.proofs.Common.{◌≡◌, ℕ, suc, ◌+◌, ◌-◌, ◌<◌, ◌≤◌, max, Bool, true, false, List, [], ◌∷◌, refl, ap, sym, ◌∙◌, ◌⊎◌, inl, inr, cond, leb, arith}
use Rattle.std.specs.Prelude.{Some, slice_get}
use Rattle.std.proofs.lemmas.Bool.Decides.{leb_tells}
use Rattle.prog_tree.specs.declared.cell.Cell.{Cell}
use Rattle.prog_tree.specs.ChangeSet.{ChangeSet, touches_cell}
use Rattle.version_store.specs.Clash.{last_touch, IsClash}
use Rattle.history_book.specs.History.{NamesCommit}

-- a commit of a list, where the first has the number k, that touches the cell
pub record Touches (c : Cell) (k : ℕ) (ws : List ChangeSet) (last : ℕ) : Type 0 where
  pub place : ℕ
  pub commit : ChangeSet
  pub at : slice_get ws place ≡ Some commit
  pub touched : touches_cell commit c ≡ true
  pub number : last ≡ k + place

-- the last touch is by a commit
pub last_touches : (c : Cell) (k : ℕ) (ws : List ChangeSet) → 0 < last_touch c k ws → Touches c k ws (last_touch c k ws)
last_touches c k [] some = absurd (omega arith)
last_touches c k (w ∷ ws) some = go (leb_tells 1 later) (last_touches c (k + 1) ws)
  where
    later : ℕ
    later = last_touch c (k + 1) ws

    here : (b : Bool) → touches_cell w c ≡ b → 0 < max (cond b k 0) later → later < 1 → Touches c k (w ∷ ws) (max (cond b k 0) later)
    here true is high none = record { place = 0; commit = w; at = refl; touched = is; number = omega arith }
    here false is high none = absurd (omega arith)

    go : ((leb 1 later ≡ true) × (1 ≤ later)) ⊎ ((leb 1 later ≡ false) × (later < 1)) → (0 < later → Touches c (k + 1) ws later) →
        Touches c k (w ∷ ws) (last_touch c k (w ∷ ws))
    go (inl more) rest =
        let r = rest more.1 in
        let number : later ≡ k + 1 + r.place = r.number in
        let at_most : cond (touches_cell w c) k 0 ≤ k = elim (touches_cell w c) as (λ b. cond b k 0 ≤ k) [ true ↦ omega arith | false ↦ omega arith ] in
        record { place = suc r.place; commit = r.commit; at = r.at; touched = r.touched; number = omega arith }
    go (inr less) rest = here (touches_cell w c) refl some less.1

pub names_commit : (ws : List ChangeSet) (start : ℕ) (w : ChangeSet) (cell : Cell) (number : ℕ) → IsClash ws start w (Some (cell, number)) → NamesCommit ws start cell number
names_commit ws start w cell number clash =
    let above : start < last_touch cell 1 ws = clash.1 in
    let same : number ≡ last_touch cell 1 ws = clash.2 in
    let r = last_touches cell 1 ws (omega arith) in
    let last : last_touch cell 1 ws ≡ 1 + r.place = r.number in
    let place : r.place ≡ number - 1 = omega arith in
    record { above = omega arith; commit = r.commit; at = ap (slice_get ws) (sym place) ∙ r.at; touches = r.touched }
