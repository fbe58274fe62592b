use Rattle.std.proofs.Common.{◌≡◌, ◌∙◌, sym, ap, rules, ℤ}
use Rattle.std.proofs.lemmas.Bool.Decides.{Decides-and, Decides-int_eq, Decides-like}
use Rattle.std.proofs.lemmas.Slice.Eq.{slice_eq-Decides}
use Rattle.std.specs.Bool.{Decides}
use Rattle.prog_tree.specs.contracts.cell.CellPartialEq.TheImpl.{ghosts}
use Rattle.prog_tree.specs.declared.cell.Cell.{Cell}
use Rattle.prog_tree.proofs.same_rows.is_same_piece.Goals as goal

-- rows are equal where cells and values are
pub returns : goal.returns
returns c =
    let own = c.rows.result.now in
    let others = c.rows-2.result.now in
    let cells : (a b : Cell) → Decides (ghosts.eq a b) (a ≡ b) = λ a b. search rules in
    let rows : Decides c.eq.result (own ≡ others) =
    slice_eq-Decides
    (λ a b. Decides-like _ (λ e i. (e.0 i, e.1 i)) (λ e. (ap (λ (r : Cell × ℤ). r.0) e, ap (λ (r : Cell × ℤ). r.1) e))
    (Decides-and _ _ (cells a.0 b.0) (Decides-int_eq a.1 b.1)))
    own others c.eq.result c.eq.ensures in
    let left = c.rows.ensures in
    let right = c.rows-2.ensures in
    (λ holds. sym left ∙ rows.0 holds ∙ right, λ same. rows.1 (left ∙ same ∙ sym right))
