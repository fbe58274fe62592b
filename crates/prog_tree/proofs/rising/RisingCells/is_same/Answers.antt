use Rattle.std.proofs.Common.{◌≡◌, ◌∙◌, sym, rules}
use Rattle.std.proofs.lemmas.Slice.Eq.{slice_eq-Decides}
use Rattle.std.specs.Bool.{Decides}
use Rattle.prog_tree.proofs.rising.RisingCells.is_same.Goals as goal

pub returns : goal.returns
returns c =
    let own = c.as_slice.result.now in
    let others = c.as_slice-2.result.now in
    let cells : Decides c.eq.result (own ≡ others) = slice_eq-Decides (λ a b. search rules) own others c.eq.result c.eq.ensures in
    let left = c.as_slice.ensures in
    let right = c.as_slice-2.ensures in
    (λ holds. sym left ∙ cells.0 holds ∙ right, λ same. cells.1 (left ∙ same ∙ sym right))
