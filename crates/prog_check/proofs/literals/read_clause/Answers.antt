use Rattle.std.proofs.Common.{◌+◌, ◌∷◌, ◌∙◌, ap, sym, subst, map, drop}
use Rattle.std.specs.List.{All}
use Rattle.std.proofs.lemmas.List.{drop_more}
use Rattle.std.proofs.lemmas.List.Elements.{All-append}
use Rattle.prog_tree.specs.Tree.{comparison_tree}
use Rattle.prog_tree.specs.Number.{IsI64}
use Rattle.prog_tree.specs.Literals.{comparison_literals, clause_literals}
use Rattle.prog_check.proofs.literals.read_clause.Goals as goal

pub loop-comparison-preserved : goal.loop-comparison-preserved
loop-comparison-preserved c left =
    let items = c.deref-comparison-items.result.now in
    let item = c.comparison-item.result in
    let later = drop (c.loop-comparison.comparison-index + 1) items in
    let parts = drop_more items c.loop-comparison.comparison-index item c.loop-comparison-test.true ∙ ap (λ x. x ∷ later) (sym c.comparison-item.is) in
    c.loop-comparison.invariant
    (subst (λ xs. All IsI64 (clause_literals (map comparison_tree xs))) (sym parts) (All-append IsI64 (comparison_literals (comparison_tree item)) (clause_literals (map comparison_tree later)) c.read_comparison.ensures left))
