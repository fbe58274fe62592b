use Rattle.std.proofs.Common.{◌+◌, ◌∷◌, ◌∙◌, ap, sym, subst, map, drop}
use Rattle.std.specs.List.{All}
use Rattle.std.proofs.lemmas.List.{drop_more}
use Rattle.std.proofs.lemmas.List.Elements.{All-append}
use Rattle.prog_tree.specs.Tree.{clause_tree}
use Rattle.prog_tree.specs.Number.{IsI64}
use Rattle.prog_tree.specs.Literals.{clause_literals, test_literals}
use Rattle.prog_check.proofs.literals.read_test.Goals as goal

pub loop-clause-preserved : goal.loop-clause-preserved
loop-clause-preserved c left =
    let items = c.deref-clause-items.result.now in
    let item = c.clause-item.result in
    let later = drop (c.loop-clause.clause-index + 1) items in
    let parts = drop_more items c.loop-clause.clause-index item c.loop-clause-test.true ∙ ap (λ x. x ∷ later) (sym c.clause-item.is) in
    c.loop-clause.invariant
    (subst (λ xs. All IsI64 (test_literals (map clause_tree xs))) (sym parts) (All-append IsI64 (clause_literals (clause_tree item)) (test_literals (map clause_tree later)) c.read_clause.ensures left))
