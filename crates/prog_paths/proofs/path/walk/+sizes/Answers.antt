use Rattle.std.proofs.Common.{◌∙◌, ◌∷◌, ◌+◌, ap, sym, arith, drop}
use Rattle.std.proofs.lemmas.List.{drop_more}
use Rattle.prog_tree.specs.Tree.{stmt_tree, stmts_tree}
use Rattle.prog_tree.proofs.TreeLemmas.{fork_tree, loop_tree}
use Rattle.prog_check.specs.Paths.{statement_count}
use Rattle.prog_paths.specs.Trails.{alone}
use Rattle.prog_paths.proofs.Walking.{count_from}
use Rattle.prog_paths.proofs.path.walk.+sizes.Goals as goal

pub count_statements-loop-stmt-preserved : goal.count_statements-loop-stmt-preserved
count_statements-loop-stmt-preserved t c =
    let items = c.deref-stmt-items.result.now in
    let item = c.stmt-item.result in
    let later = drop (c.loop-stmt.stmt-index + 1) items in
    let parts = ap (λ ss. statement_count (stmts_tree ss)) (drop_more items c.loop-stmt.stmt-index item c.loop-stmt-test.true ∙ ap (λ s. s ∷ later) (sym c.stmt-item.is)) in
    let counted = count_from (stmt_tree item) (stmts_tree later) in
    let own = c.count_own.ensures.counted in
    let cut = c.min-count.ensures in
    let whole = c.loop-stmt.invariant.counted in
    record {
      few = omega (arith, cut);
      counted = omega (arith, parts, counted, own, cut, whole);
    }

pub count_own-returns-in-Branch-clause-counted : goal.count_own-returns-in-Branch-clause-counted
count_own-returns-in-Branch-clause-counted t c =
    let branch = c.in-Branch in
    let size = ap (λ x. statement_count (alone x)) (ap stmt_tree branch.is ∙ fork_tree branch.test branch.then branch.otherwise) in
    let first = c.count_statements.ensures.counted in
    let second = c.count_statements-in-Branch.ensures.counted in
    let cut = c.min.ensures in
    omega (arith, size, first, second, cut)

pub count_own-returns-in-Each-clause-counted : goal.count_own-returns-in-Each-clause-counted
count_own-returns-in-Each-clause-counted t c =
    let loop = c.in-Each in
    let size = ap (λ x. statement_count (alone x)) (ap stmt_tree loop.is ∙ loop_tree loop.listing loop.body) in
    let own = c.count_statements-in-Each.ensures.counted in
    let cut = c.min-in-Each.ensures in
    omega (arith, size, own, cut)
