use Rattle.std.proofs.Common.{◌+◌, ◌*◌, ◌∷◌, ◌∙◌, ap, sym, arith, min, drop}
use Rattle.std.proofs.lemmas.List.{drop_more}
use Rattle.prog_tree.specs.Tree.{with_stmt, stmts_tree, block_tree}
use Rattle.prog_tree.proofs.TreeLemmas.{branch_tree}
use Rattle.prog_check.specs.Counts.{path_count}
use Rattle.prog_check.proofs.CountLemmas.{branch_ways, more_ways}
use Rattle.prog_check.proofs.counts.+paths.Goals as goal

pub count_paths-loop-stmt-preserved : goal.count_paths-loop-stmt-preserved
count_paths-loop-stmt-preserved t c =
    let items = c.deref-stmt-items.result.now in
    let item = c.stmt-item.result in
    let later = drop (c.loop-stmt.stmt-index + 1) items in
    let rest = stmts_tree later in
    let parts = ap stmts_tree (drop_more items c.loop-stmt.stmt-index item c.loop-stmt-test.true ∙ ap (λ s. s ∷ later) (sym c.stmt-item.is)) in
    record {
      few = omega (arith, c.min-count.ensures);
      paths =
          ap (λ n. min (n * path_count rest) 33) c.min-count.ensures
          ∙ more_ways 33 c.loop-stmt.count c.count_ways.result (path_count rest) (path_count (with_stmt item rest)) (c.count_ways.ensures.ways rest)
          ∙ ap (λ b. min (c.loop-stmt.count * path_count b) 33) (sym parts)
          ∙ c.loop-stmt.invariant.paths;
    }

pub count_ways-returns-in-Branch-clause-ways : goal.count_ways-returns-in-Branch-clause-ways
count_ways-returns-in-Branch-clause-ways t c rest =
    let branch = c.in-Branch in
    let is = ap with_stmt branch.is ∙ branch_tree branch.test branch.then branch.otherwise in
    let counted = c.min.ensures ∙ (λ i. min (c.count_paths.ensures i + c.count_paths-in-Branch.ensures i) 33) in
    ap (λ f. min (path_count (f rest)) 33) is
    ∙ branch_ways 33 (path_count (block_tree branch.then)) (path_count (block_tree branch.otherwise)) (path_count rest)
    ∙ ap (λ n. min (n * path_count rest) 33) (sym counted)
