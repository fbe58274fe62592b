use Rattle.std.proofs.Common.{◌∙◌, ◌++◌, ap, sym}
use Rattle.prog_tree.specs.Syntax.{BlockTree}
use Rattle.prog_tree.specs.Tree.{with_stmt, block_tree}
use Rattle.prog_tree.proofs.TreeLemmas.{branch_tree, each_tree}
use Rattle.si_repair.specs.Obstacles.{range_list}
use Rattle.si_repair.proofs.Obstacles.{branch_ranges, each_ranges}
use Rattle.si_repair.proofs.repairs.ranges.+ranges.Goals as goal

pub push_stmt-returns-in_ok-push_block-in-Branch-2 : goal.push_stmt-returns-in_ok-push_block-in-Branch-2
push_stmt-returns-in_ok-push_block-in-Branch-2 t c rest =
    let branch = c.in-Branch in
    let old = c.args.ranges.now.items in
    let is = ap with_stmt branch.is ∙ branch_tree branch.test branch.then branch.otherwise in
    branch_ranges old c.push.new.self.items c.push_block.new.ranges.items c.push_block-in-Branch.new.ranges.items (range_list (block_tree branch.then)) (range_list (block_tree branch.otherwise)) (range_list rest)
    c.in_ok-push-in-Branch.ensures.items c.in_ok-push_block-in-Branch.ensures c.in_ok-push_block-in-Branch-2.ensures
    ∙ ap (λ (f : BlockTree → BlockTree). old ++ range_list (f rest)) (sym is)

pub push_stmt-returns-in_ok-push_block-in-Each : goal.push_stmt-returns-in_ok-push_block-in-Each
push_stmt-returns-in_ok-push_block-in-Each t c rest =
    let each = c.in-Each in
    let old = c.args.ranges.now.items in
    let is = ap with_stmt each.is ∙ each_tree each.listing each.body in
    each_ranges old c.push-in-Each.new.self.items c.push_block-in-Each.new.ranges.items (range_list (block_tree each.body)) (range_list rest) c.in_ok-push-in-Each.ensures.items c.in_ok-push_block-in-Each.ensures
    ∙ ap (λ (f : BlockTree → BlockTree). old ++ range_list (f rest)) (sym is)
