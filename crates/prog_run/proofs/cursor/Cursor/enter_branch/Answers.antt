use Rattle.std.proofs.Common.{◌≡◌, ap, sym, refl, ◌∙◌, true, false}
use Rattle.std.specs.Prelude.{Bool, if◌then◌else◌}
use Rattle.prog_tree.specs.declared.stmt.Block.{Block}
use Rattle.prog_tree.specs.Tree.{test_tree, stmts_tree, block_tree}
use Rattle.prog_run.specs.Cursor.{cursor_tree}
use Rattle.prog_run.proofs.TodoLemmas.{branch_moves, entered}
use Rattle.prog_run.proofs.cursor.Cursor.enter_branch.Goals as goal

chosen_tree : (v : Bool) (a b : Block) → block_tree (if v then a else b) ≡ (if v then block_tree a else block_tree b)
chosen_tree true a b = refl
chosen_tree false a b = refl

pub returns-clause-step : goal.returns-clause-step
returns-clause-step c =
    let old = cursor_tree c.args.self.now in
    let a = c.args.then_block.now in
    let b = c.args.otherwise.now in
    let rest = stmts_tree c.args.rest.now in
    let v = c.in-Some.holds in
    let block = ap stmts_tree c.as_slice.ensures.value ∙ ap block_tree c.chosen_block.ensures ∙ chosen_tree v a b in
    let at = c.in_ok-enter.ensures.ok ∙ (λ i. entered (block i) (c.len.ensures i) rest old) in
    branch_moves (test_tree c.args.test.now) (block_tree a) (block_tree b) rest old (cursor_tree c.enter.new.self) c.args.progress.now v c.requires (sym c.in-Some.ensures) at
