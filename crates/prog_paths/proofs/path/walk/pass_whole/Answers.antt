use Rattle.std.proofs.Common.{◌+◌, ◌∷◌, [], ap, ◌∙◌, arith}
use Rattle.prog_tree.specs.Tree.{stmt_tree, listing_tree, block_tree}
use Rattle.prog_tree.proofs.TreeLemmas.{loop_tree}
use Rattle.prog_paths.specs.Trails.{past_body}
use Rattle.prog_paths.proofs.Bodies.{whole_loop, loop_counts}
use Rattle.prog_paths.proofs.path.walk.pass_whole.Goals as goal

pub pass_body-requires-clause-few : goal.pass_body-requires-clause-few
pass_body-requires-clause-few c =
    let size = loop_counts c.args.stmt.now c.in-Each.listing c.in-Each.body c.in-Each.is in
    let room = c.requires.few in
    omega (arith, size, room)

pub returns-in_ok-pass_body : goal.returns-in_ok-pass_body
returns-in_ok-pass_body c =
    let tables = c.args.set.now.tables.items in
    let params = c.args.params.now in
    let n = c.args.number in
    let each = c.in-Each in
    let body = block_tree each.body in
    let loop = ap stmt_tree each.is ∙ loop_tree each.listing each.body in
    (λ i. (c.in_ok-pass_body.ensures ∙ ap (past_body tables params (n + 1) body) c.in_ok-pass.ensures) i ∷ [])
    ∙ whole_loop tables params n (stmt_tree c.args.stmt.now) (listing_tree each.listing) body c.args.trail.now loop
