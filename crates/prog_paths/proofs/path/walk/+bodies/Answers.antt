use Rattle.std.proofs.Common.{◌≡◌, false, ◌+◌, ◌∷◌, drop, ap, sym, subst, ◌∙◌, arith}
use Rattle.std.proofs.lemmas.List.{drop_more, drop_all}
use Rattle.prog_tree.specs.Tree.{stmt_tree, listing_tree, test_tree, block_tree, stmts_tree}
use Rattle.prog_tree.proofs.TreeLemmas.{fork_tree, loop_tree}
use Rattle.prog_check.specs.Paths.{statement_count}
use Rattle.prog_paths.specs.Trails.{IsLow, alone, past_body}
use Rattle.prog_paths.proofs.Walking.{count_from, fork_counts}
use Rattle.prog_paths.proofs.Bodies.{body_end, body_next, inside_branch, inside_loop, low_body, low_fork, low_head, loop_counts}
use Rattle.prog_paths.proofs.path.walk.+bodies.Goals as goal

pub pass_body-loop-stmt-preserved : goal.pass_body-loop-stmt-preserved
pass_body-loop-stmt-preserved t c =
    let tables = c.args.set.now.tables.items in
    let params = c.args.params.now in
    let items = c.deref-stmt-items.result.now in
    let item = c.stmt-item.result in
    let later = drop (c.loop-stmt.stmt-index + 1) items in
    let rest = stmts_tree later in
    let x = stmt_tree item in
    let n = c.loop-stmt.number in
    let before = c.loop-stmt.trail in
    let parts = ap stmts_tree (drop_more items c.loop-stmt.stmt-index item c.loop-stmt-test.true ∙ ap (λ s. s ∷ later) (sym c.stmt-item.is)) in
    let counted = count_from x rest in
    let size = ap statement_count parts in
    let whole = c.loop-stmt.invariant.number in
    let own = c.count_own-number.ensures.counted in
    let room = c.requires.few in
    let passed = c.in_ok-pass_inside.ensures in
    let exact : c.count_own-number.result ≡ statement_count (alone x) = omega (arith, own, counted, size, whole, room) in
    record {
      number = omega (arith, counted, size, whole, exact);
      past = (let p = c.loop-stmt.invariant.past in omega (arith, p));
      low = subst (λ m. IsLow (n + m) c.pass_inside.new.trail) (sym exact) (low_body tables params n (alone x) before c.pass_inside.new.trail passed c.loop-stmt.invariant.low);
      trail =
          (λ i. past_body tables params (n + exact i) rest (passed i))
          ∙ body_next tables params n x rest before
          ∙ ap (λ b. past_body tables params n b before) (sym parts)
          ∙ c.loop-stmt.invariant.trail;
    }

pub pass_body-returns : goal.pass_body-returns
pass_body-returns t c =
    let tables = c.args.set.now.tables.items in
    let params = c.args.params.now in
    let items = c.deref-stmt-items.result.now in
    sym (body_end tables params c.loop-stmt.number c.loop-stmt.trail)
    ∙ ap (λ ss. past_body tables params c.loop-stmt.number (stmts_tree ss) c.loop-stmt.trail) (sym (drop_all c.loop-stmt.stmt-index items c.loop-stmt-test.false))
    ∙ c.loop-stmt.invariant.trail

pub pass_inside-pass_body-requires : goal.pass_inside-pass_body-requires
pass_inside-pass_body-requires t c =
    let branch = c.in-Branch in
    let n = c.args.number in
    let x = stmt_tree c.args.stmt.now in
    let fork = ap stmt_tree branch.is ∙ fork_tree branch.test branch.then branch.otherwise in
    let size = fork_counts c.args.stmt.now branch.test branch.then branch.otherwise branch.is in
    let room = c.requires.few in
    let falls = c.decreases in (
      omega (arith, size, falls),
      (
        omega (arith, size, room),
        low_fork c.args.set.now.tables.items c.args.params.now n x (test_tree branch.test) (block_tree branch.then) (block_tree branch.otherwise) c.args.trail.now c.pass.new.trail fork c.in_ok-pass.ensures c.requires.low,
      ),
    )

pub pass_inside-pass_body-requires-in-Branch : goal.pass_inside-pass_body-requires-in-Branch
pass_inside-pass_body-requires-in-Branch t c =
    let tables = c.args.set.now.tables.items in
    let params = c.args.params.now in
    let branch = c.in-Branch in
    let n = c.args.number in
    let x = stmt_tree c.args.stmt.now in
    let a = block_tree branch.then in
    let fork = ap stmt_tree branch.is ∙ fork_tree branch.test branch.then branch.otherwise in
    let size = fork_counts c.args.stmt.now branch.test branch.then branch.otherwise branch.is in
    let room = c.requires.few in
    let falls = c.decreases in
    let counted = c.count_statements.ensures.counted in
    let first : c.count_statements.result ≡ statement_count a = omega (arith, size, counted, room) in
    let own = low_fork tables params n x (test_tree branch.test) a (block_tree branch.otherwise) c.args.trail.now c.pass.new.trail fork c.in_ok-pass.ensures c.requires.low in
    let low = low_body tables params (n + 1) a c.pass.new.trail c.pass_body.new.trail c.in_ok-pass_body-in-Branch.ensures own in (
      omega (arith, size, falls),
      (omega (arith, size, room, first), subst (λ k. IsLow (n + 1 + k) c.pass_body.new.trail) (sym first) low),
    )

pub pass_inside-pass_body-requires-in-Each : goal.pass_inside-pass_body-requires-in-Each
pass_inside-pass_body-requires-in-Each t c =
    let each = c.in-Each in
    let n = c.args.number in
    let x = stmt_tree c.args.stmt.now in
    let loop = ap stmt_tree each.is ∙ loop_tree each.listing each.body in
    let size = loop_counts c.args.stmt.now each.listing each.body each.is in
    let room = c.requires.few in
    let falls = c.decreases in (
      omega (arith, size, falls),
      (
        omega (arith, size, room),
        low_head c.args.set.now.tables.items c.args.params.now false n x (listing_tree each.listing) (block_tree each.body) c.args.trail.now c.pass.new.trail loop c.in_ok-pass.ensures c.requires.low,
      ),
    )

pub pass_inside-returns-in_ok-pass_body-in-Branch-2 : goal.pass_inside-returns-in_ok-pass_body-in-Branch-2
pass_inside-returns-in_ok-pass_body-in-Branch-2 t c =
    let tables = c.args.set.now.tables.items in
    let params = c.args.params.now in
    let branch = c.in-Branch in
    let n = c.args.number in
    let x = stmt_tree c.args.stmt.now in
    let a = block_tree branch.then in
    let b = block_tree branch.otherwise in
    let m = c.count_statements.result in
    let fork = ap stmt_tree branch.is ∙ fork_tree branch.test branch.then branch.otherwise in
    let size = fork_counts c.args.stmt.now branch.test branch.then branch.otherwise branch.is in
    let room = c.requires.few in
    let counted = c.count_statements.ensures.counted in
    let first : m ≡ statement_count a = omega (arith, size, counted, room) in
    c.in_ok-pass_body-in-Branch-2.ensures
    ∙ ap (past_body tables params (n + 1 + m) b) (c.in_ok-pass_body-in-Branch.ensures ∙ ap (past_body tables params (n + 1) a) c.in_ok-pass.ensures)
    ∙ inside_branch tables params n m x (test_tree branch.test) a b c.args.trail.now fork first

pub pass_inside-returns-in_ok-pass_body-in-Each : goal.pass_inside-returns-in_ok-pass_body-in-Each
pass_inside-returns-in_ok-pass_body-in-Each t c =
    let tables = c.args.set.now.tables.items in
    let params = c.args.params.now in
    let each = c.in-Each in
    let n = c.args.number in
    let x = stmt_tree c.args.stmt.now in
    let body = block_tree each.body in
    let loop = ap stmt_tree each.is ∙ loop_tree each.listing each.body in
    c.in_ok-pass_body-in-Each.ensures
    ∙ ap (past_body tables params (n + 1) body) c.in_ok-pass.ensures
    ∙ inside_loop tables params n x (listing_tree each.listing) body c.args.trail.now loop
