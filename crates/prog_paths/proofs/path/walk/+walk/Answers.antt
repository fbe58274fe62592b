use Rattle.std.proofs.Common.{◌≡◌, false, ◌+◌, ◌++◌, ◌∷◌, true, map, drop, ap, sym, subst, ◌∙◌, arith}
use Rattle.std.proofs.lemmas.List.{drop_more, drop_all}
use Rattle.prog_tree.specs.Tree.{stmt_tree, test_tree, block_tree, stmts_tree}
use Rattle.prog_tree.proofs.TreeLemmas.{fork_tree}
use Rattle.prog_check.specs.Paths.{statement_count, routes}
use Rattle.prog_paths.specs.Trails.{AreLow, alone, along, all_along}
use Rattle.prog_paths.proofs.Walking.{count_from, no_routes, all_from, all_along_none, nothing_along, low_from, more_trails, fork_counts, told, low_front, low_back, low_first, low_second}
use Rattle.prog_paths.proofs.path.walk.+walk.Goals as goal

pub walk_block-returns-then-not-commits : goal.walk_block-returns-then-not-commits
walk_block-returns-then-not-commits t c =
    c.new-trails.ensures.items
    ∙ ap (map (along c.args.set.now.tables.items c.args.params.now c.args.trail)) (sym (no_routes (block_tree c.args.block.now) c.args.number (sym c.commits.ensures ∙ c.if-not-commits.true)))

pub walk_block-loop-stmt-preserved : goal.walk_block-loop-stmt-preserved
walk_block-loop-stmt-preserved t c =
    let tables = c.args.set.now.tables.items in
    let params = c.args.params.now in
    let items = c.deref-stmt-items.result.now in
    let item = c.stmt-item.result in
    let later = drop (c.loop-stmt.stmt-index + 1) items in
    let rest = stmts_tree later in
    let x = stmt_tree item in
    let n = c.loop-stmt.number in
    let before = c.loop-stmt.trails.items in
    let parts = ap stmts_tree (drop_more items c.loop-stmt.stmt-index item c.loop-stmt-test.true ∙ ap (λ s. s ∷ later) (sym c.stmt-item.is)) in
    let counted = count_from x rest in
    let size = ap statement_count parts in
    let whole = c.loop-stmt.invariant.number in
    let own = c.count_own-number.ensures.counted in
    let room = c.requires.few in
    let walked = c.in_ok-trails.ensures in
    let exact : c.count_own-number.result ≡ statement_count (alone x) = omega (arith, own, counted, size, whole, room) in
    record {
      number = omega (arith, counted, size, whole, exact);
      past = (let p = c.loop-stmt.invariant.past in omega (arith, p));
      low = subst (λ m. AreLow (n + m) c.in_ok-trails.trails.items) (sym exact) (subst (AreLow (n + statement_count (alone x))) (sym walked) (low_from tables params n x before c.loop-stmt.invariant.low));
      trails =
          (λ i. all_along tables params (walked i) (routes (n + exact i) rest))
          ∙ all_from tables params before n x rest
          ∙ ap (λ b. all_along tables params before (routes n b)) (sym parts)
          ∙ c.loop-stmt.invariant.trails;
    }

pub walk_block-returns : goal.walk_block-returns
walk_block-returns t c =
    let tables = c.args.set.now.tables.items in
    let params = c.args.params.now in
    let items = c.deref-stmt-items.result.now in
    sym (all_along_none tables params c.loop-stmt.trails.items)
    ∙ ap (λ ss. all_along tables params c.loop-stmt.trails.items (routes c.loop-stmt.number (stmts_tree ss))) (sym (drop_all c.loop-stmt.stmt-index items c.loop-stmt-test.false))
    ∙ c.loop-stmt.invariant.trails

pub walk_stmt-loop-trail-preserved : goal.walk_stmt-loop-trail-preserved
walk_stmt-loop-trail-preserved t c =
    let tables = c.args.set.now.tables.items in
    let params = c.args.params.now in
    let branch = c.in-Branch in
    let n = c.args.number in
    let trail = c.in-Some.trail in
    let before = c.loop-trail.passed.items in
    let a = block_tree branch.then in
    let b = block_tree branch.otherwise in
    let x = stmt_tree c.args.stmt.now in
    let is = ap stmt_tree branch.is ∙ fork_tree branch.test branch.then branch.otherwise in
    let size = ap (λ y. statement_count (alone y)) is in
    let counted = c.count_statements.ensures.counted in
    let room = c.requires.few in
    let second : c.count_statements.result ≡ statement_count a = omega (arith, size, counted, room) in
    let first_walked = c.in_ok-ways-in-Branch.ensures ∙ ap (λ t. map (along tables params t) (routes (n + 1) a)) c.in_ok-on-in-Branch.ensures in
    let second_walked =
    c.in_ok-ways-in-Branch-2.ensures
    ∙ (λ i. map (along tables params (c.in_ok-on-in-Branch-2.ensures i)) (routes (n + 1 + second i) b)) in
    record {
      passed =
          c.in_ok-append-in-Branch-2.ensures.items
          ∙ (λ i. (c.in_ok-append-in-Branch.ensures.items ∙ ap (λ l. before ++ l) first_walked) i ++ second_walked i)
          ∙ more_trails tables params n x (test_tree branch.test) a b c.loop-trail.yielded trail before is c.loop-trail.invariant.passed;
      low = low_back n trail c.next.new.self.rest.items c.loop-trail.trail-iterator.rest.items (told c.next.result _ _ trail c.in-Some.is c.next.ensures.steps).0 c.loop-trail.invariant.low;
    }

pub walk_stmt-returns-in-Abort : goal.walk_stmt-returns-in-Abort
walk_stmt-returns-in-Abort t c =
    let tables = c.args.set.now.tables.items in
    let params = c.args.params.now in
    c.new.ensures.items
    ∙ sym (nothing_along tables params c.args.trails.items)
    ∙ ap (λ s. all_along tables params c.args.trails.items (routes c.args.number (alone (stmt_tree s)))) (sym c.in-Abort.is)

pub walk_stmt-walk_block-requires : goal.walk_stmt-walk_block-requires
walk_stmt-walk_block-requires t c =
    let branch = c.in-Branch in
    let n = c.args.number in
    let size = fork_counts c.args.stmt.now branch.test branch.then branch.otherwise branch.is in
    let room = c.requires.few in
    let falls = c.decreases in
    let low = low_front n c.in-Some.trail c.next.new.self.rest.items c.loop-trail.trail-iterator.rest.items (told c.next.result _ _ c.in-Some.trail c.in-Some.is c.next.ensures.steps).0 c.loop-trail.invariant.low in (
      omega (arith, size, falls),
      (omega (arith, size, room), low_first n true c.in-Some.trail c.in_ok-on-in-Branch.on c.in_ok-on-in-Branch.ensures low),
    )

pub walk_stmt-walk_block-requires-in-loop-trail : goal.walk_stmt-walk_block-requires-in-loop-trail
walk_stmt-walk_block-requires-in-loop-trail t c =
    let branch = c.in-Branch in
    let n = c.args.number in
    let size = fork_counts c.args.stmt.now branch.test branch.then branch.otherwise branch.is in
    let room = c.requires.few in
    let falls = c.decreases in
    let counted = c.count_statements.ensures.counted in
    let low = low_front n c.in-Some.trail c.next.new.self.rest.items c.loop-trail.trail-iterator.rest.items (told c.next.result _ _ c.in-Some.trail c.in-Some.is c.next.ensures.steps).0 c.loop-trail.invariant.low in (
      omega (arith, size, falls),
      (omega (arith, size, room, counted), low_second n c.count_statements.result false c.in-Some.trail c.in_ok-on-in-Branch-2.on c.in_ok-on-in-Branch-2.ensures low),
    )
