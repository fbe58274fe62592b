use Rattle.std.proofs.Common.{◌≡◌, ◌+◌, ◌++◌, ◌∷◌, [], map, drop, if◌then◌else◌, ap, sym, ◌∙◌, arith}
use Rattle.std.proofs.lemmas.List.{drop_more, drop_all}
use Rattle.prog_tree.specs.Syntax.{Plain, Fork}
use Rattle.prog_tree.specs.Tree.{stmt_tree, block_tree, stmts_tree, with_stmts}
use Rattle.prog_tree.proofs.TreeLemmas.{fork_tree}
use Rattle.prog_check.specs.Paths.{statement_count}
use Rattle.prog_paths.specs.Kinds.{option_items}
use Rattle.repair_laws.specs.Promoted.{keep_of, with_keeps}
use Rattle.si_repair.specs.Behind.{cell_read_by}
use Rattle.si_repair.specs.Marks.{is_marked}
use Rattle.si_repair.proofs.Behind.{count-first, keeps-more, count-fork, keeps-fork, count-loop}
use Rattle.si_repair.proofs.repairs.behind.+keeps.Goals as goal

pub keeps_in_stmt-keeps_in_block-requires : goal.keeps_in_stmt-keeps_in_block-requires
keeps_in_stmt-keeps_in_block-requires t c =
    let branch = c.in-Branch in
    let size = count-fork c.args.stmt.now branch.test branch.then branch.otherwise branch.is in
    let room = c.requires in
    let falls = c.decreases in
    (omega (arith, size, falls), omega (arith, size, room))

pub keeps_in_stmt-keeps_in_block-requires-in-Branch : goal.keeps_in_stmt-keeps_in_block-requires-in-Branch
keeps_in_stmt-keeps_in_block-requires-in-Branch t c =
    let branch = c.in-Branch in
    let size = count-fork c.args.stmt.now branch.test branch.then branch.otherwise branch.is in
    let room = c.requires in
    let falls = c.decreases in
    let next = c.in_ok-first-in-Branch.ensures.next in
    (omega (arith, size, falls), omega (arith, size, room, next))

pub keeps_in_stmt-returns-in_ok-copy-in-Branch-clause-next : goal.keeps_in_stmt-returns-in_ok-copy-in-Branch-clause-next
keeps_in_stmt-returns-in_ok-copy-in-Branch-clause-next t c =
    let branch = c.in-Branch in
    let size = count-fork c.args.stmt.now branch.test branch.then branch.otherwise branch.is in
    let first = c.in_ok-first-in-Branch.ensures.next in
    let second = c.in_ok-second-in-Branch.ensures.next in
    omega (arith, size, first, second)

pub keeps_in_stmt-returns-in_ok-copy-in-Branch-clause-kept : goal.keeps_in_stmt-returns-in_ok-copy-in-Branch-clause-kept
keeps_in_stmt-returns-in_ok-copy-in-Branch-clause-kept t c =
    let branch = c.in-Branch in
    let marked = is_marked c.args.marks.now c.args.program in
    let first = c.in_ok-first-in-Branch in
    let second = c.in_ok-second-in-Branch in
    let test = c.in_ok-copy-in-Branch in
    fork_tree test.field-0 first.first.block second.second.block
    ∙ (λ i. Fork (test.ensures i) (first.ensures.kept i) ((second.ensures.kept ∙ ap (λ n. with_keeps marked n (block_tree branch.otherwise)) first.ensures.next) i))
    ∙ sym (keeps-fork marked c.args.number c.args.stmt.now branch.test branch.then branch.otherwise branch.is)

pub keeps_in_stmt-overflow_add-result-in-Each : goal.keeps_in_stmt-overflow_add-result-in-Each
keeps_in_stmt-overflow_add-result-in-Each t c =
    let each = c.in-Each in
    let size = count-loop c.args.stmt.now each.listing each.body each.is in
    let room = c.requires in
    let inside = c.count_statements.ensures.counted in
    omega (arith, size, room, inside)

pub keeps_in_stmt-returns-in_ok-copy-in-Each-clause-next : goal.keeps_in_stmt-returns-in_ok-copy-in-Each-clause-next
keeps_in_stmt-returns-in_ok-copy-in-Each-clause-next t c =
    let each = c.in-Each in
    let size = count-loop c.args.stmt.now each.listing each.body each.is in
    let room = c.requires in
    let inside = c.count_statements.ensures.counted in
    omega (arith, size, room, inside)

pub keeps_in_block-keeps_in_stmt-requires : goal.keeps_in_block-keeps_in_stmt-requires
keeps_in_block-keeps_in_stmt-requires t c =
    let items = c.deref-stmt-items.result.now in
    let item = c.stmt-item.result in
    let later = drop (c.loop-stmt.stmt-index + 1) items in
    let parts = ap stmts_tree (drop_more items c.loop-stmt.stmt-index item c.loop-stmt-test.true ∙ ap (λ s. s ∷ later) (sym c.stmt-item.is)) in
    let size = ap statement_count parts in
    let first = count-first (stmt_tree item) (stmts_tree later) in
    let whole = c.loop-stmt.invariant.counted in
    let past = c.loop-stmt.invariant.past in
    let room = c.requires in
    let falls = c.decreases in
    (omega (arith, size, first, whole, past, falls), omega (arith, size, first, whole, room))

pub keeps_in_block-loop-stmt-preserved : goal.keeps_in_block-loop-stmt-preserved
keeps_in_block-loop-stmt-preserved t c =
    let marked = is_marked c.args.marks.now c.args.program in
    let items = c.deref-stmt-items.result.now in
    let item = c.stmt-item.result in
    let later = drop (c.loop-stmt.stmt-index + 1) items in
    let before = c.loop-stmt.stmts.items in
    let keeps = option_items c.in_ok-keep.keep in
    let kept = c.in_ok-kept.kept in
    let parts = ap stmts_tree (drop_more items c.loop-stmt.stmt-index item c.loop-stmt-test.true ∙ ap (λ s. s ∷ later) (sym c.stmt-item.is)) in
    let size = ap statement_count parts in
    let first = count-first (stmt_tree item) (stmts_tree later) in
    let whole = c.loop-stmt.invariant.counted in
    let past = c.loop-stmt.invariant.past in
    let next = c.in_ok-kept.ensures.next in
    let behind = c.in_ok-keep.ensures ∙ ap (λ b. map Plain (if b then keep_of (cell_read_by (stmt_tree item)) else [])) c.is_marked.ensures in
    record {
      counted = omega (arith, size, first, whole, next);
      past = omega (arith, past, next);
      kept =
          ap (λ ss. with_stmts ss (with_keeps marked kept.next (stmts_tree later))) (c.in_ok-push_some.ensures ∙ ap (λ ss. ss ++ keeps) c.in_ok-push.ensures.items)
          ∙ keeps-more marked c.loop-stmt.next kept.next before keeps item kept.stmt later next c.in_ok-kept.ensures.kept behind
          ∙ ap (λ b. with_stmts before (with_keeps marked c.loop-stmt.next b)) (sym parts)
          ∙ c.loop-stmt.invariant.kept;
    }

pub keeps_in_block-returns-clause-next : goal.keeps_in_block-returns-clause-next
keeps_in_block-returns-clause-next t c =
    let items = c.deref-stmt-items.result.now in
    let none : statement_count (stmts_tree (drop c.loop-stmt.stmt-index items)) ≡ 0 = ap (λ ss. statement_count (stmts_tree ss)) (drop_all c.loop-stmt.stmt-index items c.loop-stmt-test.false) in
    let whole = c.loop-stmt.invariant.counted in
    omega (arith, none, whole)

pub keeps_in_block-returns-clause-kept : goal.keeps_in_block-returns-clause-kept
keeps_in_block-returns-clause-kept t c =
    let marked = is_marked c.args.marks.now c.args.program in
    let items = c.deref-stmt-items.result.now in
    ap (λ ss. with_stmts c.loop-stmt.stmts.items (with_keeps marked c.loop-stmt.next (stmts_tree ss))) (sym (drop_all c.loop-stmt.stmt-index items c.loop-stmt-test.false))
    ∙ c.loop-stmt.invariant.kept
