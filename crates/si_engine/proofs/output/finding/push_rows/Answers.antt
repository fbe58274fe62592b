use Rattle.std.proofs.Common.{◌++◌, ◌∙◌, ap, sym, subst, arith, append-nil, string_bytes}
use Rattle.std.proofs.lemmas.List.{drop_all}
use Rattle.prog_tree.specs.Table.{TableState}
use Rattle.prog_tree.specs.Tree.{draft_tree}
use Rattle.si_engine.specs.Runs.{row_lines, AddsLines}
use Rattle.si_engine.proofs.RunLaws.{next_row}
use Rattle.si_engine.proofs.output.finding.push_rows.Goals as goal

pub loop-row-preserved : goal.loop-row-preserved
loop-row-preserved c =
    let before = c.loop-row.invariant in
    let next =
    next_row (draft_tree c.args.set.now) c.args.rows.now c.loop-row.row-index _ c.deref.result.now before.done
    (string_bytes c.args.out.now) (string_bytes c.loop-row.out) (string_bytes c.push_row_line.new.text)
    c.loop-row-test.true c.deref.ensures.value before.lines before.added c.in_ok-push_row_line.ensures.ok in
    record { done = next.0; lines = next.1; added = next.2 }

pub returns-clause-ok : goal.returns-clause-ok
returns-clause-ok c =
    let before = c.loop-row.invariant in
    let set = draft_tree c.args.set.now in
    let none = drop_all c.loop-row.row-index c.args.rows.now (omega (arith, c.loop-row-test.false)) in
    let all = before.lines ∙ (ap (λ (rows : TableState). before.done ++ row_lines set rows) none ∙ append-nil before.done) in
    subst (λ lines. AddsLines lines (string_bytes c.args.out.now) (string_bytes c.loop-row.out)) (sym all) before.added
