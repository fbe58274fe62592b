use Rattle.std.proofs.Common.{◌≡◌, List, ◌++◌, ℕ, ◌∙◌, subst, string_bytes}
use Rattle.std.proofs.lemmas.Result.{err_from_is_err_and, on_err_weaker, IfOk-weaker}
use Rattle.prog_tree.specs.Tree.{draft_tree}
use Rattle.history_book.specs.View.{history_of}
use Rattle.si_engine.specs.LastLine.{IsLastLine}
use Rattle.si_engine.specs.Runs.{end_lines, AddsLines, AddsEnd, AddsFirst}
use Rattle.si_engine.proofs.OutputLaws.{adds_all, adds_line}
use Rattle.si_engine.proofs.RunLaws.{rows_left}
use Rattle.si_engine.proofs.output.finding.push_findings_before.Goals as goal

pub returns-in_err-push_rows-clause-err : goal.returns-in_err-push_rows-clause-err
returns-in_err-push_rows-clause-err g c =
    let exit = err_from_is_err_and c.from_residual-in_err-push_rows.result c.from_residual-in_err-push_rows.ensures.1 in
    let rows = rows_left c.args.book.now c.draft.result.now c.as_slice.result.now (c.draft.ensures.same ∙ c.set.ensures) (c.as_slice.ensures ∙ c.in_ok-table.ensures) in
    rw (exit.1) (subst (λ (lines : List (List ℕ)). AddsFirst lines (string_bytes c.args.out.now) (string_bytes c.push_rows.new.out)) rows c.in_err-push_rows.ensures.err)

pub returns-clause-err : goal.returns-clause-err
returns-clause-err g c =
    let rows = rows_left c.args.book.now c.draft.result.now c.as_slice.result.now (c.draft.ensures.same ∙ c.set.ensures) (c.as_slice.ensures ∙ c.in_ok-table.ensures) in
    on_err_weaker c.push_order.result
    (adds_all (end_lines (draft_tree c.args.book.now.set) c.args.book.now.opening (history_of c.args.book.now.rows)) _ _ _
    (subst (λ (lines : List (List ℕ)). AddsLines lines (string_bytes c.args.out.now) (string_bytes c.push_rows.new.out)) rows c.in_ok-push_rows.ensures.ok))
    c.push_order.ensures.err

pub returns-clause-ok : goal.returns-clause-ok
returns-clause-ok g c =
    let book = c.args.book.now in
    let set = draft_tree book.set in
    let h = history_of book.rows in
    let old = string_bytes c.args.out.now in
    let before = string_bytes c.push_rows.new.out in
    let new = string_bytes c.push_order.new.out in
    let rows = rows_left book c.draft.result.now c.as_slice.result.now (c.draft.ensures.same ∙ c.set.ensures) (c.as_slice.ensures ∙ c.in_ok-table.ensures) in
    let added = subst (λ (lines : List (List ℕ)). AddsLines lines old before) rows c.in_ok-push_rows.ensures.ok in
    IfOk-weaker c.push_order.result
    (λ finding. (last : List ℕ) × IsLastLine set book.opening h finding last × (new ≡ before ++ last))
    (λ finding. AddsEnd set book.opening h finding old new)
    (λ finding ended. (ended.0, ended.1, adds_line (end_lines set book.opening h) ended.0 old before new added ended.2))
    c.push_order.ensures.ok
