use Rattle.std.proofs.Common.{◌++◌, ◌∙◌, List, ℕ, ap}
use Rattle.std.specs.List.{concat}
use Rattle.prog_tree.specs.Tree.{draft_tree}
use Rattle.si_engine.specs.Runs.{row_lines}
use Rattle.si_engine.proofs.RunLaws.{rows_left}
use Rattle.sirob.specs.Work.{ways_text}
use Rattle.sirob.proofs.commands.work.work_text.Goals as goal

pub returns : goal.returns
returns c =
    let table = c.as_slice.result.now in
    let rows = rows_left c.args.book.now c.draft.result.now table (c.draft.ensures.same ∙ c.set.ensures) (c.as_slice.ensures ∙ c.in_ok-table.ensures) in
    c.in_ok-push_rows.ensures.ok
    ∙ ap (λ (text : List ℕ). text ++ concat (row_lines (draft_tree c.draft.result.now) table)) c.in_ok-text.ensures
    ∙ ap (λ (lines : List (List ℕ)). ways_text c.args.outcomes.now ++ concat lines) rows
