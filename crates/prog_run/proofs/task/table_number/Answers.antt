use Rattle.std.proofs.Common.{ap, ◌∙◌}
use Rattle.std.specs.Prelude.{unwrap_or, vec_len}
use Rattle.prog_tree.specs.declared.program.Draft.{Draft}
use Rattle.prog_tree.specs.Numbering.{number_of}
use Rattle.prog_run.proofs.task.table_number.Goals as goal

pub returns : goal.returns
returns c =
    let tables = c.args.set.now.tables in
    let count = c.len.ensures ∙ ap (λ (d : Draft). vec_len d.tables) c.draft.ensures.same ∙ tables.ok.0 in
    c.unwrap_or.ensures
    ∙ ap (unwrap_or c.table_number.result) count
    ∙ c.table_number.ensures.number
    ∙ ap (number_of tables.items) c.as_str.ensures
