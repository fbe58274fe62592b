-- What was written where the last line is an order.
use Rattle.std.proofs.Common.{◌∙◌, [], ◌∷◌, ◌++◌, ap, refl}
use Rattle.std.specs.List.{concat, zip}
use Rattle.si_engine.specs.declared.robust.run.Outcome.{Outcome}
use Rattle.si_engine.specs.Headline.{commits_said, rows_of_machine}
use Rattle.si_engine.specs.Machine.{new_machine, machine_after, replies_of}
use Rattle.si_engine.specs.Runs.{event_lines, end_lines, history_of_run, LawOfWrittenOrders}
use Rattle.si_engine.proofs.HeadlineLaws.{headline}

pub law_of_written_orders : LawOfWrittenOrders
law_of_written_orders set script written run =
    let finding = run.1 in
    let numbers = finding.0 in
    let replies = replies_of set script.rows script.events new_machine in
    let machine = machine_after set script.rows script.events new_machine in
    let o : Outcome = record {
      replies = replies;
      committed = commits_said (zip script.events replies);
      order = numbers;
      table = rows_of_machine set script.rows machine;
    } in
    let events = event_lines set script.rows script.events new_machine in
    let rows = end_lines set script.rows (history_of_run set script) in (
      o,
      headline set script.rows script.events o refl refl refl finding.1.1,
      finding.1.0,
      run.2 ∙ ap (λ last. concat (events ++ rows ++ last ∷ [])) finding.2,
    )
