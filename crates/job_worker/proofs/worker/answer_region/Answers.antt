use Rattle.std.proofs.Common.{◌∙◌, ap, subst, sym}
use Rattle.std.specs.Option.{option_copied}
use Rattle.std.specs.Prelude.{Option}
use Rattle.prog_tree.specs.Table.{TableState}
use Rattle.prog_run.specs.Looks.{IsFoundLast}
use Rattle.prog_run.specs.View.{asked_region}
use Rattle.history_book.proofs.ReplayLaws.{answered_region, found_region}
use Rattle.job_worker.specs.KnownStates.{AreRowsOf}
use Rattle.job_worker.proofs.FoundLaws.{rows-of-last, still-known}
use Rattle.job_worker.proofs.FoundLaws.{no_fault}
use Rattle.job_worker.proofs.worker.answer_region.Goals as goal

pub answer_rows-requires : goal.answer_rows-requires
answer_rows-requires g c =
    let run = c.args.run.now in
    let region = c.args.region.now in
    let last = subst (λ (o : Option TableState). IsFoundLast run.looks region o) (ap option_copied c.in-Some.is) c.rows_again.ensures.last in
    let of_last = rows-of-last _ c.args.ticket.now.start run region c.in-Some.rows.now c.requires.found last c.in-Some.ensures.held in
    no_fault run.asked region c.in_ok-shared.shared (ap asked_region c.requires.asked) (subst (AreRowsOf region) (sym c.in_ok-shared.ensures) of_last)

pub answer_rows-requires-2 : goal.answer_rows-requires-2
answer_rows-requires-2 g c = no_fault c.args.run.now.asked c.args.region.now c.in_ok-rows.rows (ap asked_region c.requires.asked) c.in_ok-rows.ensures.rows

pub returns-in-Some-clause-found : goal.returns-in-Some-clause-found
returns-in-Some-clause-found g c =
    let old = c.args.run.now in
    let new = c.answer_rows.new.self in
    let region = c.args.region.now in
    let rows = c.in_ok-shared.shared in
    let last = subst (λ (o : Option TableState). IsFoundLast old.looks region o) (ap option_copied c.in-Some.is) c.rows_again.ensures.last in
    record {
      found = λ m at.
          let before = c.requires.found.found m at in
          found_region m old new region rows c.in_ok-answer_rows.field-0 (c.in_ok-shared.ensures ∙ c.in-Some.ensures.held m before) before
          (answered_region old new region rows c.in_ok-answer_rows.field-0 c.requires.asked c.in_ok-answer_rows.ensures.answered);
      known = λ some. still-known _ c.args.ticket.now.start old region c.in-Some.rows.now c.requires.found last;
    }

pub returns-clause-found : goal.returns-clause-found
returns-clause-found g c = record {
  found = λ m at.
      let old = c.args.run.now in
      let new = c.answer_rows-2.new.self in
      let region = c.args.region.now in
      let rows = c.in_ok-rows.rows in
      let before = c.requires.found.found m at in
      found_region m old new region rows c.in_ok-answer_rows-2.field-0 (sym (c.in_ok-rows.ensures.held m at)) before
      (answered_region old new region rows c.in_ok-answer_rows-2.field-0 c.requires.asked c.in_ok-answer_rows-2.ensures.answered);
  known = λ some. c.in_ok-rows.ensures.seen;
}
