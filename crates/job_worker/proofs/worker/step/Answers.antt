use Rattle.std.proofs.Common.{◌∙◌, ap, subst, sym}
use Rattle.prog_run.specs.Looks.{AreFound}
use Rattle.prog_run.specs.Step.{question_after}
use Rattle.history_book.proofs.ReplayLaws.{answered_cell, found_cell}
use Rattle.job_worker.proofs.worker.step.Goals as goal

pub returns-in_ok-answer_get-in-Get-clause-found : goal.returns-in_ok-answer_get-in-Get-clause-found
returns-in_ok-answer_get-in-Get-clause-found g c =
    let old = c.advance.new.self in
    let new = c.answer_get.new.self in
    let held = c.in_ok-held-in-Get.held in
    let next = c.in_ok-answer_get-in-Get.field-0 in
    let asked = c.in_ok-next.ensures.advance.asked ∙ ap question_after c.in-Get.is in
    let answered = answered_cell old new c.in-Get.cell held next asked c.in_ok-answer_get-in-Get.ensures.answered in
    record {
      found = λ m at.
          let before = subst (AreFound m) (sym c.in_ok-next.ensures.advance.looks) (c.requires.found m at) in
          found_cell m old new c.in-Get.cell held next (sym (c.in_ok-held-in-Get.ensures.held m at)) before answered;
      known = λ some. c.in_ok-held-in-Get.ensures.seen;
    }
