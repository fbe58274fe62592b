use Rattle.std.proofs.Common.{sym, subst, ap, ◌∙◌, IfOk, IfSome, rules}
use Rattle.prog_tree.specs.declared.look.Look.TheVariants as look
use Rattle.prog_run.specs.declared.next.Next.TheVariants.{Get, Scan}
use Rattle.prog_run.specs.Looks.{AreFound, region_look}
use Rattle.prog_run.specs.Step.{question_after}
use Rattle.prog_run.specs.View.{IsAnswered, asked_cell}
use Rattle.history_book.specs.View.{state_in}
use Rattle.history_book.proofs.ReplayLaws.{answered_cell, answered_region, begun_as_first, found_cell, found_region, no_scan_fault, steps_behind}
use Rattle.history_book.proofs.book.Book.advance_at.Goals as goal

pub answer_rows-requires : goal.answer_rows-requires
answer_rows-requires c =
    let asked = c.in_ok-next.ensures.advance.asked ∙ ap question_after c.in-Scan.is in
    no_scan_fault (state_in c.args.self.now c.args.start) c.advance.new.self.asked c.in-Scan.region _ asked c.in_ok-rows-in-Scan.ensures

pub returns-in_ok-next-in-Get : goal.returns-in_ok-next-in-Get
returns-in_ok-next-in-Get c =
    let m = state_in c.args.self.now c.args.start in
    let old = c.advance.new.self in
    let new = c.answer_get.new.self in
    let held = c.row_at-held.result in
    let next = c.in_ok-next-in-Get.next in
    let asked = c.in_ok-next.ensures.advance.asked ∙ ap question_after c.in-Get.is in
    let before = subst (AreFound m) (sym c.in_ok-next.ensures.advance.looks) c.requires.found in
    let told = subst (λ r. IfOk r (λ next. IfSome (asked_cell old.asked) (λ cell. IsAnswered (look.One cell held) next old new))) c.in_ok-next-in-Get.ensures.ok c.answer_get.ensures.answered in
    let answered = answered_cell old new c.in-Get.cell held next asked told in
    record {
      ok = steps_behind (look.One c.in-Get.cell held) _ next _ old new (Get c.in-Get.cell) (ap question_after c.in-Get.is) c.in_ok-next.ensures.advance answered;
      own = record {
        found = found_cell m old new c.in-Get.cell held next c.row_at-held.ensures before answered;
        true_run = c.answer_get.ensures.true_run;
        same = begun_as_first _ old new c.advance.ensures.same c.answer_get.ensures.same;
      };
      err = search rules;
    }

pub returns-in_ok-next-in-Scan : goal.returns-in_ok-next-in-Scan
returns-in_ok-next-in-Scan c =
    let m = state_in c.args.self.now c.args.start in
    let old = c.advance.new.self in
    let new = c.answer_rows.new.self in
    let rows = c.in_ok-rows-in-Scan.rows in
    let next = c.in_ok-next-in-Scan.next in
    let asked = c.in_ok-next.ensures.advance.asked ∙ ap question_after c.in-Scan.is in
    let before = subst (AreFound m) (sym c.in_ok-next.ensures.advance.looks) c.requires.found in
    let answered = answered_region old new c.in-Scan.region rows next asked c.in_ok-next-in-Scan.ensures.answered in
    record {
      ok = steps_behind (region_look old.changes c.in-Scan.region rows) _ next _ old new (Scan c.in-Scan.region) (ap question_after c.in-Scan.is) c.in_ok-next.ensures.advance answered;
      own = record {
        found = found_region m old new c.in-Scan.region rows next c.in_ok-rows-in-Scan.ensures before answered;
        true_run = c.answer_rows.ensures.true_run;
        same = begun_as_first _ old new c.advance.ensures.same c.answer_rows.ensures.same;
      };
      err = search rules;
    }
