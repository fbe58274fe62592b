use Rattle.std.proofs.Common.{ℕ, ap, refl, subst}
use Rattle.std.proofs.lemmas.Result.{IfOk-weaker, on_err_weaker}
use Rattle.prog_run.specs.Step.{question_after}
use Rattle.history_book.specs.Runs.{StaysOwn}
use Rattle.history_book.specs.View.{BookView, state_in}
use Rattle.history_book.proofs.AdvanceLaws.{steps_again, stays_again, stops_again}
use Rattle.history_book.proofs.book.Book.advance.Goals as goal

pub returns-in-Get : goal.returns-in-Get
returns-in-Get c =
    let first = c.args.run.now in
    let old = c.advance.new.self in
    let new = c.advance_at.new.run in
    let asking = c.in_ok-next.next in
    let asked = ap question_after c.in-Get.is in
    let advance = c.in_ok-next.ensures.advance in
    record {
      ok = IfOk-weaker c.advance_at.result _ _ (λ next steps. steps_again asking _ next first old new asked advance steps) c.advance_at.ensures.ok;
      own = subst (λ (n : ℕ). StaysOwn (state_in c.args.self.now n) first new) c.start-start.ensures (stays_again _ first old new c.advance.ensures.same c.advance_at.ensures.own);
      err = on_err_weaker c.advance_at.result (λ stops. stops_again asking _ first old new c.advance.result asked c.in_ok-next.was advance c.advance.ensures.repeats stops) c.advance_at.ensures.err;
      same = refl;
    }

pub returns-in-Scan : goal.returns-in-Scan
returns-in-Scan c =
    let first = c.args.run.now in
    let old = c.advance.new.self in
    let new = c.advance_at-in-Scan.new.run in
    let asking = c.in_ok-next.next in
    let asked = ap question_after c.in-Scan.is in
    let advance = c.in_ok-next.ensures.advance in
    record {
      ok = IfOk-weaker c.advance_at-in-Scan.result _ _ (λ next steps. steps_again asking _ next first old new asked advance steps) c.advance_at-in-Scan.ensures.ok;
      own = subst (λ (v : BookView). StaysOwn (state_in v c.args.ticket.now.start) first new) c.prepare.ensures
          (subst (λ (n : ℕ). StaysOwn (state_in c.prepare.new.self n) first new) c.start-start.ensures (stays_again _ first old new c.advance.ensures.same c.advance_at-in-Scan.ensures.own));
      err = on_err_weaker c.advance_at-in-Scan.result (λ stops. stops_again asking _ first old new c.advance.result asked c.in_ok-next.was advance c.advance.ensures.repeats stops) c.advance_at-in-Scan.ensures.err;
      same = c.prepare.ensures;
    }
