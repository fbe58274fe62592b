use Rattle.std.proofs.Common.{◌≡◌, ◌∷◌, [], ◌++◌, length, ap, sym, ◌∙◌, subst, false, arith, rules}
use Rattle.std.specs.Prelude.{slice_get, Some}
use Rattle.prog_tree.specs.declared.program.Draft.{Draft}
use Rattle.prog_tree.specs.Tree.{draft_tree}
use Rattle.prog_run.specs.View.{begun}
use Rattle.si_engine.specs.Machine.{begin_at_by}
use Rattle.si_engine.specs.View.{EngineView, machine_of, IsEngine}
use Rattle.si_engine.specs.declared.event.Reply.TheVariants as reply
use Rattle.si_engine.proofs.BeginLaws.{begin_refused, begin_lacks, begin_made, engine-begun}
use Rattle.si_engine.proofs.engine.Engine.begin_at.Goals as goal

pub returns-in-Some : goal.returns-in-Some
returns-in-Some c =
    let e = c.self.inside in
    record {
      over = search rules;
      step =
          subst (λ (x : EngineView). (c.in_ok-reply.reply, x.machine) ≡ begin_at_by (slice_get (draft_tree x.set).programs c.args.program) x.machine c.args.start c.args.program c.args.args.now)
          c.self.view_is
          (begin_refused e.book e.begun.items c.self.invariant c.args.start c.args.program c.args.args.now c.in-Some.fault c.in_ok-reply.reply (sym c.in-Some.ensures) c.in_ok-reply.ensures.ok);
      err = search rules;
      memory = search rules;
    }

pub returns-in_err-run : goal.returns-in_err-run
returns-in_err-run c =
    let e = c.self.inside in
    begin_lacks e.book e.begun.items c.self.invariant c.args.start c.args.program c.args.args.now (sym c.in_default.ensures) c.self.view_is
    (search rules) (search rules) (search rules)

pub returns-in_err-reserve : goal.returns-in_err-reserve
returns-in_err-reserve c =
    let e = c.self.inside in
    begin_lacks e.book e.begun.items c.self.invariant c.args.start c.args.program c.args.args.now (sym c.in_default.ensures) c.self.view_is
    (search rules) (search rules) (search rules)

pub returns-in_err-ticket : goal.returns-in_err-ticket
returns-in_err-ticket c =
    let e = c.self.inside in
    begin_lacks e.book e.begun.items c.self.invariant c.args.start c.args.program c.args.args.now (sym c.in_default.ensures) c.self.view_is
    (search rules) (search rules) (search rules)

pub invariant_of-self-2 : goal.invariant_of-self-2
invariant_of-self-2 c =
    let e = c.self.inside in
    let run = c.in_ok-run.run' in
    let ticket = c.in_ok-ticket.ticket in
    let run_program = ap (λ (d : Draft). slice_get d.programs.items c.args.program) (sym c.set.ensures) ∙ c.in_ok-run.ensures.program in
    let run_is = c.in_ok-run.ensures.begun ∙ ap (λ (d : Draft). begun d.tables.items run.value.program c.args.args.now) c.set.ensures in
    let made =
    engine-begun e.book e.begun.items c.self.invariant c.args.start c.args.program c.args.args.now (sym c.in_default.ensures) run ticket run_program run_is
    c.in_ok-ticket.ensures.ticket c.admit.new.self c.in_ok-ticket.ensures.begun in
    let pushed = c.push_reserved.ensures.items ∙ ap (λ ps. ps ++ Some (record { program = c.args.program; ticket = ticket; run = run; ready = false }) ∷ []) c.in_ok-reserve.ensures.items in
    subst (IsEngine c.admit.new.self) (sym pushed) made

pub returns : goal.returns
returns c =
    let e = c.self.inside in
    let w = c.admit.new.self in
    let run = c.in_ok-run.run' in
    let ticket = c.in_ok-ticket.ticket in
    let run_program = ap (λ (d : Draft). slice_get d.programs.items c.args.program) (sym c.set.ensures) ∙ c.in_ok-run.ensures.program in
    let run_is = c.in_ok-run.ensures.begun ∙ ap (λ (d : Draft). begun d.tables.items run.value.program c.args.args.now) c.set.ensures in
    let made =
    begin_made e.book e.begun.items c.self.invariant c.args.start c.args.program c.args.args.now (sym c.in_default.ensures) run ticket run_program run_is
    c.in_ok-ticket.ensures.ticket w c.in_ok-ticket.ensures.begun in
    let pushed = c.push_reserved.ensures.items ∙ ap (λ ps. ps ++ Some (record { program = c.args.program; ticket = ticket; run = run; ready = false }) ∷ []) c.in_ok-reserve.ensures.items in
    let number : c.len-instance.result ≡ length e.begun.items = omega arith in
    record {
      over = search rules;
      step =
          subst (λ (x : EngineView). (reply.Begun c.len-instance.result c.args.start, machine_of w c.push_reserved.new.self.items) ≡ begin_at_by (slice_get (draft_tree x.set).programs c.args.program) x.machine c.args.start c.args.program c.args.args.now)
          c.self.view_is
          (ap (λ n. (reply.Begun n c.args.start, machine_of w c.push_reserved.new.self.items)) number
          ∙ ap (λ ps. (reply.Begun (length e.begun.items) c.args.start, machine_of w ps)) pushed
          ∙ made);
      err = search rules;
      memory = search rules;
    }
