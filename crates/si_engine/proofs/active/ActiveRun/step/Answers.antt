use Rattle.std.proofs.Common.{◌≡◌, ap, sym, subst, refl, ◌∙◌, rules, true}
use Rattle.std.specs.Prelude.{Some}
use Rattle.std.specs.Box.{with_value}
use Rattle.prog_tree.specs.declared.deed.End.TheVariants.{Ready, Aborted}
use Rattle.prog_run.specs.declared.next.Next.TheVariants.{Done}
use Rattle.prog_run.specs.Step.{deeds_after, end_after}
use Rattle.prog_run.specs.View.{RunView}
use Rattle.si_engine.specs.View.{instance_in, active_in, IsActive, IsHeld}
use Rattle.si_engine.specs.declared.active.ActiveRun.{ActiveRun}
use Rattle.si_engine.specs.declared.event.Reply.TheVariants as reply
use Rattle.si_engine.proofs.HeldLaws.{instance_stays, did_step, did_held, ready_step, aborted_step, aborted_held, active_stays}
use Rattle.si_engine.proofs.active.ActiveRun.step.Goals as goal

pub end-requires-clause-active : goal.end-requires-clause-active
end-requires-clause-active c =
    let v = c.args.book.now in
    let a : ActiveRun = c.args.self in
    let run = c.advance.new.run in
    let was = c.deref_mut.ensures.value in
    let own = c.advance.ensures.own in
    let aborted = c.in-Ok-Done-Aborted in
    let next = aborted.field-0-is ∙ ap Done aborted.field-0-0-is in
    let over : run.end ≡ Some (Aborted aborted.cause) = aborted.ensures.ok.end ∙ ap end_after next in
    let held = aborted_held v a _ run was c.requires.held own aborted.cause over in
    subst (λ b. IsActive b (record a { run = with_value a.run run })) (sym c.advance.ensures.same)
    (active_stays v a (record a { run = with_value a.run run }) c.requires refl (instance_stays v a _ run was c.requires.held own) held)

pub returns-in-Ok-Did : goal.returns-in-Ok-Did
returns-in-Ok-Did c =
    let v = c.args.book.now in
    let a : ActiveRun = c.args.self in
    let run = c.advance.new.run in
    let was : c.deref_mut.result.now ≡ a.run.value = c.deref_mut.ensures.value in
    let own = c.advance.ensures.own in
    let did = c.in-Ok-Did in
    let more = did.ensures.ok.deeds ∙ (λ j. deeds_after (did.field-0-is j) (was j).deeds) in
    record {
      step = did_step v a _ run was c.requires.held own did.deed more;
      after = (c.advance.ensures.same, did_held v a _ run was c.requires.held own did.deed more, instance_stays v a _ run was c.requires.held own);
      err = search rules;
    }

pub returns-in-Ok-from_slice-clause-step : goal.returns-in-Ok-from_slice-clause-step
returns-in-Ok-from_slice-clause-step c =
    let a : ActiveRun = c.args.self in
    let run = c.advance.new.run in
    let was : c.deref_mut.result.now ≡ a.run.value = c.deref_mut.ensures.value in
    let ready = c.in-Ok-Done-Ready in
    let next = ready.field-0-is ∙ ap Done ready.field-0-0-is in
    let no_more = ready.ensures.ok.deeds ∙ (λ j. deeds_after (next j) (was j).deeds) in
    let over : run.end ≡ Some Ready = ready.ensures.ok.end ∙ ap end_after next in
    let replies : c.in-Ok-from_slice.replies ≡ run.replies = c.in-Ok-from_slice.ensures ∙ c.replies.ensures ∙ ap (λ (r : RunView). r.replies) c.deref.ensures in
    let step = ready_step c.args.book.now a _ run was c.requires.held c.advance.ensures.own no_more over in
    ap (λ rs. (reply.Ready rs, Some (active_in (record a { run = with_value a.run run; ready = true })))) replies ∙ step

pub returns-in-Ok-end-clause-step : goal.returns-in-Ok-end-clause-step
returns-in-Ok-end-clause-step c =
    let a : ActiveRun = c.args.self in
    let run = c.advance.new.run in
    let was : c.deref_mut.result.now ≡ a.run.value = c.deref_mut.ensures.value in
    let aborted = c.in-Ok-Done-Aborted in
    let next = aborted.field-0-is ∙ ap Done aborted.field-0-0-is in
    let no_more = aborted.ensures.ok.deeds ∙ (λ j. deeds_after (next j) (was j).deeds) in
    let over : run.end ≡ Some (Aborted aborted.cause) = aborted.ensures.ok.end ∙ ap end_after next in
    aborted_step c.args.book.now a _ run was c.requires.held c.advance.ensures.own aborted.cause no_more over

pub returns-in-Err-end-clause-after : goal.returns-in-Err-end-clause-after
returns-in-Err-end-clause-after c =
    let v = c.args.book.now in
    let a : ActiveRun = c.args.self in
    let run = c.advance.new.run in
    let was = c.deref_mut.ensures.value in
    let own = c.advance.ensures.own in
    let aborted = c.in-Ok-Done-Aborted in
    let b : ActiveRun = record a { run = with_value a.run run } in
    let next = aborted.field-0-is ∙ ap Done aborted.field-0-0-is in
    let over : run.end ≡ Some (Aborted aborted.cause) = aborted.ensures.ok.end ∙ ap end_after next in
    let held : IsHeld v a.ticket.number b = aborted_held v a _ run was c.requires.held own aborted.cause over in
    let same = instance_stays v a _ run was c.requires.held own in
    let back : c.in-Err-end.back ≡ b = c.in-Err-end.ensures.err in
    (c.in-Err-end.ensures.err_book ∙ c.advance.ensures.same, subst (IsHeld v a.ticket.number) (sym back) held, ap instance_in back ∙ same)
