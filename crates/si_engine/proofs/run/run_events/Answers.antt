use Rattle.std.proofs.Common.{[], ◌∷◌, ◌++◌, ◌∙◌, ap, refl, rules, subst, sym, string_bytes, Err}
use Rattle.std.proofs.KnownBytes.{Appends-nil}
use Rattle.std.proofs.lemmas.Result.{err_from_is_err_and}
use Rattle.prog_tree.specs.Tree.{draft_tree}
use Rattle.si_engine.specs.Events.{next_event}
use Rattle.si_engine.specs.Machine.{Machine, machine_step, machine_after}
use Rattle.si_engine.specs.Runs.{event_lines, MakesLines}
use Rattle.si_engine.specs.Printed.{reply_line}
use Rattle.si_engine.specs.declared.input.part_fault.PartFault.TheVariants as fault
use Rattle.si_engine.specs.declared.input.source.InputFault.TheVariants as input_fault
use Rattle.si_engine.specs.Writing.{IsUnderWay}
use Rattle.si_engine.proofs.OutputLaws.{adds_line, adds_none}
use Rattle.si_engine.proofs.RunLaws.{next_lines, first_after}
use Rattle.si_engine.proofs.RunsUnderWay.{events_cut, events_stop}
use Rattle.si_engine.proofs.SinkLaws.{cut_off, fewer_wait, has_front, more_waits}
use Rattle.si_engine.proofs.run.run_events.Goals as goal

pub returns-then-failed-clause-lines : goal.returns-then-failed-clause-lines
returns-then-failed-clause-lines g c =
    let lines = event_lines (draft_tree c.args.set.now) c.args.engine.now.opening c.args.events.now c.args.engine.now.machine in
    let before = string_bytes c.args.out.now in
    let taken = g.K.Sink.taken c.args.sink.now in
    has_front (MakesLines lines before) before before (g.K.Sink.has_failed c.args.sink.now) taken taken (Err (fault.Input input_fault.Memory)) _ (search rules)
    (refl, adds_none lines before) (0, Appends-nil taken)

pub loop-next-init : goal.loop-next-init
loop-next-init g c =
    let set = draft_tree c.args.set.now in
    let opening = c.args.engine.now.opening in
    record {
      same_set = refl;
      same_opening = refl;
      after = ap (λ events. machine_after set opening events c.args.engine.now.machine) c.reader-rest.ensures;
      done = [];
      lines = ap (λ events. event_lines set opening events c.args.engine.now.machine) (sym c.reader-rest.ensures);
      text = string_bytes c.args.out.now;
      added = search rules;
      under_way = search rules;
      working = search rules;
    }

pub write_when_long-requires : goal.write_when_long-requires
write_when_long-requires g c = c.loop-next.invariant.working

pub returns-in_err-write_when_long-clause-lines : goal.returns-in_err-write_when_long-clause-lines
returns-in_err-write_when_long-clause-lines g c =
    let so_far = c.loop-next.invariant in
    events_cut _ so_far.done _ _ so_far.text _ _ _ _ so_far.lines so_far.added _ (search rules)
    (cut_off (string_bytes c.loop-next.out) so_far.text _ _ _ so_far.under_way c.in_err-write_when_long.ensures.first)

pub returns-in_err-answer_next-clause-lines : goal.returns-in_err-answer_next-clause-lines
returns-in_err-answer_next-clause-lines g c =
    let so_far = c.loop-next.invariant in
    let way = fewer_wait (string_bytes c.loop-next.out) (string_bytes c.write_when_long.new.text) so_far.text _ _ _ so_far.under_way c.in_ok-write_when_long.ensures.waits in
    let old = g.K.Sink.taken c.args.sink.now in
    let new = g.K.Sink.taken c.write_when_long.new.sink in
    let same = subst (λ w. IsUnderWay w old new so_far.text) (sym c.in_err-answer_next.ensures.err) way in
    let exit = err_from_is_err_and c.from_residual-in_err-answer_next.result c.from_residual-in_err-answer_next.ensures.1 in
    rw (exit.1, exit.2) (events_stop _ so_far.done _ _ so_far.text _ _ _ _ so_far.lines so_far.added (search rules) same)

pub loop-next-preserved : goal.loop-next-preserved
loop-next-preserved g c =
    let so_far = c.loop-next.invariant in
    let answered = c.in_ok-answer_next.ensures in
    let set = draft_tree c.args.set.now in
    let opening = c.args.engine.now.opening in
    let event = next_event c.in-Some.next in
    let later = c.next.new.self in
    let machine = c.loop-next.engine.machine in
    let step = machine_step set opening event machine in
    let line = reply_line set.tables event step.0 in
    let same_step =
    ap (λ d. machine_step (draft_tree d) c.loop-next.engine.opening event machine) (so_far.same_set ∙ c.requires)
    ∙ ap (λ o. machine_step set o event machine) so_far.same_opening in
    let moved = ap (λ (m : Machine). (step.0, m)) (answered.answer.0 ∙ ap (λ s. s.1) same_step) in
    let waited = string_bytes c.write_when_long.new.text in
    let written = answered.answer.1 ∙ ap (λ s. waited ++ reply_line set.tables event s.0) same_step in
    let way = fewer_wait (string_bytes c.loop-next.out) waited so_far.text _ _ _ so_far.under_way c.in_ok-write_when_long.ensures.waits in
    record {
      same_set = answered.over.0 ∙ so_far.same_set;
      same_opening = answered.over.1 ∙ so_far.same_opening;
      after =
          sym (first_after set opening event later machine c.answer_next.new.engine.machine step.0 moved)
          ∙ (ap (λ events. machine_after set opening events machine) (sym c.in-Some.ensures) ∙ so_far.after);
      done = so_far.done ++ line ∷ [];
      lines =
          next_lines set opening event later machine c.answer_next.new.engine.machine step.0 moved _ so_far.done
          (so_far.lines ∙ ap (λ events. so_far.done ++ event_lines set opening events machine) c.in-Some.ensures);
      text = so_far.text ++ line;
      added = adds_line so_far.done line (string_bytes c.args.out.now) so_far.text (so_far.text ++ line) so_far.added refl;
      under_way = more_waits waited line (string_bytes c.answer_next.new.out) so_far.text _ _ written way;
      working = search rules;
    }
