use Rattle.std.proofs.Common.{◌≡◌, ◌∙◌, false, true, refl, ap, rules, sym, subst}
use Rattle.std.proofs.lemmas.Result.{err_from_is_err_and}
use Rattle.prog_tree.specs.Tree.{draft_tree}
use Rattle.sirob.specs.declared.command_line.Mode.{Mode}
use Rattle.sirob.specs.declared.command_line.Mode.TheVariants.{Verify, Run, Audit}
use Rattle.sirob.specs.Stops.{IsInputDone, WritesWithEnd}
use Rattle.sirob.proofs.StopLaws.{input_stopped, stops_at_once, fault_up_to_text, done_of_part}
use Rattle.sirob.proofs.run_command.part_input.Goals as goal

pub returns-in_err-set : goal.returns-in_err-set
returns-in_err-set g c =
    let exit = err_from_is_err_and c.from_residual.result c.from_residual.ensures.1 in
    let mode = c.args.mode in
    let input = c.args.input.now in
    let f = c.in_err-set.field-0.0 in
    rw (exit.1, exit.2)
    (input_stopped mode input f _ _ c.requires.working
    (stops_at_once mode input f (λ no_memory. fault_up_to_text mode 2 input f c.requires.two (c.in_err-set.ensures.err no_memory))))

pub returns-in-Verify : goal.returns-in-Verify
returns-in-Verify g c =
    let input = c.args.input.now in
    let sink = c.verify_part.new.sink in
    subst (λ (m : Mode). WritesWithEnd (IsInputDone m input) (g.K.Sink.has_failed sink) (g.K.Sink.taken c.args.sink.now) (g.K.Sink.taken sink) c.verify_part.result) (sym c.in-Verify.is)
    (done_of_part Verify input (draft_tree c.in_ok-set.field-0.set) c.in_ok-set.field-0.part.now _ _ _ _ refl c.in_ok-set.ensures.ok c.verify_part.ensures)

pub returns-in-Run-false : goal.returns-in-Run-false
returns-in-Run-false g c =
    let flag : c.in-Run-false.robust ≡ false = search rules in
    let input = c.args.input.now in
    let sink = c.run_part.new.sink in
    subst (λ (m : Mode). WritesWithEnd (IsInputDone m input) (g.K.Sink.has_failed sink) (g.K.Sink.taken c.args.sink.now) (g.K.Sink.taken sink) c.run_part.result) (sym (c.in-Run-false.is ∙ ap Run flag))
    (done_of_part (Run false) input (draft_tree c.in_ok-set.field-0.set) c.in_ok-set.field-0.part.now _ _ _ _ refl c.in_ok-set.ensures.ok c.run_part.ensures)

pub returns-in-Run-true : goal.returns-in-Run-true
returns-in-Run-true g c =
    let flag : c.in-Run-true.robust ≡ true = search rules in
    let input = c.args.input.now in
    let sink = c.run_robust_part.new.sink in
    subst (λ (m : Mode). WritesWithEnd (IsInputDone m input) (g.K.Sink.has_failed sink) (g.K.Sink.taken c.args.sink.now) (g.K.Sink.taken sink) c.run_robust_part.result) (sym (c.in-Run-true.is ∙ ap Run flag))
    (done_of_part (Run true) input (draft_tree c.in_ok-set.field-0.set) c.in_ok-set.field-0.part.now _ _ _ _ refl c.in_ok-set.ensures.ok c.run_robust_part.ensures)

pub returns-in-Audit : goal.returns-in-Audit
returns-in-Audit g c =
    let input = c.args.input.now in
    let sink = c.audit_part.new.sink in
    subst (λ (m : Mode). WritesWithEnd (IsInputDone m input) (g.K.Sink.has_failed sink) (g.K.Sink.taken c.args.sink.now) (g.K.Sink.taken sink) c.audit_part.result) (sym c.in-Audit.is)
    (done_of_part Audit input (draft_tree c.in_ok-set.field-0.set) c.in_ok-set.field-0.part.now _ _ _ _ refl c.in_ok-set.ensures.ok c.audit_part.ensures)
