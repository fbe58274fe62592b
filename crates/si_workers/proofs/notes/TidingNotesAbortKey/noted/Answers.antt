use Rattle.std.proofs.Common.{ap, sym, ◌∙◌, ◌&&◌, Bool, if◌then◌else◌}
use Rattle.std.specs.Prelude.{option_copied}
use Rattle.si_workers.specs.Calls.{call_of, is_same_call}
use Rattle.si_workers.specs.KeptAndTold.{is_aborted_by, outcome_passes}
use Rattle.si_workers.specs.Keys.{call_at, cause_at}
use Rattle.si_workers.proofs.KeyLemmas.{abort_noted}
use Rattle.si_workers.proofs.notes.TidingNotesAbortKey.noted.Goals as goal

pub returns-in-Aborted : goal.returns-in-Aborted
returns-in-Aborted c = λ q.
    let same : Bool = is_same_call (call_at q.call) (call_of c.args.self.now.0) in
    abort_noted c.of.result q _ _ 1 (ap call_at c.of.ensures.call ∙ c.job.ensures ∙ ap (λ t. call_of t.0) c.self.view_is) c.of.ensures.cause
    ∙ ap (λ e. if same && is_aborted_by (cause_at q.cause) e then 1 else 0) (sym c.in-Aborted.is)
    ∙ ap (λ o. if same && outcome_passes (is_aborted_by (cause_at q.cause)) o then 1 else 0) (sym (ap option_copied c.in_ok-outcome.was) ∙ c.outcome.ensures)
