use Rattle.std.proofs.Common.{ap, sym, ◌∙◌, if◌then◌else◌}
use Rattle.std.specs.Prelude.{option_copied}
use Rattle.si_workers.specs.Calls.{call_of, is_same_call}
use Rattle.si_workers.specs.KeptAndTold.{tries_in}
use Rattle.si_workers.specs.Keys.{call_at}
use Rattle.si_workers.proofs.KeyLemmas.{call_noted}
use Rattle.si_workers.proofs.notes.TidingNotesCallKey.noted.Goals as goal

pub returns : goal.returns
returns c = λ q.
    call_noted c.job.result q _ c.in_ok-outcome.outcome.now.clashes (c.job.ensures ∙ ap (λ t. call_of t.0) c.self.view_is)
    ∙ ap (λ o. if is_same_call (call_at q) (call_of c.args.self.now.0) then tries_in o else 0) (sym (ap option_copied c.in_ok-outcome.was) ∙ c.outcome.ensures)
