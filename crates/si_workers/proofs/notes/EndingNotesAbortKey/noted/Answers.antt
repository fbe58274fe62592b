use Rattle.std.proofs.Common.{ap, sym, ◌∙◌, if◌then◌else◌}
use Rattle.si_workers.specs.KeptAndTold.{is_abort}
use Rattle.si_workers.specs.Keys.{call_at, cause_at}
use Rattle.si_workers.proofs.KeyLemmas.{abort_noted}
use Rattle.si_workers.proofs.notes.EndingNotesAbortKey.noted.Goals as goal

pub returns-in-Aborted : goal.returns-in-Aborted
returns-in-Aborted c = λ q.
    abort_noted c.of.result q _ _ 1 (ap call_at c.of.ensures.call ∙ c.row.ensures) c.of.ensures.cause
    ∙ ap (λ e. if is_abort (call_at q.call) (cause_at q.cause) e then 1 else 0) (sym c.in-Aborted.is)
