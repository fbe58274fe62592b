use Rattle.std.proofs.Common.{ap, sym, ◌∙◌, if◌then◌else◌}
use Rattle.si_workers.specs.KeptAndTold.{is_clash_on}
use Rattle.si_workers.specs.Keys.{call_at, clash_at}
use Rattle.si_workers.proofs.KeyLemmas.{clash_noted}
use Rattle.si_workers.proofs.notes.EndingNotesClashKey.noted.Goals as goal

pub returns-in-Clashed : goal.returns-in-Clashed
returns-in-Clashed c = λ q.
    clash_noted c.of.result q _ _ 1 (ap call_at c.of.ensures.call ∙ c.row.ensures) c.of.ensures.clash
    ∙ ap (λ e. if is_clash_on (call_at q.call) (clash_at q) e then 1 else 0) (sym c.in-Clashed.is)
