use Rattle.std.proofs.Common.{ap, sym, ◌∙◌, if◌then◌else◌}
use Rattle.si_workers.specs.KeptAndTold.{is_clash_of}
use Rattle.si_workers.specs.Keys.{call_at}
use Rattle.si_workers.proofs.KeyLemmas.{call_noted}
use Rattle.si_workers.proofs.notes.EndingNotesCallKey.noted.Goals as goal

pub returns-in-Clashed : goal.returns-in-Clashed
returns-in-Clashed c = λ q.
    call_noted c.row.result q _ 1 c.row.ensures
    ∙ ap (λ e. if is_clash_of (call_at q) e then 1 else 0) (sym c.in-Clashed.is)
