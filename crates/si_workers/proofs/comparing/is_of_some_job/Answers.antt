use Rattle.std.proofs.Common.{◌↔◌, ◌<◌, sym, subst}
use Rattle.std.specs.Prelude.{IsTrue}
use Rattle.history_book.specs.declared.instances.row.Ending.{Ending}
use Rattle.si_engine.specs.Headline.{Call}
use Rattle.si_workers.specs.KeptAndTold.{aborts_told}
use Rattle.si_workers.specs.Outcomes.{IsOfSomeJob}
use Rattle.si_workers.proofs.comparing.is_of_some_job.Goals as goal

pub returns-in-Aborted : goal.returns-in-Aborted
returns-in-Aborted c =
    let r = c.is_abort_told.result in
    let T = c.args.counts.now.tidings in
    subst (λ (e : Ending). IsTrue r ↔ IsOfSomeJob T e) (sym c.in-Aborted.is)
    (subst (λ (call : Call). IsTrue r ↔ (0 < aborts_told call c.in-Aborted.cause T)) c.row.ensures c.is_abort_told.ensures)
