use Rattle.std.proofs.Common.{◌↔◌, sym, subst, List}
use Rattle.std.specs.Prelude.{IsTrue}
use Rattle.history_book.specs.declared.instances.row.Ending.{Ending}
use Rattle.job_list.specs.declared.job.JobEnd.{JobEnd}
use Rattle.si_engine.specs.Headline.{Call}
use Rattle.si_workers.specs.Calls.{call_of}
use Rattle.si_workers.specs.Outcomes.{AreAbortsTold, IsClashKept, IsRightEnd}
use Rattle.si_workers.proofs.comparing.is_right_end.Goals as goal

pub returns-in-Aborted : goal.returns-in-Aborted
returns-in-Aborted c =
    let r = c.are_aborts_told.result in
    let T = c.args.counts.now.tidings in
    let by = c.in-Aborted.cause in
    subst (λ (e : JobEnd). IsTrue r ↔ IsRightEnd c.args.workers c.args.book.now T c.args.job.now e) (sym c.in-Aborted.is)
    (subst (λ (es : List Ending). IsTrue r ↔ AreAbortsTold es T (call_of c.args.job.now) by) c.requires.endings
    (subst (λ (call : Call). IsTrue r ↔ AreAbortsTold c.args.counts.now.endings T call by) c.job.ensures c.are_aborts_told.ensures))

pub returns-in-Clashed : goal.returns-in-Clashed
returns-in-Clashed c =
    let r = c.is_clash_kept.result in
    let on = c.in-Clashed.clash in
    subst (λ (e : JobEnd). IsTrue r ↔ IsRightEnd c.args.workers c.args.book.now c.args.counts.now.tidings c.args.job.now e) (sym c.in-Clashed.is)
    (subst (λ (es : List Ending). IsTrue r ↔ IsClashKept es (call_of c.args.job.now) on) c.requires.endings
    (subst (λ (call : Call). IsTrue r ↔ IsClashKept c.args.counts.now.endings call on) c.job-in-Clashed.ensures c.is_clash_kept.ensures))
