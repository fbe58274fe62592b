use Rattle.std.proofs.Common.{◌≡◌, ◌<◌, length, ap, slice_set, refl, sym, arith}
use Rattle.std.proofs.lemmas.Option.{slice_get_read}
use Rattle.si_workers.proofs.GatherLaws.{told-one, told-past}
use Rattle.si_workers.proofs.told.tell.Goals as goal

pub returns-then-job-len : goal.returns-then-job-len
returns-then-job-len c =
    let before = c.args.told.now.items in
    let long : length before ≡ c.args.told.now.len = sym c.args.told.now.ok.0 in
    let within : c.args.job < length before = omega (arith, c.if-job-len.true, c.len.ensures, long) in
    let found = slice_get_read before (length before) c.args.job c.index_mut.result.now refl within c.index_mut.ensures.value in
    told-one before _ c.args.job c.index_mut.result.now c.args.outcome found (ap (slice_set before c.args.job) c.add.ensures)

pub returns-else-job-len : goal.returns-else-job-len
returns-else-job-len c = told-past c.args.told.now.items c.args.job c.args.outcome (omega (arith, c.if-job-len.false, c.len.ensures, c.args.told.now.ok.0))
