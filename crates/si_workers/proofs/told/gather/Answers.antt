use Rattle.std.specs.Prelude.{flat_map}
use Rattle.si_workers.proofs.GatherLaws.{told-long, told-of}
use Rattle.si_workers.proofs.told.gather.Goals as goal

pub tidings-requires : goal.tidings-requires
tidings-requires c =
    told-long c.args.jobs.now c.in_ok-told.told.items (flat_map (λ one. one.reports.items) c.args.done.items) c.in_ok-told.ensures

pub returns : goal.returns
returns c =
    told-of c.args.jobs.now c.in_ok-told.told.items (flat_map (λ one. one.reports.items) c.args.done.items) c.in_ok-gathered.gathered.items
    c.in_ok-told.ensures c.in_ok-gathered.ensures.jobs c.in_ok-gathered.ensures.told
