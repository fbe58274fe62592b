use Rattle.std.proofs.Common.{◌<◌, ◌+◌, below_more, rules}
use Rattle.si_workers.specs.KeptAndTold.{commits_told}
use Rattle.si_workers.proofs.comparing.are_all_commits_told.Goals as goal

pub loop-n-preserved : goal.loop-n-preserved
loop-n-preserved c = below_more (λ m. 0 < commits_told (m + 1) c.args.counts.now.tidings) c.loop-n.n c.loop-n.invariant (c.is_named.ensures.0 (search rules))
