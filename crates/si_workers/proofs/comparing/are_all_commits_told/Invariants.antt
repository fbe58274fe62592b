use Rattle.std.proofs.Common.{◌<◌, ◌+◌, ℕ}
use Rattle.si_workers.specs.KeptAndTold.{commits_told}
use Rattle.si_workers.proofs.comparing.are_all_commits_told.Given as goal

abbrev pub invariant-loop-n : goal.invariant-loop-n
invariant-loop-n l = (m : ℕ) → m < l.n → 0 < commits_told (m + 1) l.counts.tidings
