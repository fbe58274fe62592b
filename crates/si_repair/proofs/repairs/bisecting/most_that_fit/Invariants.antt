use Rattle.std.proofs.Common.{◌-◌, ◌<◌, ◌≤◌}
use Rattle.si_repair.proofs.repairs.bisecting.most_that_fit.Given as goal

-- the first `fitting` items fit, and the first `large` are refused
abbrev pub invariant-loop-large : goal.invariant-loop-large
invariant-loop-large g l = record {
  order : l.fitting < l.large;
  inside : l.large ≤ l.count;
  fits : g.F.Firsts.fits l.firsts l.fitting;
  refused : g.F.Firsts.is_refused l.firsts l.large;
}

abbrev pub decreases-loop-large : goal.decreases-loop-large
decreases-loop-large g l = l.large - l.fitting
