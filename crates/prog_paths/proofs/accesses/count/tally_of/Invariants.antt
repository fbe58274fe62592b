use Rattle.std.proofs.Common.{take}
use Rattle.prog_paths.specs.Places.{all_from}
use Rattle.prog_paths.specs.Tally.{IsTally}
use Rattle.prog_paths.proofs.accesses.count.tally_of.Given as goal

-- the tally of the nodes so far
abbrev pub invariant-loop-path : goal.invariant-loop-path
invariant-loop-path l = IsTally l.table (all_from 0 (take l.path-index l.paths)) l.tally
