use Rattle.std.proofs.Common.{take}
use Rattle.std.specs.List.{sum_by}
use Rattle.si_workers.specs.Tally.{TalliesNumbers}
use Rattle.si_workers.proofs.tally.NumberTally.of.Given as goal

abbrev pub invariant-loop-thing : goal.invariant-loop-thing
invariant-loop-thing g l = TalliesNumbers (λ q. sum_by (λ x. g.X.Notes.times x q) (take l.thing-index l.things)) l.tally
