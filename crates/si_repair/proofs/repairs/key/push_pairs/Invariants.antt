use Rattle.std.proofs.Common.{◌≡◌, ◌++◌}
use Rattle.si_repair.specs.Key.{params_with}
use Rattle.si_repair.proofs.repairs.key.push_pairs.Given as goal

abbrev pub invariant-loop-second : goal.invariant-loop-second
invariant-loop-second l = l.pairs.items ≡ l.fn.pairs.items ++ params_with l.first l.second
