use Rattle.std.proofs.Common.{◌≡◌}
use Rattle.si_repair.specs.Key.{all_pairs}
use Rattle.si_repair.proofs.repairs.key.all_pairs.Given as goal

abbrev pub invariant-loop-first : goal.invariant-loop-first
invariant-loop-first l = l.pairs.items ≡ all_pairs l.first l.second_count
