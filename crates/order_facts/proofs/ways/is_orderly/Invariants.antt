use Rattle.std.proofs.Common.{ℕ, ◌<◌}
use Rattle.order_facts.specs.Reaches.{HasOrderlyRow}
use Rattle.order_facts.proofs.ways.is_orderly.Given as goal

abbrev pub invariant-loop-from : goal.invariant-loop-from
invariant-loop-from l = (k : ℕ) → k < l.from → HasOrderlyRow l.facts k
