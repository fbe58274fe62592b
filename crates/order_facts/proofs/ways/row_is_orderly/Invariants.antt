use Rattle.std.proofs.Common.{◌≡◌, ℕ, ◌<◌, ◌≤ℤ◌, ◌⊎◌, true}
use Rattle.order_facts.specs.Chain.{floor_of, ceiling_of}
use Rattle.order_facts.specs.Reaches.{reaches, fact_at}
use Rattle.order_facts.proofs.ways.row_is_orderly.Given as goal

abbrev pub invariant-loop-to : goal.invariant-loop-to
invariant-loop-to l = (k : ℕ) → k < l.to → (k ≡ l.from) ⊎ (reaches l.facts (fact_at l.facts l.from).hi (fact_at l.facts k).lo ≡ true) → floor_of (fact_at l.facts l.from).lo ≤ℤ ceiling_of (fact_at l.facts k).hi
