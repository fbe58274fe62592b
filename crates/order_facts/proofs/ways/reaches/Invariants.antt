use Rattle.std.proofs.Common.{◌≡◌, ℕ, ◌<◌, true}
use Rattle.order_facts.specs.Reaches.{is_below, reaches, fact_at}
use Rattle.order_facts.proofs.ways.reaches.Given as goal

abbrev pub invariant-loop-from : goal.invariant-loop-from
invariant-loop-from l = (k : ℕ) → k < l.from → is_below l.x (fact_at l.facts k).lo ≡ true → reaches l.facts (fact_at l.facts k).hi l.y ≡ true → ⊥
