use Rattle.std.proofs.Common.{◌≡◌, ℕ, ◌<◌, true}
use Rattle.order_facts.specs.Reaches.{is_below, reaches, fact_at}
use Rattle.order_facts.proofs.ways.leads_to.Given as goal

abbrev pub invariant-loop-to : goal.invariant-loop-to
invariant-loop-to l = (k : ℕ) → k < l.to → reaches l.facts (fact_at l.facts l.from).hi (fact_at l.facts k).lo ≡ true → is_below (fact_at l.facts k).hi l.y ≡ true → ⊥
