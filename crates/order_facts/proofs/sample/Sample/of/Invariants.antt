use Rattle.std.proofs.Common.{ℕ, ◌<◌}
use Rattle.std.specs.Prelude.{All}
use Rattle.order_facts.specs.Reaches.{fact_at}
use Rattle.order_facts.specs.Sample.{IsSampled, HasChoice}
use Rattle.order_facts.proofs.sample.Sample.of.Given as goal

abbrev pub invariant-loop-fact : goal.invariant-loop-fact
invariant-loop-fact l = record {
  sampled : All (λ c. IsSampled l.facts c.node c.number) l.choices.items;
  ends : (k : ℕ) → k < l.fact-index → HasChoice l.choices.items (fact_at l.facts k).lo × HasChoice l.choices.items (fact_at l.facts k).hi;
}
