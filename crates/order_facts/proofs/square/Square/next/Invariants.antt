use Rattle.std.proofs.Common.{◌≡◌, ℕ, ◌<◌, ◌≤◌, ◌-◌, false}
use Rattle.order_facts.specs.Words.{row_bit}
use Rattle.order_facts.proofs.square.Square.next.Given as goal

-- nothing before is joined
abbrev pub invariant-loop-at : goal.invariant-loop-at
invariant-loop-at l = record {
  on : l.start ≤ l.at;
  none : (to : ℕ) → l.start ≤ to → to < l.at → row_bit l.self-inside.width l.self-inside.words.items l.from to ≡ false;
}

abbrev pub decreases-loop-at : goal.decreases-loop-at
decreases-loop-at l = l.self-inside.size - l.at
