use Rattle.std.proofs.Common.{refl, arith, below_more}
use Rattle.std.proofs.lemmas.Bool.{false≢true}
use Rattle.order_facts.specs.Reaches.{HasOrderlyRow}
use Rattle.order_facts.proofs.Places.{IsConsistent-from_rows, not-IsConsistent}
use Rattle.order_facts.proofs.ways.is_orderly.Goals as goal

pub returns-then-not-row_is_orderly-clause-consistent : goal.returns-then-not-row_is_orderly-clause-consistent
returns-then-not-row_is_orderly-clause-consistent c = (λ t. absurd (false≢true t), λ h. absurd (not-IsConsistent c.args.facts.now (c.row_is_orderly.ensures.contradiction c.if-not-row_is_orderly.true) h))

pub loop-from-preserved : goal.loop-from-preserved
loop-from-preserved c = below_more (HasOrderlyRow c.args.facts.now) _ c.loop-from.invariant (c.row_is_orderly.ensures.orderly c.if-not-row_is_orderly.false)

pub returns-clause-consistent : goal.returns-clause-consistent
returns-clause-consistent c = (λ _. IsConsistent-from_rows c.args.facts.now (λ k h. c.loop-from.invariant k (omega arith)), λ _. refl)
