use Rattle.std.proofs.Common.{sym, ◌∙◌}
use Rattle.std.proofs.lemmas.Bool.{false≢true}
use Rattle.order_facts.proofs.Chains.{reaches-from_chain}
use Rattle.order_facts.proofs.Shortest.{IsTight-from_fewest}
use Rattle.order_facts.proofs.Exact.{reaches-from_Entails, orderly_from_IsConsistent}
use Rattle.order_facts.proofs.closed.Closed.chain.Goals as goal

pub returns-then-not-reaches-clause-none : goal.returns-then-not-reaches-clause-none
returns-then-not-reaches-clause-none c =
    let answer = rw (c.as_slice.ensures, c.self.view_is) at c.reaches.ensures in
    λ other o r. false≢true (sym c.if-not-reaches.true ∙ answer ∙ reaches-from_chain c.args.self.now c.args.x c.args.y other o r)

pub returns-then-not-reaches-clause-complete : goal.returns-then-not-reaches-clause-complete
returns-then-not-reaches-clause-complete c =
    let answer = rw (c.as_slice.ensures, c.self.view_is) at c.reaches.ensures in
    λ consistent h. absurd (false≢true (sym c.if-not-reaches.true ∙ answer ∙ reaches-from_Entails c.args.self.now c.args.x c.args.y (orderly_from_IsConsistent c.args.self.now consistent) h))

pub returns-clause-tight : goal.returns-clause-tight
returns-clause-tight c =
    let found = c.in_ok-chain.ensures in
    IsTight-from_fewest _ c.args.x c.args.y c.in_ok-chain.chain.items found.chain found.runs found.fewest
