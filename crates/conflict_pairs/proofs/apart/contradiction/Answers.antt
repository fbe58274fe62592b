use Rattle.std.proofs.Common.{List, length, subst}
use Rattle.std.specs.Prelude.{Option}
use Rattle.order_facts.specs.declared.steps.Node.{Node}
use Rattle.conflict_pairs.specs.Search.{FoundWithin}
use Rattle.conflict_pairs.proofs.Trimming.{FallsShortest-found}
use Rattle.conflict_pairs.proofs.apart.contradiction.Goals as goal

pub unreachable-requires : goal.unreachable-requires
unreachable-requires c =
    subst (λ (o : Option (List Node)). FoundWithin o (length c.requires.contradiction.chain)) c.in-None.is (c.in_ok-chain.ensures.all c.requires.contradiction)

pub returns : goal.returns
returns c = FallsShortest-found c.args.closed.now _ c.in-Some.chain c.in-Some.is c.in_ok-chain.ensures.some c.in_ok-chain.ensures.all
