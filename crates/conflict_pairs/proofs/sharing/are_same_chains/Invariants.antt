use Rattle.std.proofs.Common.{◌≡◌, ◌↔◌, length}
use Rattle.conflict_pairs.proofs.sharing.are_same_chains.Given as goal

-- as many chains are left in both, and they are the same exactly where all are
abbrev pub invariant-loop-chain : goal.invariant-loop-chain
invariant-loop-chain l = record {
  length : length l.chain-iterator.a.rest.now ≡ length l.chain-iterator.b.rest.now;
  rest : (l.chain-iterator.a.rest.now ≡ l.chain-iterator.b.rest.now) ↔ (l.chains ≡ l.others);
}
