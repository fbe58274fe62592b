use Rattle.std.proofs.Common.{◌≡◌, take}
use Rattle.si_repair.proofs.reasons.copies_of.Given as goal

abbrev pub invariant-loop-chain : goal.invariant-loop-chain
invariant-loop-chain l = l.copies.items ≡ take l.chain-index l.chains
