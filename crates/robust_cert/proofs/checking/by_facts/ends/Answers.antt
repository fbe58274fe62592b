use Rattle.robust_cert.proofs.Chains.{runs-from_ends}
use Rattle.robust_cert.proofs.checking.by_facts.ends.Goals as goal

pub returns-clause-some : goal.returns-clause-some
returns-clause-some c = runs-from_ends c.args.chain.now c.in_ok-first.field-0.now c.in_ok-last.field-0.now c.in_ok-first.ensures.value c.in_ok-last.ensures.value
