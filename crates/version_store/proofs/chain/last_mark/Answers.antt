use Rattle.version_store.proofs.ChainLaws.{last_number_or-is}
use Rattle.version_store.proofs.chain.last_mark.Goals as goal

pub returns-in-Some : goal.returns-in-Some
returns-in-Some c = last_number_or-is 0 c.args.marks.now c.in-Some.mark.now c.in-Some.ensures.value
