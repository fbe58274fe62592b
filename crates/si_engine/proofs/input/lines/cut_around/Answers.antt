use Rattle.si_engine.proofs.LineLemmas.{behind_place}
use Rattle.si_engine.proofs.input.lines.cut_around.Goals as goal

pub returns-in-len1-up-clause-behind : goal.returns-in-len1-up-clause-behind
returns-in-len1-up-clause-behind g c = behind_place c.args.items.now c.split_at.result.1.now c.args.place c.split_at.ensures.back
