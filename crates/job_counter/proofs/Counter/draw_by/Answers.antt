use Rattle.std.proofs.Common.{rules}
use Rattle.job_counter.proofs.Steps.{draws}
use Rattle.job_counter.proofs.Counter.draw_by.Goals as goal

pub fetch_add-requires : goal.fetch_add-requires
fetch_add-requires g c = (search rules, search rules, draws _ _ _ _ _ _ c.requires.budget c.requires.some_left)
