use Rattle.std.proofs.Common.{rules}
use Rattle.job_counter.proofs.Steps.{joins, looks}
use Rattle.job_counter.proofs.Counter.join.Goals as goal

pub join_seat-requires : goal.join_seat-requires
join_seat-requires c = (search rules, search rules, search rules, search rules, joins _ _ _ _ _)

pub load-requires : goal.load-requires
load-requires c = (search rules, search rules, looks _ _ _ _ _)
