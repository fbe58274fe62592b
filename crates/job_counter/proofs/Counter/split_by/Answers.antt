use Rattle.std.proofs.Common.{rules, arith}
use Rattle.job_counter.proofs.Steps.{splits}
use Rattle.job_counter.proofs.Counter.split_by.Goals as goal

pub split_seat-other-requires : goal.split_seat-other-requires
split_seat-other-requires g c = (search rules, search rules, splits _ _ _ _ (omega arith))
