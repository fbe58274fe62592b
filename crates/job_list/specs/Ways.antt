-- The ways in which jobs end.
use Rattle.std.specs.Prelude.{Bool, true, false}
use Rattle.job_list.specs.declared.job.JobEnd.{JobEnd}
use Rattle.job_list.specs.declared.job.JobEnd.TheVariants as end
use Rattle.job_list.specs.declared.job.Way.{Way}
use Rattle.job_list.specs.declared.job.Way.TheVariants.{Committed, Aborted, Clashed, Refused}

-- the job ended in this way
abbrev pub is_in : Way → JobEnd → Bool
is_in Committed (end.Committed number replies) = true
is_in Aborted (end.Aborted cause) = true
is_in Clashed (end.Clashed clash) = true
is_in Refused (end.Refused why) = true
is_in way other = false
