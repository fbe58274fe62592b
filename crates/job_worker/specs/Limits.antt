-- How much is taken on.
use Rattle.std.specs.Prelude.{ℕ}

-- the most jobs
abbrev pub most_jobs : ℕ
most_jobs = 100000
