-- How much one call takes on.
use Rattle.std.specs.Prelude.{ℕ}

-- the most workers that run at once
abbrev pub most_workers : ℕ
most_workers = 8
