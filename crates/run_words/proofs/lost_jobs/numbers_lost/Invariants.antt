use Rattle.std.proofs.Common.{◌≡◌, filter, slice_get}
use Rattle.std.specs.List.{range_with_len}
use Rattle.run_words.specs.LostJobs.{is_lost_by}
use Rattle.run_words.proofs.lost_jobs.numbers_lost.Given as goal

-- those of the numbers so far
abbrev pub invariant-loop-number : goal.invariant-loop-number
invariant-loop-number l =
    l.numbers.items ≡ filter (λ number. is_lost_by l.way (slice_get l.outcomes number)) (range_with_len 0 l.number)
