use Rattle.std.proofs.Common.{◌≡◌, ◌+◌, ℕ, option_map, slice_get, take}
use Rattle.analysis_words.specs.Counts.{count_or_zero}
use Rattle.analysis_words.proofs.entry_counts.add_counts.Given as goal

-- the counts so far are added
abbrev pub invariant-loop-access : goal.invariant-loop-access
invariant-loop-access l = (a : ℕ) → slice_get l.all.items a ≡ option_map (λ n. n + count_or_zero (take l.access l.more) a) (slice_get l.initial.all.items a)
