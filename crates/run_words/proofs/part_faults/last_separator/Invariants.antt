use Rattle.std.proofs.Common.{◌<◌, ◌≤◌, ◌+◌, ℕ, length}
use Rattle.run_words.specs.PartPointing.{IsSeparatorPlace}
use Rattle.run_words.proofs.part_faults.last_separator.Given as goal

-- none of the places that were tried is that of a line `%%`
abbrev pub invariant-loop-tried : goal.invariant-loop-tried
invariant-loop-tried l =
    (place : ℕ) → place < length l.input → length l.input ≤ place + l.tried → ¬ IsSeparatorPlace l.input place
