use Rattle.std.proofs.Common.{ℕ, ◌<◌}
use Rattle.prog_paths.specs.Shown.{CoversAt}
use Rattle.prog_paths.proofs.accesses.covers.least_cover.Given as goal

-- no access so far covers
abbrev pub invariant-loop-m : goal.invariant-loop-m
invariant-loop-m l = (i t : ℕ) → i < l.m → CoversAt l.closed l.mine l.theirs i t → ⊥
