use Rattle.std.proofs.Common.{◌≡◌, take}
use Rattle.std.specs.List.{filter}
use Rattle.prog_paths.specs.Changers.{changes}
use Rattle.prog_paths.proofs.accesses.changers.changers_among.Given as goal

-- the changers so far
abbrev pub invariant-loop-place : goal.invariant-loop-place
invariant-loop-place l = l.changers.items ≡ filter (λ p. changes p.access.kind) (take l.place-index l.places)
