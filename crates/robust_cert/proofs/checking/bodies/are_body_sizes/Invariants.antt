use Rattle.std.proofs.Common.{◌≡◌, map, take}
use Rattle.robust_cert.specs.Accepted.{body_size}
use Rattle.robust_cert.proofs.checking.bodies.are_body_sizes.Given as goal

-- the paths so far have these numbers
abbrev pub invariant-loop-k : goal.invariant-loop-k
invariant-loop-k l = take l.k l.bodies ≡ map body_size (take l.k l.paths)
