use Rattle.std.proofs.Common.{◌≡◌, map, take}
use Rattle.robust_cert.specs.Accepted.{body_size}
use Rattle.si_repair.proofs.certificate.bodies_of.Given as goal

abbrev pub invariant-loop-path : goal.invariant-loop-path
invariant-loop-path l = l.bodies.items ≡ map body_size (take l.path-index l.paths)
