use Rattle.std.proofs.Common.{◌≡◌, ◌++◌, map}
use Rattle.prog_paths.specs.Trails.{path_with}
use Rattle.prog_paths.proofs.path.listing.push_paths.Given as goal

abbrev pub invariant-loop-trail : goal.invariant-loop-trail
invariant-loop-trail l = l.paths.items ≡ l.fn.paths.items ++ map (path_with l.number) l.yielded
