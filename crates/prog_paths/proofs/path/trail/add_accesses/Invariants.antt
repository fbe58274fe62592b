use Rattle.std.proofs.Common.{◌≡◌, ◌++◌, map, take}
use Rattle.prog_paths.specs.Kinds.{access_with}
use Rattle.prog_paths.proofs.path.trail.add_accesses.Given as goal

-- the accesses of the kinds so far
abbrev pub invariant-loop-kind : goal.invariant-loop-kind
invariant-loop-kind l = l.accesses ≡ l.fn.accesses ++ map (access_with l.table l.columns l.sure l.place) (take l.kind-index l.kinds)
