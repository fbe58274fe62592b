use Rattle.std.proofs.Common.{◌≡◌, ◌++◌, drop, map}
use Rattle.prog_tree.specs.Tree.{draft_tree, program_tree}
use Rattle.prog_check.specs.Paths.{paths_from, paths_of}
use Rattle.prog_paths.proofs.path.listing.paths.Given as goal

-- the paths so far, with those of the programs that are left
abbrev pub invariant-loop-number : goal.invariant-loop-number
invariant-loop-number l = l.paths.items ++ paths_from l.set.tables.items l.number (map program_tree (drop l.number l.set.programs.items)) ≡ paths_of (draft_tree l.set)
