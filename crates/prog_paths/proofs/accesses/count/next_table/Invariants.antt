use Rattle.std.proofs.Common.{◌≡◌, not, take}
use Rattle.std.specs.Prelude.{All}
use Rattle.prog_paths.specs.Places.{all_from}
use Rattle.prog_paths.specs.Tally.{is_behind, is_before, NextIsGreater}
use Rattle.prog_paths.proofs.accesses.count.next_table.Given as goal

-- the least table behind the last one among the nodes so far
abbrev pub invariant-loop-path : goal.invariant-loop-path
invariant-loop-path l = record {
  rises : NextIsGreater l.last l.next;
  all : All (λ p. is_before l.next p.access.table ≡ not (is_behind l.last p.access.table)) (all_from 0 (take l.path-index l.paths));
}
