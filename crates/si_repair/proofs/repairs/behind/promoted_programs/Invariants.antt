use Rattle.std.proofs.Common.{◌≡◌, ◌++◌, map, drop}
use Rattle.prog_tree.specs.Tree.{program_tree}
use Rattle.repair_laws.specs.Promoted.{all_with_keeps}
use Rattle.si_repair.specs.Marks.{is_marked}
use Rattle.si_repair.proofs.repairs.behind.promoted_programs.Given as goal

-- the programs so far, with those that are left
abbrev pub invariant-loop-number : goal.invariant-loop-number
invariant-loop-number l =
    map program_tree l.kept.items ++ all_with_keeps (is_marked l.marks) l.number (map program_tree (drop l.number l.programs))
    ≡ all_with_keeps (is_marked l.marks) 0 (map program_tree l.programs)
