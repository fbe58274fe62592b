use Rattle.std.proofs.Common.{◌≡◌, map, take}
use Rattle.prog_tree.specs.Tree.{program_tree}
use Rattle.repair_laws.specs.Materialised.{all_with_front}
use Rattle.repair_laws.proofs.front.all_with_front.Given as goal

abbrev pub invariant-loop-number : goal.invariant-loop-number
invariant-loop-number l = map program_tree l.all.items ≡ all_with_front l.made 0 (take l.number (map program_tree l.programs))
