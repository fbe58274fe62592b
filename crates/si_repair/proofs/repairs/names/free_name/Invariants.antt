use Rattle.std.proofs.Common.{◌≡◌, ℕ, ◌<◌, true}
use Rattle.prog_tree.specs.Tree.{draft_tree}
use Rattle.prog_check.specs.Names.{is_among}
use Rattle.repair_laws.specs.Materialised.{mat_name}
use Rattle.si_repair.specs.Names.{taken_names}
use Rattle.si_repair.proofs.repairs.names.free_name.Given as goal

-- the names so far are taken
abbrev pub invariant-loop-number : goal.invariant-loop-number
invariant-loop-number l = (k : ℕ) → k < l.number-counter → is_among (taken_names (draft_tree l.set) l.made) (mat_name k) ≡ true
