use Rattle.std.proofs.Common.{ap, sym, ◌∙◌}
use Rattle.std.specs.Prelude.{is_some}
use Rattle.prog_tree.specs.Tree.{draft_tree}
use Rattle.prog_check.specs.Faults.{table_names}
use Rattle.si_repair.specs.Names.{new_names}
use Rattle.si_repair.proofs.Naming.{taken_first, taken_second}
use Rattle.si_repair.proofs.repairs.names.is_taken.Goals as goal

pub returns-then-is_some : goal.returns-then-is_some
returns-then-is_some c =
    let place = sym (ap is_some c.table_number.ensures.place) ∙ sym c.is_some.ensures ∙ c.if-is_some.true in
    c.if-is_some.true ∙ sym (taken_first (table_names (draft_tree c.args.set.now)) (new_names c.args.made.now) c.args.name.now place)

pub returns-else-is_some : goal.returns-else-is_some
returns-else-is_some c =
    let place = sym (ap is_some c.table_number.ensures.place) ∙ sym c.is_some.ensures ∙ c.if-is_some.false in
    c.is_new.ensures ∙ sym (taken_second (table_names (draft_tree c.args.set.now)) (new_names c.args.made.now) c.args.name.now place)
