use Rattle.std.proofs.Common.{ap, sym, ◌∙◌}
use Rattle.std.specs.List.{list_any}
use Rattle.std.proofs.lemmas.List.{take_all}
use Rattle.std.proofs.lemmas.List.Folds.{list_any_at}
use Rattle.prog_tree.specs.Value.{same_name}
use Rattle.si_repair.proofs.Naming.{has_name, new_is}
use Rattle.si_repair.proofs.repairs.names.is_new.Goals as goal

pub returns-then-eq : goal.returns-then-eq
returns-then-eq c =
    let made = c.args.made.now in
    let name = c.args.name.now in
    let item = c.new_table-item.result in
    let same = ap (same_name name) (sym c.as_str.ensures) ∙ sym c.eq.ensures ∙ c.if-eq.true in
    let passes = ap (has_name name) (sym c.new_table-item.is) ∙ same in
    sym (new_is name made ∙ list_any_at (has_name name) made c.loop-new_table.new_table-index item c.loop-new_table-test.true passes)

pub returns : goal.returns
returns c =
    let made = c.args.made.now in
    let name = c.args.name.now in
    sym (new_is name made ∙ ap (list_any (has_name name)) (sym (take_all c.loop-new_table.new_table-index made c.loop-new_table-test.false)) ∙ c.loop-new_table.invariant)
