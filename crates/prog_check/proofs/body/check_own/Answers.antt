use Rattle.std.proofs.Common.{◌++◌}
use Rattle.std.proofs.lemmas.Result.{err_from_is_err_and}
use Rattle.prog_tree.specs.Tree.{stmt_tree}
use Rattle.prog_check.specs.declared.fault.Place.TheVariants.{Statement}
use Rattle.prog_check.specs.Faults.{place_rules, table_use_rules, value_use_rules, new_name_rules}
use Rattle.prog_check.specs.Uses.{used_table_by, overwrites_by, used_names_by, new_name_by}
use Rattle.prog_check.proofs.RuleLemmas.{IsFirst-append, IsFirst-behind}
use Rattle.prog_check.proofs.body.check_own.Goals as goal

pub returns-in_err-check_table-clause-found : goal.returns-in_err-check_table-clause-found
returns-in_err-check_table-clause-found c =
    let exit = err_from_is_err_and c.from_residual-in_err-check_table.result c.from_residual-in_err-check_table.ensures.1 in
    let found = c.in_err-check_table.field-0.0 in
    let at = c.args.at.now in
    let place = Statement c.args.program at.number in
    let s = stmt_tree c.args.stmt.now in
    let placed = place_rules place at.number c.args.aborted in
    let table = table_use_rules c.args.tables.now place (overwrites_by s) (used_table_by s) in
    let values = value_use_rules place at.visible (used_names_by s) in
    rw (exit.1, exit.2)
    (IsFirst-append found (placed ++ table ++ values) (new_name_rules place at.visible (new_name_by s))
    (IsFirst-append found (placed ++ table) values (IsFirst-behind found placed table c.in_ok-check_place.ensures.0 c.in_err-check_table.ensures)))
