use Rattle.std.proofs.Common.{◌≡◌, ◌∙◌, ap, sym, subst, rules, List, [], ◌∷◌, ◌++◌}
use Rattle.std.specs.Prelude.{ℕ, Option, unwrap_or}
use Rattle.std.specs.BTreeMap.{BTreeMap}
use Rattle.std.specs.BTreeMap.Entry.{map_with_value}
use Rattle.prog_tree.specs.declared.cell.Cell.{Cell}
use Rattle.prog_tree.specs.Table.{at_cell, is_same_cell}
use Rattle.serial_orders.specs.Reduced.{IsAddedAt}
use Rattle.serial_orders.proofs.WriterLaws.{added_entry}
use Rattle.serial_orders.proofs.writers.Writers.add.Goals as goal

pub returns : goal.returns
returns c =
    let m = c.self.inside.cells.entries in
    let entry = c.in_ok-entry.entry in
    let numbers = c.push.new.self in
    let had =
    c.or_insert-numbers.ensures.value
    ∙ (ap (λ (o : Option (List ℕ)). unwrap_or o c.new.result) c.in_ok-entry.ensures.value
    ∙ ap (unwrap_or (at_cell m c.args.cell)) c.new.ensures) in
    let more = c.in_ok-push.ensures.ok ∙ ap (λ (ws : List ℕ). ws ++ c.args.number ∷ []) had in
    let back : c.self-3-1.given.0 ≡ map_with_value entry numbers = search rules in
    rw (← c.self.view_is)
    (subst (λ (after : BTreeMap Cell (List ℕ)). IsAddedAt (is_same_cell c.args.cell) c.args.number m after.entries) (sym back)
    (added_entry m (map_with_value entry numbers).entries c.args.cell c.args.number numbers more (c.in_ok-entry.ensures.update.0 numbers).0))
