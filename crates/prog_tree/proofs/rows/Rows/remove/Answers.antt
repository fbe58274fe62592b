use Rattle.std.proofs.Common.{◌≡◌, ◌∙◌, sym, ap}
use Rattle.prog_tree.specs.Table.{at_cell, without_row}
use Rattle.prog_tree.proofs.NumberLaws.{HasI64Rows-without_row}
use Rattle.prog_tree.proofs.TableLemmas.{remove_entry-without_row}
use Rattle.prog_tree.proofs.rows.Rows.remove.Goals as goal

-- the map without the entry is the state without the row
gone : (c : goal.After-remove) → c.remove.new.self.entries ≡ without_row c.self.inside.rows.entries c.args.cell.now
gone c =
    let cell = c.args.cell.now in
    c.remove.ensures.entries ∙ remove_entry-without_row cell c.self.inside.rows.entries (ap (λ m. at_cell m cell) (sym c.remove.ensures.entries) ∙ c.remove.ensures.updates.1)

pub returns-clause-gone : goal.returns-clause-gone
returns-clause-gone c = rw (← c.self.view_is) (gone c)

pub invariant_of-self : goal.invariant_of-self
invariant_of-self c = rw (gone c) (HasI64Rows-without_row c.self.inside.rows.entries c.args.cell.now c.self.invariant)
