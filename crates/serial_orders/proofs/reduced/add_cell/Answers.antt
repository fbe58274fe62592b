use Rattle.std.proofs.Common.{ℕ, List, length, subst, sym, ap, ◌∙◌}
use Rattle.std.specs.Prelude.{[], Option, unwrap_or}
use Rattle.prog_tree.specs.Table.{at_cell, Cells}
use Rattle.serial_orders.specs.Reduced.{RiseFrom, AreWithin, AddsPairs, reader_pairs}
use Rattle.serial_orders.proofs.WriterLaws.{entry_holds}
use Rattle.serial_orders.proofs.reduced.add_cell.Goals as goal

pub add_reader-requires-clause-rise : goal.add_reader-requires-clause-rise
add_reader-requires-clause-rise c =
    let m = c.args.writers.now in
    let found = c.in-Some.ensures.value ∙ ap (λ (w : Cells (List ℕ)). at_cell w c.args.cell.now) c.writers.view_is in
    subst (λ (ws : List ℕ). RiseFrom 0 ws) (sym c.as_slice.ensures) (entry_holds (length c.args.precedence.now) m c.args.cell.now c.in-Some.numbers.now c.requires.within found).0

pub add_reader-requires-clause-within : goal.add_reader-requires-clause-within
add_reader-requires-clause-within c =
    let m = c.args.writers.now in
    let found = c.in-Some.ensures.value ∙ ap (λ (w : Cells (List ℕ)). at_cell w c.args.cell.now) c.writers.view_is in
    subst (λ (ws : List ℕ). AreWithin (length c.args.precedence.now) ws) (sym c.as_slice.ensures)
    (entry_holds (length c.args.precedence.now) m c.args.cell.now c.in-Some.numbers.now c.requires.within found).1

pub returns-in_ok-add_reader : goal.returns-in_ok-add_reader
returns-in_ok-add_reader c =
    let found = c.in-Some.ensures.value ∙ ap (λ (w : Cells (List ℕ)). at_cell w c.args.cell.now) c.writers.view_is in
    subst (λ (ws : List ℕ). AddsPairs (reader_pairs c.args.reader c.args.start ws) c.args.precedence.now c.add_reader.new.precedence)
    (c.as_slice.ensures ∙ ap (λ (o : Option (List ℕ)). unwrap_or o []) found) c.in_ok-add_reader.ensures
