use Rattle.std.proofs.Common.{◌∙◌, sym}
use Rattle.version_store.proofs.ApartLaws.{is_from, key_found, key_has, key_none}
use Rattle.version_store.proofs.BlockLaws.{first_is}
use Rattle.version_store.proofs.blocks.Blocks.key_of.Goals as goal

pub returns-then-contains-clause-key : goal.returns-then-contains-clause-key
returns-then-contains-clause-key c =
    let m = c.self.inside.slots.entries in
    let found = first_is (is_from c.args.cell.now) m c.next.new.self c.in_ok-key.key.now c.in_ok-key.slot.now c.range.ensures.ordered (sym (c.range.ensures.between tt) ∙ c.in_ok-key.ensures.steps) in
    rw (← c.self.view_is) (key_found m c.args.cell.now c.in_ok-key.key.now c.in_ok-key.slot.now c.self.invariant found)

pub returns-else-contains-clause-key : goal.returns-else-contains-clause-key
returns-else-contains-clause-key c =
    let m = c.self.inside.slots.entries in
    let found = first_is (is_from c.args.cell.now) m c.next.new.self c.in_ok-key.key.now c.in_ok-key.slot.now c.range.ensures.ordered (sym (c.range.ensures.between tt) ∙ c.in_ok-key.ensures.steps) in
    rw (← c.self.view_is) (key_none m c.args.cell.now c.in_ok-key.key.now c.in_ok-key.slot.now c.self.invariant found (sym c.contains.ensures ∙ c.if-contains.false))

pub returns-then-contains-clause-has : goal.returns-then-contains-clause-has
returns-then-contains-clause-has c =
    let m = c.self.inside.slots.entries in
    let found = first_is (is_from c.args.cell.now) m c.next.new.self c.in_ok-key.key.now c.in_ok-key.slot.now c.range.ensures.ordered (sym (c.range.ensures.between tt) ∙ c.in_ok-key.ensures.steps) in
    rw (← c.self.view_is) (key_has m c.args.cell.now c.in_ok-key.key.now c.in_ok-key.slot.now found (sym c.contains.ensures ∙ c.if-contains.true))
