use Rattle.std.proofs.Common.{◌≡◌, ◌∙◌, true, false, refl, sym, rules}
use Rattle.std.specs.Ordering.{is_lt}
use Rattle.prog_tree.specs.Table.{cell_cmp}
use Rattle.version_store.proofs.ApartLaws.{is_from, free_all, free_before, before_free}
use Rattle.version_store.proofs.BlockLaws.{first_is}
use Rattle.version_store.proofs.blocks.Blocks.is_free.Goals as goal

pub returns-in_default : goal.returns-in_default
returns-in_default c =
    rw (← c.self.view_is) (λ free. free_all c.self.inside.slots.entries c.args.low.now c.args.high.now (sym (c.range.ensures.between tt) ∙ c.in_default.ensures.steps.0), λ leaves. refl)

pub returns-then-is_lt : goal.returns-then-is_lt
returns-then-is_lt c =
    let m = c.self.inside.slots.entries in
    let low = c.args.low.now in
    let high = c.args.high.now in
    let key = c.in-Some.key.now in
    let slot = c.in-Some.slot.now in
    let found = first_is (is_from low) m c.next.new.self key slot c.range.ensures.ordered (sym (c.range.ensures.between tt) ∙ c.in-Some.ensures.steps) in
    let behind_key : is_lt (cell_cmp high key) ≡ true = search rules in
    rw (← c.self.view_is) (
      λ free. free_before m low high key slot c.self.invariant found behind_key (c.is_behind.ensures.0 free),
      λ leaves. c.is_behind.ensures.1 (before_free m low high key slot found leaves).1,
    )

pub returns-else-is_lt : goal.returns-else-is_lt
returns-else-is_lt c =
    let m = c.self.inside.slots.entries in
    let low = c.args.low.now in
    let high = c.args.high.now in
    let key = c.in-Some.key.now in
    let slot = c.in-Some.slot.now in
    let found = first_is (is_from low) m c.next.new.self key slot c.range.ensures.ordered (sym (c.range.ensures.between tt) ∙ c.in-Some.ensures.steps) in
    let is : is_lt (cell_cmp high key) ≡ false = search rules in
    rw (← c.self.view_is) (λ free. absurd (cc), λ leaves. let less = (before_free m low high key slot found leaves).0 in absurd (cc))
