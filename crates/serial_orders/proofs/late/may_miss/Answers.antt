use Rattle.std.proofs.Common.{◌≤◌, inr, sym, subst}
use Rattle.std.specs.Prelude.{ℕ, slice_index}
use Rattle.std.proofs.lemmas.Bool.{ltb-false}
use Rattle.serial_orders.specs.Late.{IsSeenAt}
use Rattle.serial_orders.specs.declared.trace.Sight.{Sight}
use Rattle.serial_orders.proofs.LateLaws.{one_seen}
use Rattle.serial_orders.proofs.late.may_miss.Goals as goal

pub returns-in-One : goal.returns-in-One
returns-in-One c = λ seen.
    let slots = c.args.slots.now in
    let start = c.args.start in
    let at_slot = subst (λ (n : ℕ). slice_index slots n ≤ start) c.slot_of.ensures.slot (ltb-false start (slice_index slots c.slot_of.result) seen) in
    subst (λ (s : Sight). IsSeenAt slots c.args.count start s) (sym c.in-One.is) (one_seen slots c.args.count start c.in-One.cell at_slot)

pub returns-in-Range : goal.returns-in-Range
returns-in-Range c = λ seen other taken. inr (ltb-false c.args.start c.args.count seen)
