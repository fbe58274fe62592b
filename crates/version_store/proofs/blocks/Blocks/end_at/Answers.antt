use Rattle.std.proofs.Common.{subst, sym}
use Rattle.std.specs.Prelude.{IsSome}
use Rattle.std.specs.BTreeMap.{BTreeMap}
use Rattle.prog_tree.specs.declared.cell.Cell.{Cell}
use Rattle.prog_tree.specs.Table.{at_cell}
use Rattle.version_store.specs.declared.block.Slot.{Slot}
use Rattle.version_store.specs.Blocks.{AreApart, AreEnded}
use Rattle.version_store.proofs.ApartLaws.{apart_ended, slot_ends}
use Rattle.version_store.proofs.BlockLaws.{put_ended, put_ends, put_still, put_true, found_true, ended_slot_true, none_at}
use Rattle.version_store.proofs.blocks.Blocks.end_at.Goals as goal

pub invariant_of-self : goal.invariant_of-self
invariant_of-self c = subst (λ (after : BTreeMap Cell Slot). AreApart after.entries) (sym c.get_mut.follows.holds-at-none) c.self.invariant

pub returns-in_err-slot-clause-ended : goal.returns-in_err-slot-clause-ended
returns-in_err-slot-clause-ended c =
    let is_key = rw (← c.self.view_is) at c.in_ok-key.ensures.key in
    subst (λ (after : BTreeMap Cell Slot). AreEnded c.args.number c.args.cell.now after.entries) (sym c.get_mut.follows.holds-at-none)
    (none_at c.args.number c.self.inside.slots.entries c.args.cell.now c.in_ok-key.key is_key c.in_err-slot.ensures.value)

pub returns-in_err-slot-clause-others : goal.returns-in_err-slot-clause-others
returns-in_err-slot-clause-others c =
    rw (← c.self.view_is)
    (λ cell ends. subst (λ (after : BTreeMap Cell Slot). AreEnded c.args.number cell after.entries) (sym c.get_mut.follows.holds-at-none) ends)

pub invariant_of-self-2 : goal.invariant_of-self-2
invariant_of-self-2 c =
    let m = c.self.inside.slots.entries in
    let slot = c.end_at.new.self in
    let written = λ (some : IsSome (at_cell m c.in_ok-key.key)). ((c.get_mut.follows.holds slot).3 some).0 in
    let n = (c.get_mut.follows.lender slot).entries in
    let put = put_ended c.args.number m n c.in_ok-key.key c.in_ok-slot.slot.now slot c.in_ok-slot.ensures.value c.end_at.ensures written in
    apart_ended c.args.number m n c.in_ok-key.key c.in_ok-slot.slot.now c.in_ok-slot.ensures.value put c.self.invariant

pub returns-clause-ended : goal.returns-clause-ended
returns-clause-ended c =
    let m = c.self.inside.slots.entries in
    let slot = c.end_at.new.self in
    let written = λ (some : IsSome (at_cell m c.in_ok-key.key)). ((c.get_mut.follows.holds slot).3 some).0 in
    let n = (c.get_mut.follows.lender slot).entries in
    let put = put_ended c.args.number m n c.in_ok-key.key c.in_ok-slot.slot.now slot c.in_ok-slot.ensures.value c.end_at.ensures written in
    let is_key = rw (← c.self.view_is) at c.in_ok-key.ensures.key in
    put_ends c.args.number m n c.args.cell.now c.in_ok-key.key c.in_ok-slot.slot.now is_key put

pub returns-clause-others : goal.returns-clause-others
returns-clause-others c =
    let m = c.self.inside.slots.entries in
    let slot = c.end_at.new.self in
    let written = λ (some : IsSome (at_cell m c.in_ok-key.key)). ((c.get_mut.follows.holds slot).3 some).0 in
    let n = (c.get_mut.follows.lender slot).entries in
    let put = put_ended c.args.number m n c.in_ok-key.key c.in_ok-slot.slot.now slot c.in_ok-slot.ensures.value c.end_at.ensures written in
    rw (← c.self.view_is) (λ cell ends. put_still c.args.number c.args.number m n cell c.in_ok-key.key c.in_ok-slot.slot.now c.in_ok-slot.ensures.value put ends)

pub returns-clause-stays : goal.returns-clause-stays
returns-clause-stays c =
    let m = c.self.inside.slots.entries in
    let old = c.in_ok-slot.slot.now in
    let slot = c.end_at.new.self in
    let written = λ (some : IsSome (at_cell m c.in_ok-key.key)). ((c.get_mut.follows.holds slot).3 some).0 in
    let n = (c.get_mut.follows.lender slot).entries in
    let put = put_ended c.args.number m n c.in_ok-key.key old slot c.in_ok-slot.ensures.value c.end_at.ensures written in
    rw (← c.self.view_is) (λ chains floor all.
    put_true floor chains m n c.in_ok-key.key _ (ended_slot_true c.args.number floor chains old (found_true floor chains m c.in_ok-key.key old c.in_ok-slot.ensures.value all)) put all)

pub returns-clause-region : goal.returns-clause-region
returns-clause-region c =
    let m = c.self.inside.slots.entries in
    let old = c.in_ok-slot.slot.now in
    let slot = c.end_at.new.self in
    let written = λ (some : IsSome (at_cell m c.in_ok-key.key)). ((c.get_mut.follows.holds slot).3 some).0 in
    let n = (c.get_mut.follows.lender slot).entries in
    let put = put_ended c.args.number m n c.in_ok-key.key old slot c.in_ok-slot.ensures.value c.end_at.ensures written in
    slot_ends c.args.number m n c.in_ok-key.key old c.in_ok-slot.ensures.value put c.self.invariant
