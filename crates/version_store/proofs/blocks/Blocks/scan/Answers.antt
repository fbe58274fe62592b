use Rattle.std.proofs.Common.{◌≡◌, ◌∙◌, refl, ap, subst, sym}
use Rattle.std.specs.Prelude.{Option, IfSome, filter}
use Rattle.std.proofs.lemmas.Result.{IfOk-weaker}
use Rattle.prog_tree.specs.declared.cell.Cell.{Cell}
use Rattle.prog_tree.specs.declared.cell.Region.{Region}
use Rattle.prog_tree.specs.Pieces.{rows_of}
use Rattle.prog_tree.specs.Table.{TableState}
use Rattle.version_store.specs.declared.block.Slot.{Slot}
use Rattle.version_store.specs.declared.block_scan.PartRows.{PartRows}
use Rattle.version_store.specs.Blocks.{IsBySlot, IsCommon}
use Rattle.version_store.specs.Regions.{seen_in, IsSeen}
use Rattle.version_store.proofs.ApartLaws.{is_from}
use Rattle.version_store.proofs.BlockLaws.{found_true}
use Rattle.version_store.proofs.ShareLaws.{left_first, left_here, left_more, none_seen, shares_more, shared}
use Rattle.version_store.proofs.blocks.Blocks.scan.Goals as goal

pub returns-in_default : goal.returns-in_default
returns-in_default c =
    IfOk-weaker c.from_pieces.result _ _
    (λ rows is rise floor above holds. none_seen c.args.region.now c.args.start c.args.chains.now c.in_default.ensures rows (is ∙ ap rows_of c.in_ok-pieces.ensures.items))
    c.from_pieces.ensures

pub loop-slot-init : goal.loop-slot-init
loop-slot-init c =
    let slots = c.self.inside.slots.entries in
    let between : c.into_iter-slot-iterator.result ≡ filter (λ (e : Cell × Slot). is_from c.in-Some.low e.0) slots =
    c.into_iter-slot-iterator.ensures.into_iter_gives ∙ c.range-slot-items.ensures.between tt in
    rw (← c.self.view_is, c.in_ok-pieces.ensures.items) (record {
      among = left_first (is_from c.in-Some.low) slots c.into_iter-slot-iterator.result c.range-slot-items.ensures.ordered between;
      shares = λ rise floor above holds. refl;
    })

pub loop-slot-preserved-in-Some-3 : goal.loop-slot-preserved-in-Some-3
loop-slot-preserved-in-Some-3 c =
    let slots = c.args.self.now in
    let chains = c.args.chains.now in
    let start = c.args.start in
    let slot = c.in-Some-2.slot.now in
    let key = c.in-Some-2.field-0-0.now in
    let inside = c.in-Some-3.inside in
    let is_part = (subst (λ (o : Option PartRows). IfSome o (λ (x : PartRows). IsCommon slot.region c.loop-slot.left x.part)) c.in-Some-3.is c.in_ok-inside.ensures.part).2 in
    let by_slot = subst (λ (o : Option PartRows). IfSome o (λ (x : PartRows). IsBySlot start slot x.part x.rows)) c.in-Some-3.is c.in_ok-inside.ensures.rows in
    let among = c.loop-slot.invariant.among in
    let steps = c.in-Some-2.ensures.steps in
    rw (c.part_behind-left.ensures, c.in_ok-push.ensures.items) (record {
      among = left_more slots c.loop-slot.slot-iterator c.next.new.self key slot steps among;
      shares = λ rise floor above holds.
          shares_more c.args.region.now c.loop-slot.left inside.part start floor above chains slot inside.rows c.loop-slot.pieces.items c.push_scan.new.pieces.items c.read_order.ensures
          is_part by_slot
          (found_true floor chains slots key slot (sym (left_here slots c.loop-slot.slot-iterator c.next.new.self key slot steps among)) holds)
          (λ m seen. c.in_ok-push_scan.ensures rise m (subst (λ (r : Region). IsSeen (seen_in r start) chains m) (sym c.part_before-before.ensures) seen))
          (c.loop-slot.invariant.shares rise floor above holds);
    })

pub loop-slot-preserved : goal.loop-slot-preserved
loop-slot-preserved c = record {
  among = left_more c.args.self.now c.loop-slot.slot-iterator c.next.new.self c.in-Some-2.field-0-0.now c.in-Some-2.slot.now c.in-Some-2.ensures.steps c.loop-slot.invariant.among;
  shares = c.loop-slot.invariant.shares;
}

pub returns : goal.returns
returns c =
    let chains = c.args.chains.now in
    IfOk-weaker c.from_pieces-2.result _ _
    (λ rows is rise floor above holds.
    subst (λ (m : TableState). IsSeen (seen_in c.args.region.now c.args.start) chains m) (sym is)
    (shared c.args.region.now c.loop-slot.left c.args.start chains c.loop-slot.pieces.items c.push_scan-2.new.pieces.items c.read_order.ensures
    (λ m seen. c.in_ok-push_scan-2.ensures rise m seen) (c.loop-slot.invariant.shares rise floor above holds)))
    c.from_pieces-2.ensures
