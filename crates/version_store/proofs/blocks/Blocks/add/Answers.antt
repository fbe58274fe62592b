use Rattle.std.proofs.Common.{◌≡◌, ◌∙◌, ap, subst, sym}
use Rattle.std.specs.Prelude.{IsSome, option_map}
use Rattle.std.specs.BTreeMap.{BTreeMap}
use Rattle.std.proofs.lemmas.Option.{same_Some}
use Rattle.prog_tree.specs.declared.cell.Cell.{Cell}
use Rattle.prog_tree.specs.declared.cell.Region.{Region}
use Rattle.prog_tree.specs.Table.{at_cell}
use Rattle.version_store.specs.declared.block.Slot.{Slot}
use Rattle.version_store.specs.Blocks.{AreApart, IsPut, IsTrueBlock, with_block}
use Rattle.version_store.proofs.ApartLaws.{apart_put}
use Rattle.version_store.proofs.BlockLaws.{put_found, put_true, found_true, with_block_region}
use Rattle.version_store.proofs.blocks.Blocks.add.Goals as goal

pub invariant_of-self : goal.invariant_of-self
invariant_of-self c = subst (λ (after : BTreeMap Cell Slot). AreApart after.entries) (sym c.get_mut.follows.holds-at-none) c.self.invariant

pub invariant_of-self-2 : goal.invariant_of-self-2
invariant_of-self-2 c =
    let m = c.self.inside.slots.entries in
    let slot = c.add.new.self in
    let written = λ (some : IsSome (at_cell m c.args.key.now)). ((c.get_mut.follows.holds slot).3 some).0 in
    let n = (c.get_mut.follows.lender slot).entries in
    apart_put m n c.args.key.now c.in-Some.slot.now slot c.in-Some.ensures.value (ap (λ (x : Slot). x.region) c.add.ensures.takes ∙ with_block_region c.args.block c.in-Some.slot.now)
    (put_found m n c.args.key.now c.in-Some.slot.now slot c.in-Some.ensures.value written) c.self.invariant

pub returns : goal.returns
returns c =
    let m = c.self.inside.slots.entries in
    let key = c.args.key.now in
    let block = c.args.block in
    let old = c.in-Some.slot.now in
    let slot = c.add.new.self in
    let written = λ (some : IsSome (at_cell m key)). ((c.get_mut.follows.holds slot).3 some).0 in
    let n = (c.get_mut.follows.lender slot).entries in
    let put = put_found m n key old slot c.in-Some.ensures.value written in
    let has = rw (← c.self.view_is) at (c.has_slot.ensures.0 c.if-not-has_slot.false) in
    let region : old.region ≡ c.args.region.now =
    same_Some old.region c.args.region.now (ap (option_map (λ (s : Slot). s.region)) c.in-Some.ensures.value ∙ has) in
    rw (← c.self.view_is) (record {
      added = λ held found at.
          let is : slot ≡ with_block block found = c.add.ensures.takes ∙ ap (with_block block) (same_Some old found (c.in-Some.ensures.value ∙ at)) in
          subst (IsPut m n key) is put;
      kept = λ never. absurd (never has);
      stays = λ chains fresh floor all.
          put_true floor chains m n key slot
          (c.add.ensures.true_slot floor chains (subst (λ (r : Region). IsTrueBlock 0 chains r block) (sym region) fresh) (found_true floor chains m key old c.in-Some.ensures.value all)) put all;
    })
