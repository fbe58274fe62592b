use Rattle.std.proofs.Common.{◌∙◌, ◌<◌, List, Vec, Global, length, vec_len, vec_capacity, ap, sym, subst, arith, take_all}
use Rattle.std.proofs.lemmas.List.{get_or_read}
use Rattle.prog_paths.specs.declared.accesses.places.Placed.{Placed}
use Rattle.conflict_pairs.specs.declared.pairing.PlacePair.{PlacePair}
use Rattle.conflict_pairs.specs.ClassPairs.{AddsRow}
use Rattle.conflict_pairs.specs.Pairing.{no_place, place_at}
use Rattle.conflict_pairs.proofs.ClassRows.{row-none, row-no, row-yes}
use Rattle.conflict_pairs.proofs.class_pairs.push_row.Goals as goal
use Rattle.conflict_pairs.proofs.class_pairs.push_row.Goals.{then-asks, else-asks}

pub new-requires-clause-first_fits : goal.new-requires-clause-first_fits
new-requires-clause-first_fits c = omega (arith, c.requires.number, c.requires.few)

pub new-requires-clause-second_fits : goal.new-requires-clause-second_fits
new-requires-clause-second_fits c = omega (arith, c.number_of.ensures.within, c.requires.few)

pub push_reserved-requires : goal.push_reserved-requires
push_reserved-requires c = omega (arith, c.loop-second-test.true, c.loop-second.invariant.room)

pub loop-second-init : goal.loop-second-init
loop-second-init c = record {
  row = row-none c.args.classes.now.places.items c.args.number c.args.pairs.now.items;
  room = omega (arith, c.requires.room);
}

pub loop-second-preserved : goal.loop-second-preserved
loop-second-preserved c =
    let places = c.args.classes.now.places.items in
    let number = c.args.number in
    let seconds = c.args.seconds.now in
    let i = c.loop-second.second-index in
    let base = c.args.pairs.now.items in
    let old = c.loop-second.pairs.items in
    let new = c.if-asks.pairs.items in
    let from = sym (get_or_read places number c.index-first.result.now c.requires.number c.index-first.ensures no_place) in
    elim c.if-asks.branch [
      | then-asks w ↦
          let added = ap (λ (v : Vec PlacePair Global). v.items) w.pairs-is ∙ w.push_reserved.ensures.items in
          let longer = ap (λ (v : Vec PlacePair Global). vec_len v) w.pairs-is ∙ w.push_reserved.ensures.len in
          let as_wide = ap (λ (v : Vec PlacePair Global). vec_capacity v) w.pairs-is ∙ w.push_reserved.ensures.capacity in
          let there = w.number_of.ensures.within in
          let second_there : w.new.result.second < length places = omega (arith, there, w.new.ensures.second) in
          let is = ap (place_at places) w.new.ensures.second ∙ w.number_of.ensures.is in
          record {
            row =
                row-yes places number base old i seconds _ (omega arith) c.loop-second.invariant.row c.index-first.result.now from new w.new.result added w.new.ensures.first second_there is
                (sym c.asks.ensures ∙ w.if-asks.true);
            room = omega (arith, longer, as_wide, c.loop-second.invariant.room);
          }
      | else-asks w ↦ record {
        row =
            row-no places number base old i seconds _ (omega arith) c.loop-second.invariant.row c.index-first.result.now from new (ap (λ (v : Vec PlacePair Global). v.items) w.pairs-is)
            (sym c.asks.ensures ∙ w.if-asks.false);
        room =
            omega (arith, ap (λ (v : Vec PlacePair Global). vec_len v) w.pairs-is, ap (λ (v : Vec PlacePair Global). vec_capacity v) w.pairs-is, c.loop-second.invariant.room);
      }
    ]

pub returns : goal.returns
returns c =
    subst (λ (l : List Placed). AddsRow c.args.classes.now.places.items c.args.number l c.args.pairs.now.items c.loop-second.pairs.items) (take_all c.loop-second.second-index c.args.seconds.now (omega arith)) c.loop-second.invariant.row
