use Rattle.std.proofs.Common.{List, subst, take_all, arith}
use Rattle.conflict_pairs.specs.declared.pairing.PlacePair.{PlacePair}
use Rattle.conflict_pairs.specs.Sharing.{AreServedSoFar}
use Rattle.conflict_pairs.proofs.SharedVerdicts.{served-more}
use Rattle.conflict_pairs.proofs.judge.verdicts_of.Goals as goal

pub number_of_pair-requires-clause-pair : goal.number_of_pair-requires-clause-pair
number_of_pair-requires-clause-pair c = c.requires c.loop-k.k _ (omega arith)

pub push_reserved-requires : goal.push_reserved-requires
push_reserved-requires c = omega (arith, c.loop-k-test.true, c.loop-k.invariant.one_each, c.loop-k.invariant.room)

pub loop-k-preserved : goal.loop-k-preserved
loop-k-preserved c =
    let old = c.loop-k.values.items in
    let new = c.number_of_pair.new.values.items in
    record {
      sound = c.in_ok-number.ensures.sound;
      served = served-more c.args.paths.now c.args.places.now c.args.pairs.now old new c.loop-k.numbers.items c.push_reserved.new.self.items c.loop-k.k _ c.in_ok-number.number (omega arith) c.in_ok-number.ensures.keeps c.in_ok-number.ensures.served c.push_reserved.ensures.items c.loop-k.invariant.served;
      one_each = omega (arith, c.push_reserved.ensures.len, c.loop-k.invariant.one_each);
      room = omega (arith, c.push_reserved.ensures.capacity, c.loop-k.invariant.room);
    }

pub returns : goal.returns
returns c = record {
  sound = c.loop-k.invariant.sound;
  served =
      subst (λ (l : List PlacePair). AreServedSoFar c.args.paths.now c.args.places.now c.loop-k.values.items l c.loop-k.numbers.items)
      (take_all c.loop-k.k c.args.pairs.now (omega arith)) c.loop-k.invariant.served;
}
