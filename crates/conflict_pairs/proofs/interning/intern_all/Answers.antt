use Rattle.std.proofs.Common.{List, subst, take_all, arith}
use Rattle.std.specs.List.{AllZip}
use Rattle.rayon.proofs.ListFacts.{AllZip-weaken}
use Rattle.conflict_pairs.specs.Interning.{IsServed}
use Rattle.conflict_pairs.proofs.Zipped.{AllZip-more}
use Rattle.conflict_pairs.proofs.Serving.{served-kept}
use Rattle.conflict_pairs.proofs.interning.intern_all.Goals as goal

pub push_reserved-requires : goal.push_reserved-requires
push_reserved-requires g c = omega (arith, c.loop-key-test.true, c.loop-key.invariant.one_each, c.loop-key.invariant.room)

pub loop-key-preserved : goal.loop-key-preserved
loop-key-preserved g c =
    let serves = g.I.Interner.serves c.args.interner.now in
    let old = c.loop-key.values.items in
    let new = c.number_of.new.values.items in
    record {
      sound = c.in_ok-number.ensures.sound;
      served =
          AllZip-more (IsServed serves new) c.args.keys.now c.loop-key.numbers.items c.push_reserved.new.self.items c.loop-key.key-index c.key-item.result _ (omega arith) c.push_reserved.ensures.items
          (subst (λ (k : g.row.I-Key.Denot). IsServed serves new k c.in_ok-number.number) c.key-item.is c.in_ok-number.ensures.served)
          (AllZip-weaken (IsServed serves old) (IsServed serves new) (served-kept serves old new c.in_ok-number.ensures.keeps) _ _ c.loop-key.invariant.served);
      one_each = omega (arith, c.push_reserved.ensures.len, c.loop-key.invariant.one_each);
      room = omega (arith, c.push_reserved.ensures.capacity, c.loop-key.invariant.room);
    }

pub returns : goal.returns
returns g c = record {
  sound = c.loop-key.invariant.sound;
  served =
      subst (λ (l : List g.row.I-Key.Denot). AllZip (IsServed (g.I.Interner.serves c.args.interner.now) c.loop-key.values.items) l c.loop-key.numbers.items)
      (take_all c.loop-key.key-index c.args.keys.now (omega arith)) c.loop-key.invariant.served;
}
