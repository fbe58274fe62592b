use Rattle.std.proofs.Common.{arith}
use Rattle.std.proofs.lemmas.Grind.{common_steps}
use Rattle.conflict_pairs.proofs.Likeness.{classes-more}
use Rattle.conflict_pairs.proofs.alike.cover_classes_of.Goals as goal

pub loop-x-preserved : goal.loop-x-preserved
loop-x-preserved c = record {
  long = grind (arith, common_steps);
  same =
      classes-more c.args.paths.now c.loop-x.classes.items c.push.new.self.items c.loop-x.x c.cover_class_of.result c.loop-x.invariant.long
      c.in_ok-push.ensures.items c.cover_class_of.ensures c.loop-x.invariant.same;
}

pub returns : goal.returns
returns c = record {
  one_each = omega arith;
  same = λ x lt. c.loop-x.invariant.same x (omega arith);
}
