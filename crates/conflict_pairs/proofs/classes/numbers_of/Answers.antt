use Rattle.std.proofs.Common.{arith}
use Rattle.conflict_pairs.specs.Classes.{AreOneClass}
use Rattle.conflict_pairs.proofs.OneClass.{AreNumbered-from}
use Rattle.conflict_pairs.proofs.Serving.{all-within}
use Rattle.conflict_pairs.proofs.classes.numbers_of.Goals as goal

pub returns-clause-numbered : goal.returns-clause-numbered
returns-clause-numbered c =
    let interned = c.in_ok-values.field-0 in
    AreNumbered-from c.args.classes.now interned.values.items c.args.places.now interned.numbers.items c.in_ok-values.ensures.served

pub returns-clause-within : goal.returns-clause-within
returns-clause-within c =
    let interned = c.in_ok-values.field-0 in
    λ k d lt. let h = all-within (AreOneClass c.args.classes.now) interned.values.items c.args.places.now interned.numbers.items c.in_ok-values.ensures.served k d lt in
    omega (arith, h, c.len.ensures)
