use Rattle.std.proofs.Common.{rules, sym}
use Rattle.std.specs.Prelude.{IsTrue}
use Rattle.si_workers.proofs.TallyLemmas.{covered, same_counts}
use Rattle.si_workers.proofs.tally.Tally.is_same.Goals as goal

pub returns-then-covered : goal.returns-then-covered
returns-then-covered g c =
    let one = c.args.self.now in
    let other = c.args.other.now in
    let is : IsTrue c.is_covered-covered.result = search rules in (
      λ t. same_counts g.K.Ord.cmp g.met.K.Ord.total one other (c.is_covered-covered.ensures.told.0 is) (c.is_covered-covers.ensures.told.0 t),
      λ same. c.is_covered-covers.ensures.told.1 (covered g.K.Ord.cmp other one c.is_covered-covers.ensures.own (λ q. sym (same q))),
    )
