use Rattle.std.proofs.Common.{subst, refl, rules, arith}
use Rattle.std.specs.List.{All}
use Rattle.std.proofs.lemmas.List.{take_all}
use Rattle.std.proofs.lemmas.List.Elements.{All-more}
use Rattle.si_workers.specs.Outcomes.{IsOfSomeJob}
use Rattle.si_workers.proofs.comparing.are_all_of_some_job.Goals as goal

pub loop-ending-preserved : goal.loop-ending-preserved
loop-ending-preserved c =
    All-more (IsOfSomeJob c.args.counts.now.tidings) c.args.endings.now c.loop-ending.ending-index c.ending-item.result c.loop-ending-test.true c.loop-ending.invariant
    (subst (IsOfSomeJob c.args.counts.now.tidings) c.ending-item.is (c.is_of_some_job.ensures.0 (search rules)))

pub returns : goal.returns
returns c = (
  λ t. subst (λ l. All (IsOfSomeJob c.args.counts.now.tidings) l) (take_all c.loop-ending.ending-index c.args.endings.now (omega arith)) c.loop-ending.invariant,
  λ all. refl,
)
