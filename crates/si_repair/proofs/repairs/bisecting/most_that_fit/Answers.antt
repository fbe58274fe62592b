use Rattle.std.proofs.Common.{◌+◌, ◌≡◌, arith, subst}
use Rattle.si_repair.proofs.repairs.bisecting.most_that_fit.Goals as goal

pub loop-large-init : goal.loop-large-init
loop-large-init g c = record {
  order = omega (arith, c.requires.some);
  inside = omega arith;
  fits = c.requires.none;
  refused = c.requires.all;
}

pub fit-requires-clause-within : goal.fit-requires-clause-within
fit-requires-clause-within g c = omega (arith, c.loop-large.invariant.order, c.loop-large.invariant.inside, c.requires.within)

pub loop-large-preserved-then-branch : goal.loop-large-preserved-then-branch
loop-large-preserved-then-branch g c =
    let order = c.loop-large.invariant.order in
    let more = c.loop-large-test.true in record {
      order = omega (arith, order, more);
      inside = c.loop-large.invariant.inside;
      fits = c.in_ok-fit.ensures.fits c.if-branch.true;
      refused = c.loop-large.invariant.refused;
    }

pub returns-clause-refused : goal.returns-clause-refused
returns-clause-refused g c =
    let order = c.loop-large.invariant.order in
    let last : c.loop-large.large ≡ c.loop-large.fitting + 1 = omega (arith, order, c.loop-large-test.false) in
    subst (λ n. g.F.Firsts.is_refused c.args.firsts.now n) last c.loop-large.invariant.refused
