use Rattle.std.proofs.Common.{◌≡◌, sym, subst, arith, of_z, to_z, w64}
use Rattle.std.proofs.lemmas.Int.{ints}
use Rattle.std.proofs.lemmas.List.Elements.{All-push}
use Rattle.order_facts.specs.Sample.{IsSampled}
use Rattle.order_facts.proofs.Choices.{HasChoice-push, HasChoice-last}
use Rattle.order_facts.proofs.sample.choose.Goals as goal

pub returns-in_ok-push-clause-sampled : goal.returns-in_ok-push-clause-sampled
returns-in_ok-push-clause-sampled c =
    let same : to_z w64 (of_z w64 c.nearest_number-number.result) ≡ c.nearest_number-number.result = omega (arith, ints) in
    let sampled = subst (λ z. IsSampled c.args.facts.now c.args.node z) (sym same) c.nearest_number-number.ensures in
    rw c.in_ok-push.ensures.items (All-push (λ d. IsSampled c.args.facts.now d.node d.number) c.args.choices.now.items _ c.requires.sampled sampled)

pub returns-in_ok-push-clause-has : goal.returns-in_ok-push-clause-has
returns-in_ok-push-clause-has c = rw c.in_ok-push.ensures.items (HasChoice-last c.args.choices.now.items c.args.node _)

pub returns-in_ok-push-clause-keeps : goal.returns-in_ok-push-clause-keeps
returns-in_ok-push-clause-keeps c = λ n h. rw c.in_ok-push.ensures.items (HasChoice-push c.args.choices.now.items _ n h)
