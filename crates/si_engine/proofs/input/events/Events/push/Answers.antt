use Rattle.std.proofs.Common.{length, refl, rules}
use Rattle.si_engine.specs.declared.input.events.Item.TheVariants.{Kept}
use Rattle.si_engine.proofs.EventLaws.{counts_kept, counts_said, keeps_one_more, says_one_more}
use Rattle.si_engine.proofs.input.events.Events.push.Goals.{in-Begin-2, in-BeginAt-2, in-Step-2}
use Rattle.si_engine.proofs.input.events.Events.push.Goals as goal

pub invariant_of-self-in-Some-3 : goal.invariant_of-self-in-Some-3
invariant_of-self-in-Some-3 c =
    let counted = counts_said c.self.inside.items.items (length c.self.inside.kept) c.in-Some.item c.args.event c.self.invariant c.in-Some.ensures.said in
    search rules

pub invariant_of-self-in-None : goal.invariant_of-self-in-None
invariant_of-self-in-None c =
    let counted = counts_kept c.self.inside.items.items c.self.inside.kept Kept c.args.event c.self.invariant refl in
    search rules

pub returns-in-Some-clause-ok : goal.returns-in-Some-clause-ok
returns-in-Some-clause-ok c =
    let more = says_one_more c.self.inside.items.items c.self.inside.kept c.in-Some.item c.args.event c.self.invariant c.in-Some.ensures.said in
    elim c.match-event-2.branch [ in-Begin-2 w ↦ search rules | in-BeginAt-2 w ↦ search rules | in-Step-2 w ↦ search rules ]

pub returns-in_ok-push-in-None-clause-ok : goal.returns-in_ok-push-in-None-clause-ok
returns-in_ok-push-in-None-clause-ok c =
    let more = keeps_one_more c.self.inside.items.items c.self.inside.kept Kept c.args.event c.self.invariant refl in
    search rules
