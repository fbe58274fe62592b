use Rattle.std.proofs.Common.{◌≡◌, ◌+◌, length, length-append, refl, ap, ◌∙◌, arith}
use Rattle.std.proofs.lemmas.List.{nil_from_length}
use Rattle.conflict_pairs.specs.declared.interning.Interned.{Interned}
use Rattle.conflict_pairs.specs.declared.verdicts.Verdict.{Verdict}
use Rattle.conflict_pairs.specs.Sharing.{verdicts_in, numbers_in}
use Rattle.conflict_pairs.proofs.Entries.{nothing-left}
use Rattle.conflict_pairs.proofs.Parts.{joined-more, numbered-more}
use Rattle.conflict_pairs.proofs.parallel.all_verdicts.Goals as goal

pub loop-part-init : goal.loop-part-init
loop-part-init c = record {
  verdicts = rw c.in_ok-values.ensures.items (ap verdicts_in c.into_iter-part-iterator.ensures.into_iter_gives.0);
  numbers = rw (c.in_ok-numbers.ensures.items, c.in_ok-values.ensures.items) (ap (numbers_in 0) c.into_iter-part-iterator.ensures.into_iter_gives.0);
}

pub loop-part-preserved : goal.loop-part-preserved
loop-part-preserved c =
    let part = c.in-Some.part in
    let old = c.loop-part.values.items in
    let new = c.append.new.self.items in
    let before = c.len.result in
    let counted : before ≡ length old = omega (arith, c.len.ensures) in
    let added = rw (counted, c.deref-in-loop-part.ensures.value) at c.in_ok-push_numbers.ensures in
    let longer : length new ≡ length old + length part.values.items = ap length c.in_ok-append.ensures.items ∙ length-append old part.values.items in
    record {
      verdicts = joined-more (λ (p : Interned Verdict). p.values.items) old new _ _ _ part c.in-Some.ensures.steps.0 c.in_ok-append.ensures.items c.loop-part.invariant.verdicts;
      numbers = numbered-more c.loop-part.numbers.items c.push_numbers.new.numbers.items _ (length old) (length new) _ _ part c.in-Some.ensures.steps.0 added longer c.loop-part.invariant.numbers;
    }

pub returns-clause-verdicts : goal.returns-clause-verdicts
returns-clause-verdicts c =
    let left = c.loop-part.part-iterator.rest.items in
    nothing-left verdicts_in c.loop-part.values.items _ left refl (nil_from_length left (omega (arith, c.in-None.ensures.steps.0))) c.loop-part.invariant.verdicts

pub returns-clause-numbers : goal.returns-clause-numbers
returns-clause-numbers c =
    let left = c.loop-part.part-iterator.rest.items in
    nothing-left (numbers_in (length c.loop-part.values.items)) c.loop-part.numbers.items _ left refl (nil_from_length left (omega (arith, c.in-None.ensures.steps.0))) c.loop-part.invariant.numbers
