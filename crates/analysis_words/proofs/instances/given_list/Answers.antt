use Rattle.std.proofs.Common.{arith, ap, ◌∙◌, ◌++◌, string_bytes}
use Rattle.analysis_words.specs.Instances.{given_text}
use Rattle.analysis_words.proofs.Listing.{one_more, whole_at_end}
use Rattle.analysis_words.proofs.instances.given_list.Goals as goal

pub loop-number-preserved : goal.loop-number-preserved
loop-number-preserved c =
    let number = c.loop-number.number in
    let text = string_bytes c.loop-number.text in
    one_more c.args.sample.now c.args.is_first c.args.params.now number c.index-params-number.result _ text
    (string_bytes c.push_str.new.self) c.loop-number-test.true
    (c.in_ok-push_str.ensures.bytes ∙ ap (λ l. text ++ l) (c.deref.ensures ∙ c.in_ok-given.ensures
    ∙ ap (λ name. given_text c.args.sample.now c.args.is_first number name) c.index-params-number.is))
    c.loop-number.invariant

pub returns : goal.returns
returns c =
    whole_at_end c.args.sample.now c.args.is_first c.args.params.now c.loop-number.number _ (string_bytes c.loop-number.text)
    (omega (arith, c.loop-number-test.false)) c.loop-number.invariant
