use Rattle.std.proofs.Common.{◌∙◌, ◌++◌, ℕ, List, [], ◌∷◌, ap, arith, sym, rules, w64, FitsSigned}
use Rattle.std.proofs.lemmas.Int.{to_z-of_z}
use Rattle.std.proofs.lemmas.List.FromFn.{map-range_with_len_more}
use Rattle.std.specs.Prelude.{ℤ}
use Rattle.order_facts.specs.Sample.{sample_number}
use Rattle.analysis_words.specs.Instances.{node_of}
use Rattle.sirob.specs.Refusal.{sample_numbers}
use Rattle.sirob.proofs.commands.refusal.sample_numbers.Goals as goal

pub loop-i-preserved : goal.loop-i-preserved
loop-i-preserved c =
    let sample = c.args.sample.now in
    let i = c.loop-i.i in
    let fits : FitsSigned w64 c.get.result = search rules in
    c.in_ok-push.ensures.items ∙ ap (λ (k : ℤ). c.loop-i.numbers.items ++ k ∷ []) (to_z-of_z w64 c.get.result fits)
    ∙ ap (λ (l : List ℤ). l ++ c.get.result ∷ []) c.loop-i.invariant
    ∙ ap (λ (k : ℤ). sample_numbers sample c.args.is_first i ++ k ∷ []) (c.get.ensures ∙ ap (sample_number sample) c.node_of.ensures)
    ∙ sym (map-range_with_len_more (λ (n : ℕ). sample_number sample (node_of c.args.is_first n)) 0 i i (omega arith))
