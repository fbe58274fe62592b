use Rattle.std.proofs.Common.{◌∙◌, ◌++◌, List, ℕ, ap, string_bytes}
use Rattle.std.proofs.lemmas.Result.{IfOk-weaker}
use Rattle.analysis_words.proofs.repair.pair_words.Goals as goal

pub returns : goal.returns
returns c =
    let looks = string_bytes c.in_ok-reasons.reasons in
    IfOk-weaker c.format.result _ _ (λ words is. (c.deref.result.now, looks, is ∙ ap (λ (l : List ℕ). l ++ looks) c.in_ok-sentence.ensures))
    c.format.ensures.ok
