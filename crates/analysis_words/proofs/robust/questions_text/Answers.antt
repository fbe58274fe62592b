use Rattle.std.proofs.Common.{◌∙◌, ◌++◌, ◌-◌, ℕ, ap, codes}
use Rattle.std.specs.Fmt.{decimal}
use Rattle.std.proofs.lemmas.Result.{IfOk-weaker}
use Rattle.analysis_words.proofs.robust.questions_text.Goals as goal

pub returns : goal.returns
returns c =
    let most = c.args.most.now in
    let asked = c.args.asked in
    let entries = c.in_ok-entries.ensures in
    let left = c.saturating_sub-left.ensures ∙ ap (λ (count : ℕ). asked - count) c.len.ensures in
    IfOk-weaker c.format.result _ _ (λ text ok. ok ∙ (λ i. codes "each run of this set has a serial order: of " ++ (decimal asked
    ++ (codes " pairs of accesses that could touch one row, " ++ (entries i ++ (most ++ (codes ", and "
    ++ (decimal (left i) ++ codes " are in order by the levels\n")))))))) c.format.ensures.ok
