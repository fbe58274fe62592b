use Rattle.std.proofs.Common.{◌∙◌, ◌++◌, List, ℕ, ap, codes, string_bytes}
use Rattle.std.proofs.lemmas.Result.{IfOk-weaker}
use Rattle.prog_tree.specs.Tree.{draft_tree}
use Rattle.analysis_words.specs.Repairs.{pair_sentence}
use Rattle.analysis_words.proofs.repair_faults.promotion_words.Goals as goal

pub returns : goal.returns
returns c =
    let look = string_bytes c.in_ok-look.look in
    let verb = c.obstacle_verb.ensures in
    let rest = c.deref.ensures ∙ c.in_ok-rest.ensures.ok ∙ ap (λ (l : List ℕ). l ++ codes ": repair without `--promote`") c.obstacle_reason-reason.ensures in
    let sentence = c.in_ok-sentence.ensures ∙ (λ i. pair_sentence (draft_tree c.args.set.now) c.args.pair (verb i) (rest i)) in
    IfOk-weaker c.format-2.result _ _ (λ words is. (look, is ∙ ap (λ (l : List ℕ). l ++ look) sentence)) c.format-2.ensures.ok
