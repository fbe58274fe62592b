use Rattle.std.proofs.Common.{◌∙◌, ◌++◌, ap, codes, map, string_bytes}
use Rattle.std.proofs.lemmas.Result.{IfOk-weaker}
use Rattle.text_places.specs.Quotes.{visible}
use Rattle.run_words.proofs.lost_jobs.job_line.Goals as goal

pub returns : goal.returns
returns c =
    let text = string_bytes c.in_ok-text.text in
    let shown = c.in_ok-shown.ensures ∙ ap (map visible) c.as_bytes.ensures.value in
    IfOk-weaker c.format.result _ _ (λ line is. (text, c.in_ok-text.ensures, is ∙ (λ i. codes "  " ++ (text ++ (codes ": " ++ (shown i ++ codes "\n"))))))
    c.format.ensures.ok
