use Rattle.std.proofs.Common.{◌∙◌, ◌++◌, List, ℕ, ap, codes, inl, inr}
use Rattle.std.specs.Fmt.{decimal}
use Rattle.std.proofs.lemmas.Result.{IfOk-weaker}
use Rattle.text_places.specs.Places.{line_number}
use Rattle.analysis_words.proofs.shown.access_text.Goals as goal

pub returns-in_default : goal.returns-in_default
returns-in_default c =
    let name = c.in_ok-name.ensures in
    let missing = rw c.in_default.is at c.access_place.ensures.none in
    IfOk-weaker c.format.result _ _ (λ words is. inr (missing, is ∙ (λ i. codes "access " ++ (decimal c.args.access ++ (codes " of " ++ (name i ++ codes ", which it has not"))))))
    c.format.ensures.ok

pub returns : goal.returns
returns c =
    let name = c.in_ok-name.ensures in
    let statement = c.in_ok-statement.ensures in
    let line = c.line_number-line.ensures ∙ ap (λ (text : List ℕ). line_number text c.in-Some.place) c.bytes.ensures in
    let found = rw c.in-Some.is at c.access_place.ensures.found in
    IfOk-weaker c.format-2.result _ _ (λ words is. inl (
      c.in-Some.place,
      found,
      is ∙ (λ i. codes "`" ++ (statement i ++ (codes "` of " ++ (name i ++ (codes " in line " ++ decimal (line i)))))),
    )) c.format-2.ensures.ok
