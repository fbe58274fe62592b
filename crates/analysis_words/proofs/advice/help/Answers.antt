use Rattle.std.proofs.Common.{◌∙◌, ◌++◌, List, ℕ, ap, codes, sym}
use Rattle.std.proofs.lemmas.Bool.{false≢true}
use Rattle.std.proofs.lemmas.Result.{IfOk-weaker}
use Rattle.text_places.specs.Places.{line_number}
use Rattle.analysis_words.specs.Helping.{keep_text, parameter_text, shared_text}
use Rattle.analysis_words.specs.Helping.IsHelp.{OfNoLook, KeptByBoth, KeptByFirst, KeptByParameter}
use Rattle.analysis_words.specs.Nodes.{seen}
use Rattle.analysis_words.proofs.advice.help.Goals as goal

pub returns-in_default : goal.returns-in_default
returns-in_default c =
    let missing = rw c.in_default.is at c.access_place.ensures.none in
    IfOk-weaker c.format.result _ _ (λ text is. OfNoLook missing (is ∙ ap (λ (l : List ℕ). codes "a cell that " ++ l) c.in_ok-keepers.ensures)) c.format.ensures.ok

pub returns-then-is_shared : goal.returns-then-is_shared
returns-then-is_shared c =
    let shown = c.args.shown in
    let stands = rw c.in-Some.is at c.access_place.ensures.found in
    let cells = c.as_str-cells.ensures.value ∙ c.in_ok-found.ensures in
    IfOk-weaker c.shared_text.result _ _ (λ text is. KeptByBoth c.in-Some.place stands (c.in_ok-is_shared.ensures.0 c.if-is_shared.true)
    (is ∙ ap (shared_text (seen shown) c.args.question) cells)) c.shared_text.ensures

pub returns-then-is_under_unknown_key : goal.returns-then-is_under_unknown_key
returns-then-is_under_unknown_key c =
    let shown = c.args.shown in
    let stands = rw c.in-Some.is at c.access_place.ensures.found in
    let cells = c.as_str-cells.ensures.value ∙ c.in_ok-found.ensures in
    let line = c.line_number-line.ensures ∙ ap (λ (text : List ℕ). line_number text c.in-Some.place) c.bytes.ensures in
    IfOk-weaker c.parameter_text.result _ _ (λ text is. KeptByParameter c.in-Some.place stands
    (λ h. false≢true (sym c.if-is_shared.false ∙ c.in_ok-is_shared.ensures.1 h)) (c.is_under_unknown_key.ensures.0 c.if-is_under_unknown_key.true)
    (is ∙ (λ i. parameter_text (seen shown) c.args.question (cells i) (line i)))) c.parameter_text.ensures

pub returns : goal.returns
returns c =
    let shown = c.args.shown in
    let stands = rw c.in-Some.is at c.access_place.ensures.found in
    let cells = c.as_str-cells.ensures.value ∙ c.in_ok-found.ensures in
    let line = c.line_number-line.ensures ∙ ap (λ (text : List ℕ). line_number text c.in-Some.place) c.bytes.ensures in
    IfOk-weaker c.keep_text.result _ _ (λ text is. KeptByFirst c.in-Some.place stands
    (λ h. false≢true (sym c.if-is_shared.false ∙ c.in_ok-is_shared.ensures.1 h)) (λ h. false≢true (sym c.if-is_under_unknown_key.false ∙ c.is_under_unknown_key.ensures.1 h))
    (is ∙ (λ i. keep_text (seen shown) c.args.question (cells i) (line i)))) c.keep_text.ensures
