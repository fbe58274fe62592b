use Rattle.std.proofs.Common.{◌≡◌, ◌∙◌, ℕ, List, IfOk, IfSome, string_bytes, subst}
use Rattle.analysis_words.specs.Edges.{twin_change_text, twin_look_text}
use Rattle.analysis_words.specs.Nodes.{seen}
use Rattle.analysis_words.specs.Refusing.{ShowsQuestion}
use Rattle.analysis_words.proofs.edges.twin_words.Goals as goal

pub returns-clause-said : goal.returns-clause-said
returns-clause-said c =
    let sight = seen c.args.shown in
    let edge = c.args.edge.now in
    let shows : (look change : List ℕ) → Type 0 =
    λ look change. IfOk c.question_words.result (λ said. IfSome said (λ words.
    ShowsQuestion sight edge.question look change (string_bytes words))) in
    let look : c.deref.result.now ≡ twin_look_text sight edge = c.deref.ensures ∙ c.in_ok-look.ensures in
    let change : c.deref-2.result.now ≡ twin_change_text sight edge = c.deref-2.ensures ∙ c.in_ok-change.ensures in
    subst (λ (l : List ℕ). shows l (twin_change_text sight edge)) look
    (subst (λ (l : List ℕ). shows c.deref.result.now l) change c.question_words.ensures.said)
