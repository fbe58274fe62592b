use Rattle.std.proofs.Common.{◌≡◌, ◌↔◌, ◌∙◌, ℕ, IsTrue, List, subst}
use Rattle.analysis_words.specs.Edges.{told_text, IsSameQuestion}
use Rattle.analysis_words.specs.Nodes.{seen}
use Rattle.analysis_words.proofs.edges.is_repeated.Goals as goal

pub returns : goal.returns
returns c =
    let sight = seen c.args.shown in
    let danger = c.args.danger.now in
    let repeats : (told second : List ℕ) → Type 0 =
    λ told second. IsTrue c.is_one-answer.result ↔ (IsSameQuestion danger.first.question danger.second.question × (told ≡ second)) in
    let first : c.deref.result.now ≡ told_text sight danger.first = c.deref.ensures ∙ c.in_ok-told.ensures in
    let second : c.deref-2.result.now ≡ told_text sight danger.second = c.deref-2.ensures ∙ c.in_ok-second.ensures in
    subst (λ (l : List ℕ). repeats l (told_text sight danger.second)) first
    (subst (λ (l : List ℕ). repeats c.deref.result.now l) second c.is_one-answer.ensures)
