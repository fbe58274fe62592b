use Rattle.std.proofs.Common.{◌≡◌, ◌∙◌, ◌++◌, ◌==◌, ℕ, List, codes, if◌then◌else◌, refl}
use Rattle.std.proofs.lemmas.Bool.{ne_eqb}
use Rattle.std.proofs.lemmas.Result.{IfOk-weaker}
use Rattle.analysis_words.specs.Nodes.{node_name, seen}
use Rattle.analysis_words.proofs.advice.clashing_text.Goals as goal

unlike : (x y : ℕ) (alike other : List ℕ) → (x ≡ y → ⊥) → other ≡ (if x == y then alike else other)
unlike x y alike other differ = rw (ne_eqb x y differ) refl

pub returns : goal.returns
returns c =
    let q = c.args.question in
    let name : ℕ → List ℕ = node_name (seen c.args.shown) in
    let reader = c.in_ok-reader.ensures in
    let writer = c.in_ok-writer.ensures in
    IfOk-weaker c.format-2.result _ _ (λ text ok. ok ∙ (λ i. reader i ++ (codes " clashes with " ++ writer i))
    ∙ unlike q.x q.y (codes "two runs of " ++ (name q.x ++ codes " clash")) (name q.x ++ (codes " clashes with " ++ name q.y)) c.if-question.false)
    c.format-2.ensures.ok
