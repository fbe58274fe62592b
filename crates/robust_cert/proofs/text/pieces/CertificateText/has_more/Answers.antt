use Rattle.std.proofs.Common.{◌≡◌, ◌<◌, ◌++◌, List, length, string_bytes, sym, ap, ◌∙◌, arith}
use Rattle.std.proofs.lemmas.Bool.{false≢true}
use Rattle.std.proofs.lemmas.Grind.{common_steps}
use Rattle.robust_cert.specs.declared.text.slates.Slate.{Slate}
use Rattle.robust_cert.specs.Pieces.{TextLeft, next_entries_text}
use Rattle.robust_cert.specs.Sharing.{entries_told}
use Rattle.robust_cert.specs.Slates.{slates_text}
use Rattle.robust_cert.proofs.Pieces.{nothing_left}
use Rattle.robust_cert.proofs.Slates.{none_left}
use Rattle.robust_cert.proofs.text.pieces.CertificateText.has_more.Goals as goal

pub returns-then-not-is_empty-clause-more : goal.returns-then-not-is_empty-clause-more
returns-then-not-is_empty-clause-more c more =
    let some : 0 < length c.self.inside.left.now = grind (arith, common_steps) in
    omega (arith, some, ap (λ (t : TextLeft). t.steps) c.self.view_is)

pub returns-clause-more : goal.returns-clause-more
returns-clause-more c more =
    let some : 0 < length (string_bytes c.self.inside.closing) = grind (arith, common_steps) in
    omega (arith, some, ap (λ (t : TextLeft). t.steps) c.self.view_is)

pub returns-clause-end : goal.returns-clause-end
returns-clause-end c end =
    let left = c.self.inside.left.now in
    let closing = string_bytes c.self.inside.closing in
    let none : length left ≡ 0 = grind (arith, common_steps) in
    let bare : length closing ≡ 0 = grind (arith, common_steps) in
    let no : c.self.inside.slates.given < length c.self.inside.slates.all.items → ⊥ = λ lt. false≢true (sym c.if-has_next.false ∙ c.has_next.ensures.1 lt) in
    sym (ap (λ (t : TextLeft). t.behind) c.self.view_is)
    ∙ ap (λ (l : List Slate). slates_text l ++ (next_entries_text (entries_told c.self.inside.reasons.now left) ++ closing)) (none_left c.self.inside.slates no)
    ∙ nothing_left c.self.inside.reasons.now left closing none bare
