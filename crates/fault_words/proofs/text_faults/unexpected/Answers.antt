use Rattle.std.proofs.Common.{◌≡◌, ◌∙◌, List, ℕ, ap, codes, inr, sym, true}
use Rattle.std.proofs.lemmas.Result.{IfOk-weaker}
use Rattle.text_places.specs.Quotes.{pointed_out}
use Rattle.text_places.specs.Reading.{end_before, last_end, without_comments}
use Rattle.fault_words.specs.Pointing.{may_lack_semicolon}
use Rattle.fault_words.proofs.text_faults.unexpected.Goals as goal

-- the words point where the token before ends
pub returns-then-lacks_semicolon : goal.returns-then-lacks_semicolon
returns-then-lacks_semicolon c =
    let at_end : ℕ → List ℕ = λ place. pointed_out c.args.text.now place (codes "a `;` is missing here") in
    let blanked : List ℕ = without_comments c.args.text.now in
    let end : c.last_end-end.result ≡ end_before c.args.text.now c.args.place =
    c.last_end-end.ensures ∙ ap (λ (plain : List ℕ). last_end plain c.args.place) (c.deref.ensures.value ∙ c.in_ok-plain.ensures) in
    let plain : c.deref-2.result.now ≡ blanked = c.deref-2.ensures.value ∙ c.in_ok-plain.ensures in
    let may : may_lack_semicolon blanked (end_before c.args.text.now c.args.place) c.args.place ≡ true =
    ap (λ (at : ℕ). may_lack_semicolon blanked at c.args.place) (sym end)
    ∙ (ap (λ (bytes : List ℕ). may_lack_semicolon bytes c.last_end-end.result c.args.place) (sym plain)
    ∙ c.lacks_semicolon.ensures c.if-lacks_semicolon.true) in
    IfOk-weaker c.point_out.result _ _ (λ words is. inr (is ∙ ap at_end end, may)) c.point_out.ensures
