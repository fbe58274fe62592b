use Rattle.std.proofs.Common.{◌<◌, ◌+◌, ◌*◌, ◌++◌, ℕ, List, drop, length, string_bytes, sym, ap, subst, ◌∙◌, append_assoc, arith}
use Rattle.std.proofs.lemmas.Bool.{false≢true}
use Rattle.std.proofs.lemmas.Grind.{common_steps}
use Rattle.robust_cert.specs.declared.text.slates.Slate.{Slate}
use Rattle.robust_cert.specs.Parts.{AreTailsOf}
use Rattle.robust_cert.specs.Pieces.{TextLeft, next_entries_text}
use Rattle.robust_cert.specs.Sharing.{entries_told}
use Rattle.robust_cert.specs.Slates.{slates_text}
use Rattle.robust_cert.proofs.Slates.{fewer_left, none_left, some_left}
use Rattle.robust_cert.proofs.text.pieces.CertificateText.write_slates.Goals as goal

pub write-behind-requires-after_bounds : goal.write-behind-requires-after_bounds
write-behind-requires-after_bounds g c κs within =
    let some : 0 < length c.self.inside.left.now = grind (arith, common_steps) in
    record {
      have_reasons = c.self.invariant.have_reasons;
      have_tails = subst (AreTailsOf c.self.inside.reasons.now) (sym c.deref.ensures.value) c.self.invariant.have_tails;
      room = c.self.inside.room;
      have_room = c.self.invariant.have_room;
      are_wide = c.self.invariant.are_wide some;
    }

pub invariant_of-self : goal.invariant_of-self
invariant_of-self g c =
    let some : 0 < length c.self.inside.left.now = grind (arith, common_steps) in
    record {
      have_reasons = c.write-behind.ensures.within;
      have_tails = c.self.invariant.have_tails;
      have_room = c.self.invariant.have_room;
      is_wide = λ _. c.self.invariant.is_wide some;
      are_wide = λ _. c.write-behind.ensures.wide c.self.inside.room (c.self.invariant.are_wide some);
    }

pub returns-clause-behind : goal.returns-clause-behind
returns-clause-behind g c =
    let no : c.self.inside.slates.given < length c.self.inside.slates.all.items → ⊥ = λ lt. false≢true (sym c.if-has_next.false ∙ c.has_next.ensures.1 lt) in
    let rs = c.self.inside.reasons.now in
    let all = c.write-behind.new.self.all.items in
    let rest = next_entries_text (entries_told rs c.write-behind.result.now) in
    let closing = string_bytes c.self.inside.closing in
    ap (λ (n : ℕ). slates_text (drop n all) ++ (rest ++ closing)) c.write-behind.ensures.given
    ∙ sym (append_assoc (slates_text all) rest closing)
    ∙ ap (λ (l : List ℕ). l ++ closing) c.write-behind.ensures.text
    ∙ ap (λ (l : List Slate). slates_text l ++ (next_entries_text (entries_told rs c.self.inside.left.now) ++ closing)) (sym (none_left c.self.inside.slates no))
    ∙ ap (λ (t : TextLeft). t.behind) c.self.view_is

pub returns-clause-steps : goal.returns-clause-steps
returns-clause-steps g c =
    let no : c.self.inside.slates.given < length c.self.inside.slates.all.items → ⊥ = λ lt. false≢true (sym c.if-has_next.false ∙ c.has_next.ensures.1 lt) in
    let some : 0 < length c.self.inside.left.now = grind (arith, common_steps) in
    let slates = length c.self.inside.slates.all.items in
    let rest = length c.write-behind.result.now in
    let fewer = fewer_left slates (length c.self.inside.left.now) rest (λ one. c.write-behind.ensures.fewer one some) c.write-behind.ensures.most in
    let given = ap (λ (n : ℕ). length (drop n c.write-behind.new.self.all.items)) c.write-behind.ensures.given in
    let product = ap (λ (n : ℕ). rest * (n + 1)) c.write-behind.ensures.count in
    let none = ap length (none_left c.self.inside.slates no) in
    let old = ap (λ (t : TextLeft). t.steps) c.self.view_is in
    omega (arith, fewer, given, product, none, old, c.write-behind.ensures.count)

pub returns-clause-some : goal.returns-clause-some
returns-clause-some g c _ =
    let some : 0 < length c.self.inside.left.now = grind (arith, common_steps) in
    let count = length c.write-behind.new.self.all.items in
    let rest = length c.write-behind.result.now in
    let given = ap (λ (n : ℕ). length (drop n c.write-behind.new.self.all.items)) c.write-behind.ensures.given in
    let left = some_left count (length c.self.inside.left.now) rest some (λ zero. ap length (c.write-behind.ensures.none (omega (arith, zero, c.write-behind.ensures.count)))) in
    omega (arith, left, given)
