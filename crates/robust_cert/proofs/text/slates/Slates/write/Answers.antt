use Rattle.std.proofs.Common.{◌≡◌, ◌<◌, ◌++◌, [], ℕ, List, drop, get_or, length, string_bytes, sym, ap, subst, ◌∙◌, arith}
use Rattle.std.proofs.lemmas.List.{drop_all, take_at}
use Rattle.std.specs.Prelude.{All}
use Rattle.robust_cert.specs.declared.entries.Told.{Told}
use Rattle.robust_cert.specs.declared.text.slates.Slate.{Slate}
use Rattle.robust_cert.specs.Pieces.{next_entries_text}
use Rattle.robust_cert.specs.Sharing.{entries_told}
use Rattle.robust_cert.specs.Slates.{IsWide, slates_entries, slates_text}
use Rattle.robust_cert.proofs.Slates.{all_written, next-append}
use Rattle.robust_cert.proofs.text.slates.Slates.write.Goals as goal

pub returns-clause-text : goal.returns-clause-text
returns-clause-text g c =
    let rs = c.args.reasons.now in
    let before = c.deal_out-behind.new.self.all.items in
    let after = c.par_for_each_mut.new.s in
    let left = c.deal_out-behind.result.now in
    let same : length after ≡ c.deal_out-behind.new.self.all.len = omega (arith, c.par_for_each_mut.auto.s, c.deref_mut.ensures.len) in
    let back = take_at after (drop (length after) before) c.deal_out-behind.new.self.all.len same in
    let count : length before ≡ length after = omega (arith, c.par_for_each_mut.auto.s, ap length c.deref_mut.ensures.value) in
    ap (λ (l : List Slate). slates_text l ++ next_entries_text (entries_told rs left)) back
    ∙ ap (λ (l : List ℕ). l ++ next_entries_text (entries_told rs left)) (all_written rs before after count
    (λ k d lt.
    let at = (c.par_for_each_mut.ensures k d (omega (arith, lt, c.par_for_each_mut.auto.s))).1 in
    ap (λ (s : Slate). string_bytes s.text) (sym at.left) ∙ at.call.0 ∙ ap (λ (s : Slate). next_entries_text (entries_told rs s.entries.now)) (at.argument_is ∙ ap (λ (l : List Slate). get_or l k d) c.deref_mut.ensures.value)))
    ∙ sym (next-append rs (slates_entries before) left)
    ∙ ap (λ (l : List Told). next_entries_text (entries_told rs l)) c.deal_out-behind.ensures.all

pub returns-clause-wide : goal.returns-clause-wide
returns-clause-wide g c = λ bytes all.
    let before = c.deal_out-behind.new.self.all.items in
    let after = c.par_for_each_mut.new.s in
    let same : length after ≡ c.deal_out-behind.new.self.all.len = omega (arith, c.par_for_each_mut.auto.s, c.deref_mut.ensures.len) in
    let back = take_at after (drop (length after) before) c.deal_out-behind.new.self.all.len same in
    let wide = c.deal_out-behind.ensures.wide bytes all in
    subst (All (IsWide bytes)) (sym back)
    (λ k d lt.
    let there : k < length before = omega (arith, lt, c.par_for_each_mut.auto.s, ap length c.deref_mut.ensures.value) in
    let at = (c.par_for_each_mut.ensures k d (omega (arith, lt, c.par_for_each_mut.auto.s))).1 in
    let old = subst (IsWide bytes) (sym (at.argument_is ∙ ap (λ (l : List Slate). get_or l k d) c.deref_mut.ensures.value)) (wide k d there) in
    subst (IsWide bytes) at.left (omega (arith, old, at.call.1)))

pub returns-clause-none : goal.returns-clause-none
returns-clause-none g c zero =
    let before = c.deal_out-behind.new.self.all.items in
    let bare : before ≡ [] = drop_all 0 before (omega (arith, zero, c.deal_out-behind.ensures.count)) in
    ap (λ (l : List Slate). slates_entries l ++ c.deal_out-behind.result.now) (sym bare) ∙ c.deal_out-behind.ensures.all
