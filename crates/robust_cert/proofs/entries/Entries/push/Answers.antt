use Rattle.std.proofs.Common.{ℕ, List, [], ◌∷◌, ◌++◌, ap, ◌∙◌}
use Rattle.robust_cert.specs.declared.entries.Reason.{Reason}
use Rattle.robust_cert.specs.Sharing.{Entry, entry_with, entries_told}
use Rattle.robust_cert.proofs.Shared.{told-longer, told-own}
use Rattle.robust_cert.proofs.entries.Entries.push.Goals as goal
use Rattle.prog_tree.proofs.Outcomes.{on_any_err}

pub returns-in_err-push-2-clause-err : goal.returns-in_err-push-2-clause-err
returns-in_err-push-2-clause-err c =
    let rs = c.self.inside.reasons.items in
    on_any_err c.from_residual-in_err-push-2.result
    (ap (λ (l : List Reason). entries_told l c.push-2.new.self.items) c.in_ok-push.ensures.items
    ∙ ap (entries_told (rs ++ c.args.reason ∷ [])) c.in_err-push-2.ensures.items
    ∙ told-longer rs c.args.reason c.self.inside.told.items c.self.invariant
    ∙ c.self.view_is)

pub returns-clause-ok : goal.returns-clause-ok
returns-clause-ok c =
    let rs = c.self.inside.reasons.items in
    let ts = c.self.inside.told.items in
    let q = c.args.question in
    let r : Reason = c.args.reason in
    ap (λ (l : List Reason). entries_told l c.push-2.new.self.items) c.in_ok-push.ensures.items
    ∙ ap (entries_told (rs ++ r ∷ [])) c.in_ok-push-2.ensures.items
    ∙ ap (λ (n : ℕ). entries_told (rs ++ r ∷ []) (ts ++ record { question = q; reason = n } ∷ [])) (c.len-number.ensures ∙ c.self.inside.reasons.ok.0)
    ∙ told-own rs r ts q c.self.invariant
    ∙ ap (λ (l : List Entry). l ++ entry_with q r ∷ []) c.self.view_is
