use Rattle.std.proofs.Common.{◌≡◌, List, [], ◌∷◌, ◌++◌, sym, ap, subst, ◌∙◌, Some}
use Rattle.std.specs.Prelude.{slice_get}
use Rattle.robust_cert.specs.declared.entries.Told.{Told}
use Rattle.robust_cert.specs.Sharing.{Entry, entry_told, entries_told}
use Rattle.robust_cert.proofs.Shared.{told-push, told-like}
use Rattle.robust_cert.proofs.entries.Entries.push_like.Goals as goal

pub returns-clause-ok : goal.returns-clause-ok
returns-clause-ok c e at =
    let rs = c.self.inside.reasons.items in
    let ts = c.self.inside.told.items in
    let q = c.args.question in
    let t : Told = c.index.result.now in
    let here : slice_get (entries_told rs ts) c.args.k ≡ Some e = subst (λ (l : List Entry). slice_get l c.args.k ≡ Some e) (sym c.self.view_is) at in
    ap (entries_told rs) c.in_ok-push.ensures.items
    ∙ told-push rs ts record { question = q; reason = t.reason }
    ∙ ap (λ (l : List Entry). l ++ entry_told rs record { question = q; reason = t.reason } ∷ []) c.self.view_is
    ∙ ap (λ (x : Entry). c.args.self.now ++ x ∷ []) (ap (λ (u : Told). entry_told rs record { question = q; reason = u.reason }) c.index.ensures ∙ told-like rs ts c.args.k t q e here)
