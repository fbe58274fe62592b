use Rattle.std.proofs.Common.{◌≡◌, ◌↔◌, ◌∙◌, subst, nat_eq}
use Rattle.std.specs.Prelude.{IsTrue}
use Rattle.prog_tree.specs.declared.deed.Cause.{Cause}
use Rattle.si_workers.specs.Counts.{Counted}
use Rattle.si_workers.specs.KeptAndTold.{is_abort, aborts_kept, aborts_told}
use Rattle.si_workers.specs.Keys.{call_at, cause_at}
use Rattle.si_workers.specs.declared.keys.CallKey.{CallKey}
use Rattle.si_workers.proofs.CountLemmas.{same_told}
use Rattle.si_workers.proofs.counts.Counts.are_aborts_told.Goals as goal

pub returns : goal.returns
returns c =
    let E = c.self.inside.endings.now in
    let T = c.self.inside.tidings.now in
    let q = c.of-key.result in
    let r = nat_eq c.count.result c.count-2.result in
    let at_key = same_told (is_abort (call_at q.call) (cause_at q.cause)) E (aborts_told (call_at q.call) (cause_at q.cause) T) c.count.result c.count-2.result c.self.invariant.0 (c.count.ensures ∙ c.self.invariant.2 q) (c.count-2.ensures ∙ c.self.invariant.3 q) in
    subst (λ (s : Counted). IsTrue r ↔ (aborts_kept (call_at c.args.call) c.args.cause s.endings ≡ aborts_told (call_at c.args.call) c.args.cause s.tidings)) c.self.view_is
    (subst (λ (k : CallKey). IsTrue r ↔ (aborts_kept (call_at k) c.args.cause E ≡ aborts_told (call_at k) c.args.cause T)) c.of-key.ensures.call
    (subst (λ (by : Cause). IsTrue r ↔ (aborts_kept (call_at q.call) by E ≡ aborts_told (call_at q.call) by T)) c.of-key.ensures.cause at_key))
