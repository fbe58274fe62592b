use Rattle.std.proofs.Common.{◌↔◌, ◌<◌, ◌∙◌, subst, nat_lt}
use Rattle.std.specs.Prelude.{IsTrue}
use Rattle.prog_tree.specs.declared.deed.Cause.{Cause}
use Rattle.si_workers.specs.Counts.{Counted}
use Rattle.si_workers.specs.KeptAndTold.{aborts_told}
use Rattle.si_workers.specs.Keys.{call_at, cause_at}
use Rattle.si_workers.specs.declared.keys.CallKey.{CallKey}
use Rattle.si_workers.proofs.CountLemmas.{positive_told}
use Rattle.si_workers.proofs.counts.Counts.is_abort_told.Goals as goal

pub returns : goal.returns
returns c =
    let T = c.self.inside.tidings.now in
    let q = c.of.result in
    let r = nat_lt 0 c.count.result in
    subst (λ (s : Counted). IsTrue r ↔ (0 < aborts_told (call_at c.args.call) c.args.cause s.tidings)) c.self.view_is
    (subst (λ (k : CallKey). IsTrue r ↔ (0 < aborts_told (call_at k) c.args.cause T)) c.of.ensures.call
    (subst (λ (by : Cause). IsTrue r ↔ (0 < aborts_told (call_at q.call) by T)) c.of.ensures.cause
    (positive_told (aborts_told (call_at q.call) (cause_at q.cause) T) c.count.result (c.count.ensures ∙ c.self.invariant.3 q))))
