use Rattle.std.proofs.Common.{◌↔◌, ◌<◌, ◌∙◌, subst, nat_lt}
use Rattle.std.specs.Prelude.{IsTrue}
use Rattle.version_store.specs.declared.clash.Clash.{Clash}
use Rattle.si_workers.specs.Counts.{Counted}
use Rattle.si_workers.specs.KeptAndTold.{clashes_on}
use Rattle.si_workers.specs.Keys.{call_at, clash_at}
use Rattle.si_workers.specs.declared.keys.CallKey.{CallKey}
use Rattle.si_workers.proofs.CountLemmas.{positive_told}
use Rattle.si_workers.proofs.counts.Counts.is_clash_kept.Goals as goal

pub returns : goal.returns
returns c =
    let E = c.self.inside.endings.now in
    let q = c.of.result in
    let r = nat_lt 0 c.count.result in
    subst (λ (s : Counted). IsTrue r ↔ (0 < clashes_on (call_at c.args.call) c.args.clash s.endings)) c.self.view_is
    (subst (λ (k : CallKey). IsTrue r ↔ (0 < clashes_on (call_at k) c.args.clash E)) c.of.ensures.call
    (subst (λ (on : Clash). IsTrue r ↔ (0 < clashes_on (call_at q.call) on E)) c.of.ensures.clash
    (positive_told (clashes_on (call_at q.call) (clash_at q) E) c.count.result (c.count.ensures ∙ c.self.invariant.4 q))))
