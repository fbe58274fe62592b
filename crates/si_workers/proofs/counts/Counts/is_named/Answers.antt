use Rattle.std.proofs.Common.{◌↔◌, ◌<◌, ◌∙◌, subst, nat_lt}
use Rattle.std.specs.Prelude.{IsTrue}
use Rattle.si_workers.specs.Counts.{Counted}
use Rattle.si_workers.specs.KeptAndTold.{commits_told}
use Rattle.si_workers.proofs.CountLemmas.{positive_told}
use Rattle.si_workers.proofs.counts.Counts.is_named.Goals as goal

pub returns : goal.returns
returns c =
    let n = c.args.number in
    subst (λ (s : Counted). IsTrue (nat_lt 0 c.count.result) ↔ (0 < commits_told n s.tidings)) c.self.view_is
    (positive_told (commits_told n c.self.inside.tidings.now) c.count.result (c.count.ensures ∙ c.self.invariant.1 n))
