use Rattle.std.proofs.Common.{◌↔◌, ◌∙◌, subst, nat_eq}
use Rattle.std.specs.Prelude.{IsTrue}
use Rattle.si_workers.specs.Counts.{Counted}
use Rattle.si_workers.specs.KeptAndTold.{commits_told}
use Rattle.si_workers.specs.Outcomes.{IsNamedOnce}
use Rattle.si_workers.proofs.CountLemmas.{one_told}
use Rattle.si_workers.proofs.counts.Counts.is_named_once.Goals as goal

pub returns : goal.returns
returns c =
    let n = c.args.number in
    subst (λ (s : Counted). IsTrue (nat_eq c.count.result 1) ↔ IsNamedOnce s.tidings n) c.self.view_is
    (one_told (commits_told n c.self.inside.tidings.now) c.count.result (c.count.ensures ∙ c.self.invariant.1 n))
