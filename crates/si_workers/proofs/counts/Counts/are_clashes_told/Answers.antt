use Rattle.std.proofs.Common.{◌↔◌, subst}
use Rattle.std.specs.Prelude.{IsTrue}
use Rattle.si_workers.specs.Counts.{Counted}
use Rattle.si_workers.specs.Outcomes.{AreClashesTold}
use Rattle.si_workers.proofs.ClashLemmas.{same_tallies}
use Rattle.si_workers.proofs.counts.Counts.are_clashes_told.Goals as goal

pub returns : goal.returns
returns c =
    let E = c.self.inside.endings.now in
    let T = c.self.inside.tidings.now in
    let told = same_tallies E T c.self.inside.kept_clashes_of c.self.inside.told_clashes_of c.self.invariant.0 c.self.invariant.5 c.self.invariant.6 in
    subst (λ (s : Counted). IsTrue c.is_same.result ↔ AreClashesTold s.endings s.tidings) c.self.view_is
    (λ same. told.0 (c.is_same.ensures.0 same), λ all. c.is_same.ensures.1 (told.1 all))
