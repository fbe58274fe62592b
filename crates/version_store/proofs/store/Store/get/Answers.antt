use Rattle.std.proofs.Common.{◌∙◌}
use Rattle.version_store.proofs.StandsLaws.{reads_state}
use Rattle.version_store.proofs.store.Store.get.Goals as goal

pub returns : goal.returns
returns c =
    let above = rw (← c.self.view_is) at c.requires.above in
    rw (← c.self.view_is) (λ opening ws stands. c.get.ensures c.self.invariant.0 ∙ reads_state _ opening ws stands c.args.start above c.args.cell.now)
