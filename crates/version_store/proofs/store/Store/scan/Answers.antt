use Rattle.std.proofs.lemmas.Result.{IfOk-weaker}
use Rattle.version_store.proofs.StandsLaws.{scans_state}
use Rattle.version_store.proofs.store.Store.scan.Goals as goal

pub returns : goal.returns
returns c =
    let above = rw (← c.self.view_is) at c.requires.above in
    rw (← c.self.view_is) (IfOk-weaker c.scan.result _ _
    (λ rows seen opening ws stands.
    let is_seen = seen c.self.invariant.0 in
    scans_state _ opening ws stands c.args.region.now c.args.start above rows is_seen.0 is_seen.1)
    c.scan.ensures)
