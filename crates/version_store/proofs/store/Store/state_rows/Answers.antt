use Rattle.std.proofs.lemmas.Result.{IfOk-weaker}
use Rattle.version_store.proofs.StandsLaws.{gives_state}
use Rattle.version_store.proofs.store.Store.state_rows.Goals as goal

pub returns : goal.returns
returns c =
    let above = rw (← c.self.view_is) at c.requires.above in
    rw (← c.self.view_is) (IfOk-weaker c.state_rows.result _ _
    (λ rows seen opening ws stands.
    let is_seen = seen c.self.invariant.0 in
    gives_state _ opening ws stands c.args.start above rows is_seen.0 is_seen.1)
    c.state_rows.ensures)
