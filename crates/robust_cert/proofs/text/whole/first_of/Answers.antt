use Rattle.serde_json.specs.View.{members_view}
use Rattle.robust_cert.proofs.Values.{first_value}
use Rattle.robust_cert.proofs.text.whole.first_of.Goals as goal

pub returns-clause-ok : goal.returns-clause-ok
returns-clause-ok c =
    let parts = c.in_ok-entries in
    first_value (members_view c.args.members.entries) (record { entries = parts.entries; levels = parts.levels; bodies = c.in_ok-bodies.bodies }) parts.ensures.ok c.in_ok-bodies.ensures c.requires
