use Rattle.version_store.proofs.OpeningLaws.{opened_rows, opened_hold}
use Rattle.version_store.proofs.chains.Chains.open.Goals as goal

pub returns-clause-rows : goal.returns-clause-rows
returns-clause-rows c =
    opened_rows c.args.opening.now c.in_ok-rows.rows.items c.in_ok-chains.chains c.in_ok-rows.ensures.ordered c.in_ok-rows.ensures.chains c.in_ok-chains.ensures

pub returns-clause-hold : goal.returns-clause-hold
returns-clause-hold c =
    opened_hold c.args.opening.now c.in_ok-rows.rows.items c.in_ok-chains.chains c.in_ok-rows.ensures.ordered c.in_ok-rows.ensures.chains c.in_ok-chains.ensures
