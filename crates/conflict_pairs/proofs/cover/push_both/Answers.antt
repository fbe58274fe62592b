use Rattle.conflict_pairs.proofs.Covering.{ShowEqual-two, shortest-two}
use Rattle.conflict_pairs.proofs.cover.push_both.Goals as goal

pub returns-clause-equal : goal.returns-clause-equal
returns-clause-equal c =
    ShowEqual-two c.args.closed.now c.args.chains.now c.push.new.self c.push-2.new.self (c.args.mine, c.args.theirs) c.mine_node-mine.result c.their_node-theirs.result
    c.in_ok-chain_between.field-0 c.in_ok-chain_between-2.field-0 c.mine_node-mine.ensures c.their_node-theirs.ensures c.in_ok-push.ensures.ok c.in_ok-push-2.ensures.ok
    c.in_ok-chain_between.ensures.runs c.in_ok-chain_between-2.ensures.runs

pub returns-clause-shortest : goal.returns-clause-shortest
returns-clause-shortest c =
    shortest-two c.args.closed.now c.args.chains.now c.push.new.self c.push-2.new.self c.in_ok-chain_between.field-0 c.in_ok-chain_between-2.field-0 c.in_ok-push.ensures.ok c.in_ok-push-2.ensures.ok
    c.in_ok-chain_between.ensures.shortest c.in_ok-chain_between-2.ensures.shortest
