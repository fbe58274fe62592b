use Rattle.conflict_pairs.proofs.Conditions.{asks-exact}
use Rattle.conflict_pairs.proofs.condition.is_question.Goals as goal

pub returns : goal.returns
returns c =
    asks-exact c.args.x.now c.args.y.now c.args.a c.args.b c.as_slice-xs.result.now c.as_slice-ys.result.now _ _ c.asks.result c.as_slice-xs.ensures c.as_slice-ys.ensures c.if-a-xs.false c.if-b-ys.false c.asks.ensures
