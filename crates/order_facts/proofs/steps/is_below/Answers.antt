use Rattle.std.proofs.lemmas.Bool.{iff_false}
use Rattle.order_facts.proofs.Reach.{is_below-from_same, is_below-from_plain}
use Rattle.order_facts.proofs.steps.is_below.Goals as goal

pub returns-then-is_same_node : goal.returns-then-is_same_node
returns-then-is_same_node c = is_below-from_same _ _ _ c.if-is_same_node.true (c.is_same_node.ensures.0 c.if-is_same_node.true)

pub returns-else-is_same_node : goal.returns-else-is_same_node
returns-else-is_same_node c = is_below-from_plain _ _ _ (iff_false c.is_same_node.ensures c.if-is_same_node.false) c.is_plain_step.ensures
