use Rattle.order_facts.proofs.WordRows.{empty_set}
use Rattle.order_facts.proofs.node_set.NodeSet.new.Goals as goal

pub returns : goal.returns
returns c = empty_set c.args.size c.div_ceil.result c.in_ok-words.words.items (c.in_ok-words.ensures.items_if_clones_equal (λ y e. e))
