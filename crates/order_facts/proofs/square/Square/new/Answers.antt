use Rattle.order_facts.proofs.WordRows.{empty_rows}
use Rattle.order_facts.proofs.square.Square.new.Goals as goal

pub returns : goal.returns
returns c = empty_rows c.args.size c.div_ceil-width.result c.in_ok-count.count c.in_ok-words.words.items (c.in_ok-words.ensures.items_if_clones_equal (λ y e. e))
