use Rattle.prog_tree.proofs.TreeLemmas.{loop_tree}
use Rattle.prog_text.proofs.reading.blocks.each.Goals as goal

pub returns : goal.returns
returns c = loop_tree c.args.listing (record { stmts = c.args.body })
