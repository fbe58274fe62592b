use Rattle.prog_tree.proofs.TreeLemmas.{fork_tree}
use Rattle.prog_text.proofs.reading.blocks.branch.Goals as goal

pub returns : goal.returns
returns c = fork_tree c.args.test (record { stmts = c.args.first }) (record { stmts = c.args.second })
