use Rattle.std.proofs.lemmas.List.Elements.{All-append}
use Rattle.prog_tree.specs.Tree.{stmt_tree}
use Rattle.prog_tree.specs.Number.{IsI64}
use Rattle.prog_tree.specs.Literals.{block_literals}
use Rattle.prog_check.specs.Literals.{literals_by}
use Rattle.prog_check.proofs.literals.read_plain.Goals as goal

pub returns : goal.returns
returns c rest left = All-append IsI64 (literals_by (stmt_tree c.args.stmt.now)) (block_literals rest) c.read_values.ensures left
