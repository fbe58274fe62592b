use Rattle.prog_tree.specs.Pieces.{rows_of}
use Rattle.prog_tree.proofs.WalkLaws.{nothing_left}
use Rattle.prog_tree.proofs.row_walk.RowWalk.is_empty.Goals as goal

pub returns : goal.returns
returns c = nothing_left c.self.inside.rows.now (rows_of c.self.inside.behind.now) c.args.self.now c.is_empty.result c.self.invariant c.self.view_is c.is_empty.ensures
