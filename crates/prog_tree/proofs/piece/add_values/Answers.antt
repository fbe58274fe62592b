use Rattle.std.proofs.Common.{arith}
use Rattle.std.proofs.lemmas.Int.{ints}
use Rattle.prog_tree.proofs.PieceLaws.{total_more}
use Rattle.prog_tree.proofs.piece.add_values.Goals as goal

pub loop-row-preserved : goal.loop-row-preserved
loop-row-preserved c =
    let more = total_more c.args.rows.now c.loop-row.row-index _ c.row_value.result c.loop-row-test.true c.row_value.ensures in
    record { total = omega (arith, ints, more); above = omega (arith, ints); below = omega (arith, ints) }
