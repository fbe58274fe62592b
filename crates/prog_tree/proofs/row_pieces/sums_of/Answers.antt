use Rattle.std.proofs.Common.{arith}
use Rattle.std.proofs.lemmas.Int.{ints}
use Rattle.prog_tree.proofs.PieceLaws.{count_more, values_more}
use Rattle.prog_tree.proofs.row_pieces.sums_of.Goals as goal

pub loop-piece-preserved : goal.loop-piece-preserved
loop-piece-preserved c =
    let before = c.loop-piece.invariant in
    let sums = c.in_ok-sums.ensures in
    let count = count_more c.args.pieces.now c.loop-piece.piece-index _ c.piece-item.result c.loop-piece-test.true c.piece-item.is in
    let values = values_more c.args.pieces.now c.loop-piece.piece-index _ c.piece-item.result c.loop-piece-test.true c.piece-item.is in
    record { len = omega (arith, before, sums, count); total = omega (arith, ints, before, sums, values) }
