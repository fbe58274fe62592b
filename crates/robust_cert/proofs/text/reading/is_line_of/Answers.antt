use Rattle.std.proofs.Common.{rules}
use Rattle.robust_cert.specs.Pieces.{text_left}
use Rattle.robust_cert.proofs.Pieces.{read_first, read_next, read_end}
use Rattle.robust_cert.proofs.text.reading.is_line_of.Goals as goal

pub loop-text-init : goal.loop-text-init
loop-text-init c more is =
    read_first c.args.text.now c.args.bytes.now c.in-Some.first.now c.piece.result.now c.as_bytes.result.now more c.piece.ensures c.as_bytes.ensures.value c.in-Some.ensures is

pub loop-text-preserved : goal.loop-text-preserved
loop-text-preserved c more is =
    c.loop-text.invariant more
    (read_next c.loop-text.text c.advance.new.self c.loop-text.rest.now c.in-Some-behind_piece.behind.now c.piece-in-loop-text.result.now c.as_bytes-in-loop-text.result.now more
    c.advance.ensures.text c.piece-in-loop-text.ensures c.as_bytes-in-loop-text.ensures.value c.in-Some-behind_piece.ensures is)

pub loop-text-smaller : goal.loop-text-smaller
loop-text-smaller c = c.advance.ensures.fewer (c.has_more.ensures.more (search rules))

pub returns : goal.returns
returns c is_yes =
    read_end c.loop-text.text c.args.bytes.now c.loop-text.rest.now (text_left c.args.text.now) c.loop-text.invariant (c.has_more.ensures.end (search rules)) (c.is_end.ensures is_yes)
