use Rattle.std.proofs.Common.{string_bytes, rules}
use Rattle.robust_cert.specs.Json.{certificate_text}
use Rattle.robust_cert.proofs.Again.{is_text}
use Rattle.robust_cert.proofs.Pieces.{pieces_begin, pieces_more, pieces_end}
use Rattle.robust_cert.proofs.text.writing.to_json.Goals as goal

pub loop-pieces-init : goal.loop-pieces-init
loop-pieces-init c =
    pieces_begin c.in_ok-pieces.pieces _ _ _ _ c.in_ok-text.ensures.bytes c.piece.ensures c.in_ok-push_str.ensures.bytes c.in_ok-pieces.ensures.text

pub loop-pieces-preserved : goal.loop-pieces-preserved
loop-pieces-preserved c =
    pieces_more c.loop-pieces.pieces c.advance.new.self (string_bytes c.loop-pieces.text) _ _ _ c.loop-pieces.invariant c.advance.ensures.text c.piece-in-loop-pieces.ensures c.in_ok-push_str-2.ensures.bytes

pub loop-pieces-smaller : goal.loop-pieces-smaller
loop-pieces-smaller c = c.advance.ensures.fewer (c.has_more.ensures.more (search rules))

pub returns-clause-text : goal.returns-clause-text
returns-clause-text c =
    pieces_end c.loop-pieces.pieces (string_bytes c.loop-pieces.text) (certificate_text c.args.certificate.now) c.loop-pieces.invariant (c.has_more.ensures.end (search rules))

pub returns-clause-reads_back : goal.returns-clause-reads_back
returns-clause-reads_back c =
    let whole = pieces_end c.loop-pieces.pieces (string_bytes c.loop-pieces.text) (certificate_text c.args.certificate.now) c.loop-pieces.invariant (c.has_more.ensures.end (search rules)) in
    is_text c.args.certificate.now c.in_ok-pieces.ensures.fits (string_bytes c.loop-pieces.text) whole
