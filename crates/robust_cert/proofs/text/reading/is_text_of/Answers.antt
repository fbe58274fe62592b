use Rattle.robust_cert.specs.Pieces.{text_left}
use Rattle.robust_cert.proofs.Again.{is_either}
use Rattle.robust_cert.proofs.text.reading.is_text_of.Goals as goal

pub returns : goal.returns
returns c is_yes =
    is_either c.args.certificate.now c.in_ok-text.ensures.fits c.args.bytes.now (text_left c.in_ok-text.text) c.in_ok-text.ensures.text (c.is_line_of.ensures is_yes)
