use Rattle.std.proofs.Common.{subst}
use Rattle.std.specs.Prelude.{All}
use Rattle.robust_cert.specs.Ranges.{IsSmall}
use Rattle.robust_cert.proofs.Pieces.{closing_written}
use Rattle.robust_cert.proofs.text.writing.closing_of.Goals as goal

pub returns-clause-text : goal.returns-clause-text
returns-clause-text c =
    closing_written c.args.certificate.now c.as_slice.result.now _ _ _ _ c.as_slice.ensures c.new-text.ensures.bytes c.in_ok-push_levels.ensures.text c.version_text.ensures c.in_ok-push_str.ensures.bytes

pub returns-clause-fits : goal.returns-clause-fits
returns-clause-fits c = subst (All IsSmall) c.as_slice.ensures c.in_ok-push_levels.ensures.fits
