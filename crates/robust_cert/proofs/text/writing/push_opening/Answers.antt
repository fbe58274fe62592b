use Rattle.std.proofs.Common.{List, ℕ, ◌++◌, string_bytes, sym, ap, ◌∙◌, subst}
use Rattle.std.proofs.lemmas.Result.{on_ok_weaker}
use Rattle.std.specs.Prelude.{All}
use Rattle.robust_cert.specs.Ranges.{IsSmall}
use Rattle.robust_cert.proofs.Fitting.{on_ok_anyway}
use Rattle.robust_cert.proofs.Pieces.{opening_with}
use Rattle.robust_cert.proofs.Values.{no_bodies_small}
use Rattle.robust_cert.proofs.text.writing.push_opening.Goals as goal

pub returns-then-has_no_bodies-clause-fits : goal.returns-then-has_no_bodies-clause-fits
returns-then-has_no_bodies-clause-fits c =
    on_ok_anyway c.push_str.result (no_bodies_small c.args.certificate.now (sym c.if-has_no_bodies.ensures))

pub returns-else-has_no_bodies-clause-text : goal.returns-else-has_no_bodies-clause-text
returns-else-has_no_bodies-clause-text c =
    let opening = opening_with c.args.certificate.now c.as_slice.result.now c.as_slice.ensures (sym c.if-has_no_bodies.ensures) in
    on_ok_weaker c.push_bodies.result (λ e. e ∙ ap (λ (s : List ℕ). string_bytes c.args.text.now ++ s) opening) c.push_bodies.ensures.text

pub returns-else-has_no_bodies-clause-fits : goal.returns-else-has_no_bodies-clause-fits
returns-else-has_no_bodies-clause-fits c =
    on_ok_weaker c.push_bodies.result (λ fits. subst (All IsSmall) c.as_slice.ensures fits) c.push_bodies.ensures.fits
