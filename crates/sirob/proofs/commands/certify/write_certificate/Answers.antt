use Rattle.std.proofs.Common.{Err, List, ℕ, [], ◌∷◌, ◌++◌, ap, refl, rules}
use Rattle.std.proofs.lemmas.Result.{err_from_is_err_and}
use Rattle.robust_cert.specs.Json.{certificate_text}
use Rattle.robust_cert.specs.Pieces.{text_left}
use Rattle.si_engine.specs.declared.input.source.InputFault.TheVariants as i
use Rattle.si_engine.proofs.SinkLaws.{writes_as}
use Rattle.sirob.specs.declared.command_fault.CommandFault.TheVariants as fault
use Rattle.sirob.specs.declared.status.Status.TheVariants as status
use Rattle.sirob.specs.Stops.{IsCertificateOrStop, IsTextOrStop, write_lost}
use Rattle.sirob.proofs.PieceLaws.{certificate_given, certificate_stopped, text_behind, text_lost}
use Rattle.sirob.proofs.commands.certify.write_certificate.Goals as goal

pub returns-in_err-text : goal.returns-in_err-text
returns-in_err-text g c =
    let exit = err_from_is_err_and c.from_residual.result c.from_residual.ensures.1 in
    rw (exit.1, exit.2) (certificate_stopped c.args.certificate.now (fault.Input i.Memory) _ _ c.requires refl)

pub returns-in-Ok : goal.returns-in-Ok
returns-in-Ok g c =
    let certificate = c.args.certificate.now in
    let whole = ap (λ (s : List ℕ). s ++ 10 ∷ []) c.in_ok-text.ensures.text in
    writes_as (Err write_lost) (IsTextOrStop (certificate_text certificate ++ 10 ∷ []) status.Done) (IsCertificateOrStop certificate) _ _ _ _
    (certificate_given certificate c.in_ok-text.ensures.fits)
    (text_behind (certificate_text certificate ++ 10 ∷ []) status.Done (g.K.Sink.has_failed c.write_lines.new.sink)
    (g.K.Sink.taken c.args.sink.now) (g.K.Sink.taken c.write_pieces.new.sink) (g.K.Sink.taken c.write_lines.new.sink)
    (text_left c.in_ok-text.text) (10 ∷ []) c.write_lines.result whole c.in-Ok.ensures.whole c.write_lines.ensures)

pub returns : goal.returns
returns g c =
    let certificate = c.args.certificate.now in
    let whole = ap (λ (s : List ℕ). s ++ 10 ∷ []) c.in_ok-text.ensures.text in
    writes_as (Err write_lost) (IsTextOrStop (certificate_text certificate ++ 10 ∷ []) status.Done) (IsCertificateOrStop certificate) _ _ _ _
    (certificate_given certificate c.in_ok-text.ensures.fits)
    (text_lost (certificate_text certificate ++ 10 ∷ []) status.Done (g.K.Sink.has_failed c.write_pieces.new.sink)
    (g.K.Sink.taken c.args.sink.now) (g.K.Sink.taken c.write_pieces.new.sink)
    (text_left c.in_ok-text.text) (10 ∷ []) whole (c.in-Err.ensures.fault.0 (search rules)) c.in-Err.ensures.first)
