-- What is written of a text that is given piece by piece, and of a text or nothing.
use Rattle.std.proofs.Common.{◌≡◌, ◌++◌, ◌∷◌, [], ℕ, List, Bool, true, false, Option, Result, Ok, Err, refl, sym, ap, subst, ◌∙◌, append_assoc, append-nil, inl, inr}
use Rattle.std.proofs.KnownBytes.{Appends-nil, Appends-trans}
use Rattle.std.proofs.lemmas.Bool.{false≢true}
use Rattle.std.specs.Io.KnownBytes.{Appends}
use Rattle.prog_check.specs.Paths.{paths_of}
use Rattle.prog_tree.specs.Syntax.{DraftTree}
use Rattle.dep_graph.specs.declared.danger.Danger.{Danger}
use Rattle.dep_graph.specs.Danger.{IsLeastDanger}
use Rattle.robust_cert.specs.declared.certificate.Certificate.{Certificate}
use Rattle.robust_cert.specs.Accepted.{IsAccepted}
use Rattle.robust_cert.specs.Json.{CertificateFits, certificate_text}
use Rattle.robust_cert.proofs.Again.{is_either}
use Rattle.robust_cert.specs.Pieces.{TextLeft, text_left}
use Rattle.si_engine.specs.Writing.{AppendsFront, IsJust}
use Rattle.si_engine.proofs.SinkLaws.{front_behind}
use Rattle.si_repair.specs.Findings.{AsksFew, IsCertificateOf}
use Rattle.sirob.specs.declared.command_fault.CommandFault.{CommandFault}
use Rattle.sirob.specs.declared.command_line.Mode.TheVariants.{Certify}
use Rattle.sirob.specs.declared.status.Status.{Status}
use Rattle.sirob.specs.declared.status.Status.TheVariants as status
use Rattle.sirob.specs.FaultLines.{is_memory}
use Rattle.sirob.specs.Inputs.{IsChecked}
use Rattle.sirob.specs.Refusal.{refusal_text}
use Rattle.sirob.specs.Stops.{IsCertificateOrStop, IsInputDone, IsStop, IsTextOrStop, WritesWithEnd, write_lost}
use Rattle.sirob.proofs.StopLaws.{front_before, stops_at_once}

-- ---- pieces

-- some bytes were taken, and they and what is left are the whole
abbrev pub HasGiven : (old now : Option (List ℕ)) (behind whole : List ℕ) → Type 0
HasGiven old now behind whole = (written : List ℕ) × Appends old now written × (written ++ behind ≡ whole)

pub first_taken : (old new : Option (List ℕ)) (left : TextLeft) (piece bytes : List ℕ) → piece ≡ left.piece → bytes ≡ piece → Appends old new bytes → HasGiven old new left.behind (text_left left)
first_taken old new left piece bytes p b appends = (left.piece, subst (Appends old new) (b ∙ p) appends, refl)

pub first_lost : (old new : Option (List ℕ)) (left : TextLeft) (piece bytes : List ℕ) → piece ≡ left.piece → bytes ≡ piece → AppendsFront old new bytes → AppendsFront old new (text_left left)
first_lost old new left piece bytes p b front = front_before old new left.piece left.behind (subst (AppendsFront old new) (b ∙ p) front)

module _ (old mid new : Option (List ℕ)) (before after : TextLeft) (piece bytes whole : List ℕ) (moves : text_left after ≡ before.behind) (p : piece ≡ after.piece) (b : bytes ≡ piece) (given : HasGiven old mid before.behind whole) where
  all_given : (given.0 ++ after.piece) ++ after.behind ≡ whole
  all_given = append_assoc given.0 after.piece after.behind ∙ ap (λ (s : List ℕ). given.0 ++ s) moves ∙ given.2

  pub next_taken : Appends mid new bytes → HasGiven old new after.behind whole
  next_taken appends = (given.0 ++ after.piece, Appends-trans old mid new given.0 after.piece given.1 (subst (Appends mid new) (b ∙ p) appends), all_given)

  pub next_lost : AppendsFront mid new bytes → AppendsFront old new whole
  next_lost front =
      subst (AppendsFront old new) all_given
      (front_before old new (given.0 ++ after.piece) after.behind (front_behind old mid new given.0 after.piece given.1 (subst (AppendsFront mid new) (b ∙ p) front)))

pub all_taken : (old now : Option (List ℕ)) (behind whole : List ℕ) → HasGiven old now behind whole → behind ≡ [] → Appends old now whole
all_taken old now behind whole given none =
    subst (Appends old now) (sym (append-nil given.0) ∙ ap (λ (s : List ℕ). given.0 ++ s) (sym none) ∙ given.2) given.1

-- ---- a text, or nothing

-- memory ran out before the first byte
pub stopped_before : (text : List ℕ) (end : Status) (f : CommandFault) (failed : Bool) (old : Option (List ℕ)) → failed ≡ false → is_memory f ≡ true → WritesWithEnd (IsTextOrStop text end) failed old old (Err f)
stopped_before text end f true old works memory = absurd (false≢true (sym works))
stopped_before text end f false old works memory = ([], (tt, (refl, memory)), Appends-nil old)

-- the sink failed within the text
pub text_lost : (text : List ℕ) (end : Status) (failed : Bool) (old new : Option (List ℕ)) (first rest : List ℕ) → first ++ rest ≡ text → failed ≡ true → AppendsFront old new first
    → WritesWithEnd (IsTextOrStop text end) failed old new (Err write_lost)
text_lost text end false old new first rest whole fails front = absurd (false≢true fails)
text_lost text end true old new first rest whole fails front = (refl, first ++ rest, Ok end, ((whole, refl), tt), front_before old new first rest front)

-- the first bytes of the text were taken, and then the rest is written
pub text_behind : (text : List ℕ) (end : Status) (failed : Bool) (old mid new : Option (List ℕ)) (first rest : List ℕ) (ended : Result Status CommandFault) → first ++ rest ≡ text → Appends old mid first
    → WritesWithEnd (IsJust rest (Ok end)) failed mid new ended → WritesWithEnd (IsTextOrStop text end) failed old new ended
text_behind text end false old mid new first rest ended whole appends (written, just, more) =
    let is = ap (λ (s : List ℕ). first ++ s) just.0 ∙ whole in
    (first ++ written, subst (IsTextOrStop text end (first ++ written)) (sym just.1) ((is, refl), tt), Appends-trans old mid new first written appends more)
text_behind text end true old mid new first rest ended whole appends (lost, written, meant, just, front) =
    let is = ap (λ (s : List ℕ). first ++ s) just.0 ∙ whole in
    (lost, first ++ written, meant, subst (IsTextOrStop text end (first ++ written)) (sym just.1) ((is, refl), tt), front_behind old mid new first written appends front)

-- ---- what is found of an input

stopped_input : (input : List ℕ) (f : CommandFault) (written : List ℕ) → written ≡ [] → is_memory f ≡ true → IsStop Certify input f written
stopped_input input f written none memory =
    subst (IsStop Certify input f) (sym none) (stops_at_once Certify input f (λ no_memory. absurd (false≢true (sym no_memory ∙ memory))))

-- what was written of a certificate whose numbers fit is read as it
pub certificate_given : (certificate : Certificate) → CertificateFits certificate → (written : List ℕ) (ended : Result Status CommandFault)
    → IsTextOrStop (certificate_text certificate ++ 10 ∷ []) status.Done written ended → IsCertificateOrStop certificate written ended
certificate_given certificate fits written (Ok s) given = (given, is_either certificate fits written (certificate_text certificate) refl (inr given.0.0))
certificate_given certificate fits written (Err f) given = (given, tt)

pub certificate_stopped : (certificate : Certificate) (f : CommandFault) (failed : Bool) (old : Option (List ℕ)) → failed ≡ false → is_memory f ≡ true → WritesWithEnd (IsCertificateOrStop certificate) failed old old (Err f)
certificate_stopped certificate f true old works memory = absurd (false≢true (sym works))
certificate_stopped certificate f false old works memory = ([], ((tt, (refl, memory)), tt), Appends-nil old)

pub certificate_done : (input : List ℕ) (set : DraftTree) (certificate : Certificate) → IsChecked input set → IsAccepted (paths_of set) certificate → IsCertificateOf (paths_of set) certificate
    → (written : List ℕ) (ended : Result Status CommandFault) → IsCertificateOrStop certificate written ended → IsInputDone Certify input written ended
certificate_done input set certificate checked accepted own written (Ok s) given =
    ((set, checked, inl (record { certificate = certificate; accepted = accepted; own = own; text = given.0.0.0; read = given.1; status = given.0.0.1 })), tt)
certificate_done input set certificate checked accepted own written (Err f) given = (tt, stopped_input input f written given.0.1.0 given.0.1.1)

pub refusal_done : (input : List ℕ) (set : DraftTree) (danger : Danger) → IsChecked input set → AsksFew set → IsLeastDanger (paths_of set) danger
    → (written : List ℕ) (ended : Result Status CommandFault) → IsTextOrStop (refusal_text set danger) status.Unserializable written ended → IsInputDone Certify input written ended
refusal_done input set danger checked few least written (Ok s) given =
    ((set, checked, inr (record { danger = danger; few = few; least = least; text = given.0.0; status = given.0.1 })), tt)
refusal_done input set danger checked few least written (Err f) given = (tt, stopped_input input f written given.1.0 given.1.1)
