-- What a safe list of paths comes to: a certificate that is accepted, and that is its own.
use Rattle.std.proofs.Common.{◌≡◌, ℕ, ◌≤◌, List, length, map, sym, subst, ◌∙◌}
use Rattle.prog_check.specs.declared.path.Path.{Path}
use Rattle.prog_paths.specs.StaticGraph.{IsDangerous}
use Rattle.prog_paths.specs.Questions.{questions_of}
use Rattle.prog_paths.specs.Limits.{most_questions}
use Rattle.robust_cert.specs.declared.certificate.Certificate.{Certificate}
use Rattle.robust_cert.specs.Accepted.{IsAccepted, body_size}
use Rattle.robust_cert.specs.Sharing.{Entry}
use Rattle.si_repair.specs.Certificates.{AreEntriesOf, AreLevels}
use Rattle.si_repair.specs.Findings.{IsCertificateOf}
use Rattle.si_repair.proofs.Accepting.{accepted, certificate}
use Rattle.si_repair.proofs.Telling.{told-stands, told_table}

pub finding-right : (paths nodes : List Path) → paths ≡ nodes → (entries : List Entry) → AreEntriesOf paths entries → (levels : List ℕ) → AreLevels paths levels × (IsDangerous paths → ⊥)
    → (c : Certificate) → c.entries ≡ entries → c.levels ≡ levels → c.bodies ≡ map body_size nodes → length (questions_of nodes) ≤ most_questions → IsAccepted nodes c × IsCertificateOf nodes c
finding-right paths nodes same entries told levels known c is_entries is_levels bodies few =
    let of_nodes = subst (λ (l : List Path). AreEntriesOf l entries) same told in
    let safe = subst (λ (l : List Path). AreLevels l levels × (IsDangerous l → ⊥)) same known in
    let stands = told-stands nodes of_nodes.judged of_nodes.are in
    let table = told_table nodes of_nodes.judged in
    let is = is_entries ∙ of_nodes.is in
    let are = subst (λ (l : List ℕ). AreLevels nodes l) (sym is_levels) safe.0 in (
      accepted table nodes stands c is are bodies few safe.1,
      certificate table nodes stands c is are,
    )
