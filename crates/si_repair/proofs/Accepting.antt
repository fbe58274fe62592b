-- The certificate of a table without a dangerous structure is accepted, and is that of the paths.
use Rattle.std.proofs.Common.{◌≡◌, ℕ, ◌<◌, ◌≤◌, List, length, map, ◌⊎◌, inl, inr}
use Rattle.std.proofs.lemmas.Bool.{cases_lt}
use Rattle.std.specs.Prelude.{slice_index_or, Option}
use Rattle.prog_check.specs.declared.path.Path.{Path}
use Rattle.prog_paths.specs.StaticGraph.{StaticEdge, IsDangerous}
use Rattle.prog_paths.specs.Questions.{questions_of}
use Rattle.prog_paths.specs.Limits.{most_questions}
use Rattle.conflict_pairs.specs.Table.{Table, StandsFor}
use Rattle.dep_graph.proofs.Rising.{level-le, level-lt}
use Rattle.robust_cert.specs.declared.certificate.Certificate.{Certificate}
use Rattle.robust_cert.specs.Accepted.{IsLeft, IsLeftVulnerable, LevelsRise, body_size, IsAccepted}
use Rattle.si_repair.specs.Findings.{IsCertificateOf}
use Rattle.si_repair.specs.Certificates.{told_of, AreLevels}
use Rattle.si_repair.proofs.Certificates.{rising, told_holds, told_own}
use Rattle.si_repair.proofs.Leaving.{tells_each, static-from_left, vulnerable-from_left, edge_inside, static-from_vulnerable}

module _ (t : Table) (paths : List Path) (s : StandsFor t paths) where
  levels_rise : (levels : List ℕ) → AreLevels paths levels → (IsDangerous paths → ⊥) → LevelsRise (IsLeft paths (told_of t.entries)) (IsLeftVulnerable paths (told_of t.entries)) (λ x. slice_index_or levels x 0)
  levels_rise levels are safe = record {
    never_fall = λ x y left.
        let edge = static-from_left t paths s x y left in
        let inside = edge_inside paths x y edge in
        level-le (StaticEdge paths) (length paths) x y _ _ edge (are.counted x inside.0) (are.counted y inside.1);
    rise = λ x y z left_first left_second.
        let first = vulnerable-from_left t paths s x y left_first in
        let second = vulnerable-from_left t paths s y z left_second in
        let edge_first = static-from_vulnerable paths x y first in
        let edge_second = static-from_vulnerable paths y z second in
        let inside = (edge_inside paths y z edge_second).1 in
        level-lt (StaticEdge paths) (length paths) x y z _ _ inside edge_first edge_second (λ back. safe (x, y, z, record { first = first; second = second; back = back })) (are.counted x (edge_inside paths x y edge_first).0) (are.counted z inside);
  }

  pub accepted : (c : Certificate) → c.entries ≡ told_of t.entries → AreLevels paths c.levels → c.bodies ≡ map body_size paths → length (questions_of paths) ≤ most_questions → (IsDangerous paths → ⊥) → IsAccepted paths c
  accepted c is are bodies few safe = record {
    few = few;
    levels = are.one_each;
    bodies = bodies;
    rising = rw is (rising t paths s);
    holds = rw is (told_holds t paths s);
    levels_rise = rw is (levels_rise c.levels are safe);
  }

  pub certificate : (c : Certificate) → c.entries ≡ told_of t.entries → AreLevels paths c.levels → IsCertificateOf paths c
  certificate c is are = record {
    own = rw is (told_own t paths s);
    each = rw is (tells_each t paths s);
    levels = are.counted;
  }

pub within : (n : ℕ) → (most_questions < n → ⊥) → n ≤ most_questions
within n not = go (cases_lt most_questions n)
  where
    go : (most_questions < n) ⊎ (n ≤ most_questions) → n ≤ most_questions
    go (inl l) = absurd (not l)
    go (inr l) = l
