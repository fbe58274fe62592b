-- Which of the three a right verdict is.
use Rattle.prog_check.specs.declared.path.Access.{Access}
use Rattle.prog_check.specs.declared.path.Path.{Path}
use Rattle.std.specs.Prelude.{List}
use Rattle.std.proofs.Common.{refl}
use Rattle.std.proofs.lemmas.Bool.{false≢true, true≢false}
use Rattle.prog_paths.specs.Meeting.{CanMeet}
use Rattle.prog_paths.specs.StaticGraph.{QuestionNumbers}
use Rattle.conflict_pairs.specs.declared.verdicts.Verdict.{Verdict}
use Rattle.conflict_pairs.specs.declared.verdicts.Verdict.TheVariants.{Apart, Covered, Exposed}
use Rattle.conflict_pairs.specs.Verdicts.{mine_of, theirs_of, IsRightOf}
use Rattle.conflict_pairs.specs.Law.{IsExact, LawOfVerdicts}

exact : (nodes : List Path) (q : QuestionNumbers) (mine theirs : Access) (v : Verdict) → IsRightOf nodes q mine theirs v → IsExact nodes q mine theirs v
exact nodes q mine theirs (Apart chain) h = record {
  apart = (λ _. h.0, λ _. refl);
  covered = (λ u. absurd u, λ t. absurd (h.0 t.1));
  exposed = (λ e. absurd (false≢true e), λ t. absurd (h.0 t.0));
}
exact nodes q mine theirs (Covered m t chains) h = record {
  apart = (λ e. absurd (true≢false e), λ apart. absurd (apart h.can_meet));
  covered = (λ _. (h.asks, h.can_meet, h.least.cover), λ _. tt);
  exposed = (λ e. absurd (false≢true e), λ t. absurd (t.1 h.asks h.least.cover));
}
exact nodes q mine theirs (Exposed sample) h = record {
  apart = (λ e. absurd (true≢false e), λ apart. absurd (apart can));
  covered = (λ u. absurd u, λ t. absurd (h.uncovered t.0 t.2));
  exposed = (λ _. (can, h.uncovered), λ _. refl);
}
  where
    can : CanMeet mine theirs
    can = (mine_of sample, theirs_of sample, h.meets)

pub law_of_verdicts : LawOfVerdicts
law_of_verdicts nodes q mine theirs v asked h = exact nodes q mine theirs v (h mine theirs asked)
