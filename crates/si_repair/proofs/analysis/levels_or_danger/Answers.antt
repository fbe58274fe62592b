use Rattle.std.proofs.Common.{List, subst}
use Rattle.std.proofs.lemmas.Option.{MatchOption-at_none}
use Rattle.prog_check.specs.declared.path.Path.{Path}
use Rattle.prog_paths.specs.StaticGraph.{IsDangerous}
use Rattle.si_repair.specs.Certificates.{AreLevels}
use Rattle.si_repair.proofs.analysis.levels_or_danger.Goals as goal

pub returns : goal.returns
returns c =
    let same = c.in_ok-graph.ensures in
    let safe = MatchOption-at_none (IsDangerous c.in_ok-graph.graph → ⊥) _ c.in-None.is c.in_ok-danger.ensures.none in (
      subst (λ (l : List Path). AreLevels l c.in_ok-levels_of-in-None.field-0.items) same c.in_ok-levels_of-in-None.ensures,
      subst (λ (l : List Path). IsDangerous l → ⊥) same safe,
    )
