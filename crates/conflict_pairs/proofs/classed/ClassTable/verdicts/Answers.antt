use Rattle.std.proofs.Common.{List, sym, subst}
use Rattle.std.specs.Prelude.{All}
use Rattle.conflict_pairs.specs.declared.verdicts.Verdict.{Verdict}
use Rattle.conflict_pairs.specs.Classed.{Classed}
use Rattle.conflict_pairs.specs.Table.{IsOnQuestion}
use Rattle.conflict_pairs.proofs.Numbered.{verdicts-right}
use Rattle.conflict_pairs.proofs.classed.ClassTable.verdicts.Goals as goal

pub returns-clause-right : goal.returns-clause-right
returns-clause-right c =
    let inside = c.self.inside in
    let paths = inside.paths.now in
    subst (λ (t : Classed). All (IsOnQuestion t.paths) c.as_slice.result.now) c.self.view_is
    (subst (λ (l : List Verdict). All (IsOnQuestion paths) l) (sym c.as_slice.ensures.value) (verdicts-right paths c.self.invariant.single inside.judged.values.items c.self.invariant.on_pairs.sound))
