use Rattle.std.proofs.Common.{List, sym, subst, ◌∙◌}
use Rattle.std.specs.Prelude.{All}
use Rattle.prog_paths.specs.declared.accesses.places.Placed.{Placed}
use Rattle.prog_paths.specs.Places.{IsAt}
use Rattle.prog_paths.proofs.Questions.{all_places_stand}
use Rattle.conflict_pairs.specs.Classed.{Classed}
use Rattle.conflict_pairs.proofs.classed.ClassTable.places.Goals as goal

pub returns-clause-stand : goal.returns-clause-stand
returns-clause-stand c =
    let paths = c.self.inside.paths.now in
    subst (λ (t : Classed). All (λ p. IsAt t.paths p) c.as_slice.result.now) c.self.view_is
    (subst (λ (l : List Placed). All (λ p. IsAt paths p) l) (sym (c.as_slice.ensures.value ∙ c.self.invariant.classes.places_are)) (all_places_stand paths))
