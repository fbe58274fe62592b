use Rattle.std.proofs.Common.{◌≡◌, List, sym, ap, subst, ◌∙◌}
use Rattle.std.specs.Prelude.{All}
use Rattle.prog_paths.specs.declared.accesses.places.Placed.{Placed}
use Rattle.prog_paths.specs.declared.accesses.questions.Question.{Question}
use Rattle.prog_paths.specs.Questions.{asked_among, questions_of}
use Rattle.conflict_pairs.specs.Classed.{Classed}
use Rattle.conflict_pairs.specs.Listed.{AreJudged, entries_in}
use Rattle.conflict_pairs.specs.Table.{IsOnQuestion, Table}
use Rattle.conflict_pairs.proofs.Numbered.{StandsFor-from, verdicts-right}
use Rattle.conflict_pairs.proofs.classed.ClassTable.listed.Goals as goal

pub returns : goal.returns
returns c =
    let inside = c.self.inside in
    let paths = c.args.self.paths in
    let all = questions_of paths in
    let on = subst (λ (t : Classed). All (IsOnQuestion t.paths) t.verdicts) c.self.view_is (verdicts-right inside.paths.now c.self.invariant.single inside.judged.values.items c.self.invariant.on_pairs.sound) in
    let whole : asked_among c.places.result.now c.args.self.places ≡ all = ap (λ (l : List Placed). asked_among c.places.result.now l) (sym c.places.ensures.places) ∙ c.places.ensures.all in
    let judged = subst (λ (qs : List Question). AreJudged paths (entries_in c.args.self.places c.args.self.verdicts c.in_ok-listed.listed) qs) whole c.in_ok-listed.ensures.judged in
    StandsFor-from paths c.args.self.verdicts on c.of.result (subst (λ (t : Table). AreJudged paths t.entries all) (sym c.of.ensures) judged) (ap (λ (t : Table). t.paths) c.of.ensures) (ap (λ (t : Table). t.verdicts) c.of.ensures)
