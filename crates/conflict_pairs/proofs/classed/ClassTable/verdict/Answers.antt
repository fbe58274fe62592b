use Rattle.std.proofs.Common.{◌≡◌, ℕ, ◌<◌, length, sym, subst}
use Rattle.std.specs.Prelude.{Some, slice_get}
use Rattle.conflict_pairs.specs.Classed.{Classed}
use Rattle.conflict_pairs.proofs.ClassAnswers.{number-within, verdict-is, verdict-within}
use Rattle.conflict_pairs.proofs.classed.ClassTable.verdict.Goals as goal

pub index-requires : goal.index-requires
index-requires c =
    let inside = c.self.inside in
    let within = subst (λ (t : Classed). c.args.n < length t.answers) (sym c.self.view_is) c.requires in
    subst (λ (m : ℕ). c.args.n < m) (sym inside.judged.numbers.ok.0) (number-within inside.paths.now inside.classes inside.asked inside.judged c.self.invariant c.args.n within)

pub index-requires-2 : goal.index-requires-2
index-requires-2 c =
    let inside = c.self.inside in
    let within = subst (λ (t : Classed). c.args.n < length t.answers) (sym c.self.view_is) c.requires in
    subst (λ (m : ℕ). c.index.result.now < m) (sym inside.judged.values.ok.0) (verdict-within inside.paths.now inside.classes inside.asked inside.judged c.self.invariant c.args.n within c.index.result.now c.index.ensures)

pub returns : goal.returns
returns c e at =
    let inside = c.self.inside in
    let within = subst (λ (t : Classed). c.args.n < length t.answers) (sym c.self.view_is) c.requires in
    verdict-is inside.paths.now inside.classes inside.asked inside.judged c.self.invariant c.args.n within e (subst (λ (t : Classed). slice_get t.answers c.args.n ≡ Some e) (sym c.self.view_is) at) c.index.result.now c.index-2.result.now c.index.ensures c.index-2.ensures
