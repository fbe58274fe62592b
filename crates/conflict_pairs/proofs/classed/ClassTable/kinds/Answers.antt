use Rattle.std.proofs.Common.{◌≡◌, ℕ, ◌<◌, length, sym, subst}
use Rattle.std.specs.Prelude.{Some, slice_get}
use Rattle.conflict_pairs.specs.Classed.{Classed}
use Rattle.conflict_pairs.proofs.ClassAnswers.{kinds-are, pair-asked, pair-within}
use Rattle.conflict_pairs.proofs.classed.ClassTable.kinds.Goals as goal

pub index-pair-requires : goal.index-pair-requires
index-pair-requires c =
    let inside = c.self.inside in
    let within = subst (λ (t : Classed). c.args.n < length t.answers) (sym c.self.view_is) c.requires in
    subst (λ (m : ℕ). c.args.n < m) (sym inside.asked.pairs.ok.0) (pair-within inside.paths.now inside.classes inside.asked inside.judged c.self.invariant c.args.n within)

pub index-first-requires : goal.index-first-requires
index-first-requires c =
    let inside = c.self.inside in
    let within = subst (λ (t : Classed). c.args.n < length t.answers) (sym c.self.view_is) c.requires in
    let asked = pair-asked inside.paths.now inside.classes inside.asked inside.judged c.self.invariant c.args.n within c.index-pair.result.now c.index-pair.ensures in
    subst (λ (m : ℕ). c.index-pair.result.now.first < m) (sym inside.classes.places.ok.0) asked.within.first_within

pub index-second-requires : goal.index-second-requires
index-second-requires c =
    let inside = c.self.inside in
    let within = subst (λ (t : Classed). c.args.n < length t.answers) (sym c.self.view_is) c.requires in
    let asked = pair-asked inside.paths.now inside.classes inside.asked inside.judged c.self.invariant c.args.n within c.index-pair.result.now c.index-pair.ensures in
    subst (λ (m : ℕ). c.index-pair.result.now.second < m) (sym inside.classes.places.ok.0) asked.within.second_within

pub returns : goal.returns
returns c e at =
    let inside = c.self.inside in
    let within = subst (λ (t : Classed). c.args.n < length t.answers) (sym c.self.view_is) c.requires in
    kinds-are inside.paths.now inside.classes inside.asked inside.judged c.self.invariant c.args.n within e (subst (λ (t : Classed). slice_get t.answers c.args.n ≡ Some e) (sym c.self.view_is) at) c.index-pair.result.now c.index-pair.ensures c.index-first.result.now c.index-second.result.now
    c.index-first.ensures c.index-second.ensures
