use Rattle.std.proofs.Common.{◌≡◌, ℕ, ◌<◌, length, sym, subst, ◌∙◌}
use Rattle.std.specs.Prelude.{Some, slice_get}
use Rattle.conflict_pairs.specs.Classed.{Classed}
use Rattle.conflict_pairs.proofs.ClassAnswers.{class-has_nodes, firsts-are, pair-asked, pair-within}
use Rattle.conflict_pairs.proofs.ClassRows.{one_each}
use Rattle.conflict_pairs.proofs.classed.ClassTable.first_nodes.Goals as goal

pub index-requires : goal.index-requires
index-requires c =
    let inside = c.self.inside in
    let within = subst (λ (t : Classed). c.args.n < length t.answers) (sym c.self.view_is) c.requires in
    subst (λ (m : ℕ). c.args.n < m) (sym inside.asked.pairs.ok.0) (pair-within inside.paths.now inside.classes inside.asked inside.judged c.self.invariant c.args.n within)

pub nodes_like-requires-clause-access : goal.nodes_like-requires-clause-access
nodes_like-requires-clause-access c =
    let inside = c.self.inside in
    let within = subst (λ (t : Classed). c.args.n < length t.answers) (sym c.self.view_is) c.requires in
    let asked = pair-asked inside.paths.now inside.classes inside.asked inside.judged c.self.invariant c.args.n within c.index.result.now c.index.ensures in
    subst (λ (m : ℕ). c.index.result.now.first < m) (sym (one_each inside.paths.now inside.classes c.self.invariant.classes)) asked.within.first_within

pub nodes_like-requires-clause-class : goal.nodes_like-requires-clause-class
nodes_like-requires-clause-class c =
    let inside = c.self.inside in
    let within = subst (λ (t : Classed). c.args.n < length t.answers) (sym c.self.view_is) c.requires in
    let asked = pair-asked inside.paths.now inside.classes inside.asked inside.judged c.self.invariant c.args.n within c.index.result.now c.index.ensures in
    class-has_nodes inside.paths.now inside.classes inside.asked inside.judged c.self.invariant c.index.result.now.first asked.within.first_within

pub returns : goal.returns
returns c e at =
    let inside = c.self.inside in
    let within = subst (λ (t : Classed). c.args.n < length t.answers) (sym c.self.view_is) c.requires in
    c.nodes_like.ensures
    ∙ firsts-are inside.paths.now inside.classes inside.asked inside.judged c.self.invariant c.args.n within e (subst (λ (t : Classed). slice_get t.answers c.args.n ≡ Some e) (sym c.self.view_is) at) c.index.result.now c.index.ensures
