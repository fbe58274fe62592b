use Rattle.std.proofs.Common.{◌≡◌, ℕ, ◌<◌, List, length, sym, ap, subst, ◌∙◌}
use Rattle.std.specs.Prelude.{Some, slice_get}
use Rattle.prog_paths.specs.declared.accesses.places.Placed.{Placed}
use Rattle.conflict_pairs.specs.declared.pairing.PlacePair.{PlacePair}
use Rattle.conflict_pairs.specs.Pairing.{HasPlaces, question_at, questions_at}
use Rattle.conflict_pairs.specs.Table.{Judged, Table}
use Rattle.conflict_pairs.proofs.Numbered.{entries-at}
use Rattle.conflict_pairs.proofs.Paired.{pair-at, pairs-length}
use Rattle.conflict_pairs.proofs.table.TablePart.question.Goals as goal

pub index-requires : goal.index-requires
index-requires c =
    let inside = c.self.inside in
    subst (λ (k : ℕ). c.args.n < k)
    (sym (ap (λ (t : Table). length t.entries) c.self.view_is) ∙ pairs-length inside.classes.now.verdicts inside.classes.now.places inside.listed.now.pairs.items inside.listed.now.numbers.items c.self.invariant.one_each ∙ sym inside.listed.now.pairs.ok.0)
    c.requires

pub question_of-requires : goal.question_of-requires
question_of-requires c =
    let inside = c.self.inside in
    let within =
    subst (λ (k : ℕ). c.args.n < k)
    (sym (ap (λ (t : Table). length t.entries) c.self.view_is) ∙ pairs-length inside.classes.now.verdicts inside.classes.now.places inside.listed.now.pairs.items inside.listed.now.numbers.items c.self.invariant.one_each)
    c.requires in
    subst (λ (l : List Placed). HasPlaces l c.index.result.now) (sym c.places.ensures.places)
    (subst (λ (p : PlacePair). HasPlaces inside.classes.now.places p) (sym c.index.ensures) (c.self.invariant.placed c.args.n c.index.result.now within))

pub returns : goal.returns
returns c e at =
    let inside = c.self.inside in
    let q = c.question_of.result in
    let within =
    subst (λ (k : ℕ). c.args.n < k)
    (sym (ap (λ (t : Table). length t.entries) c.self.view_is) ∙ pairs-length inside.classes.now.verdicts inside.classes.now.places inside.listed.now.pairs.items inside.listed.now.numbers.items c.self.invariant.one_each)
    c.requires in
    pair-at inside.classes.now.places inside.listed.now.pairs.items c.args.n c.index.result.now q within c.index.ensures
    (c.question_of.ensures ∙ ap (λ (l : List Placed). question_at l c.index.result.now) c.places.ensures.places)
    ∙ sym (ap (λ (x : Judged). x.question)
    (entries-at inside.classes.now.verdicts (questions_at inside.classes.now.places inside.listed.now.pairs.items) inside.listed.now.numbers.items c.args.n q 0 e
    (subst (λ (l : List Judged). slice_get l c.args.n ≡ Some e) (sym (ap (λ (t : Table). t.entries) c.self.view_is)) at)))
