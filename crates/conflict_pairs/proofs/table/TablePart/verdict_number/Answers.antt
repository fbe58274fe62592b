use Rattle.std.proofs.Common.{◌≡◌, ℕ, ◌<◌, length, sym, subst}
use Rattle.std.specs.Prelude.{Some, slice_get}
use Rattle.conflict_pairs.specs.Table.{Table}
use Rattle.conflict_pairs.specs.Pairing.{questions_at}
use Rattle.conflict_pairs.proofs.Numbered.{number-within, number-verdict}
use Rattle.conflict_pairs.proofs.Paired.{pairs-one_each}
use Rattle.conflict_pairs.proofs.table.TablePart.verdict_number.Goals as goal

pub index-requires : goal.index-requires
index-requires c =
    let inside = c.self.inside in
    subst (λ (k : ℕ). c.args.n < k) (sym inside.listed.now.numbers.ok.0)
    (number-within inside.classes.now.verdicts (questions_at inside.classes.now.places inside.listed.now.pairs.items) inside.listed.now.numbers.items c.args.n (pairs-one_each inside.classes.now.verdicts inside.classes.now.places inside.listed.now.pairs.items inside.listed.now.numbers.items c.self.invariant.one_each) (subst (λ (t : Table). c.args.n < length t.entries) (sym c.self.view_is) c.requires))

pub returns-clause-within : goal.returns-clause-within
returns-clause-within c =
    let inside = c.self.inside in
    let lt = number-within inside.classes.now.verdicts (questions_at inside.classes.now.places inside.listed.now.pairs.items) inside.listed.now.numbers.items c.args.n (pairs-one_each inside.classes.now.verdicts inside.classes.now.places inside.listed.now.pairs.items inside.listed.now.numbers.items c.self.invariant.one_each) (subst (λ (t : Table). c.args.n < length t.entries) (sym c.self.view_is) c.requires) in
    subst (λ (t : Table). c.index.result.now < length t.verdicts) c.self.view_is
    (subst (λ (k : ℕ). k < length inside.classes.now.verdicts) (sym c.index.ensures) (c.self.invariant.within c.args.n c.index.result.now lt))

pub returns-clause-verdict : goal.returns-clause-verdict
returns-clause-verdict c e at =
    let inside = c.self.inside in
    subst (λ (t : Table). slice_get t.verdicts c.index.result.now ≡ Some e.verdict) c.self.view_is
    (number-verdict inside.classes.now.verdicts (questions_at inside.classes.now.places inside.listed.now.pairs.items) inside.listed.now.numbers.items c.args.n c.index.result.now e (pairs-one_each inside.classes.now.verdicts inside.classes.now.places inside.listed.now.pairs.items inside.listed.now.numbers.items c.self.invariant.one_each) c.self.invariant.within c.index.ensures
    (subst (λ (t : Table). slice_get t.entries c.args.n ≡ Some e) (sym c.self.view_is) at))
