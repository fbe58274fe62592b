use Rattle.std.proofs.Common.{◌∙◌, if◌then◌else◌, ap, sym, rules, w64, FitsSigned}
use Rattle.std.specs.Prelude.{None}
use Rattle.std.proofs.lemmas.Int.{to_z-of_z}
use Rattle.version_store.specs.Reading.{value_at}
use Rattle.version_store.proofs.stretch.stretch_between.Goals as goal

pub returns-then-not-lies_between-clause-sees : goal.returns-then-not-lies_between-clause-sees
returns-then-not-lies_between-clause-sees c = λ rises n inside.
    let low : FitsSigned w64 c.args.region.now.second_low = search rules in
    let second : FitsSigned w64 c.args.cell.now.second = search rules in
    let high : FitsSigned w64 c.args.region.now.second_high = search rules in
    let is = rw (to_z-of_z w64 c.args.region.now.second_low low, to_z-of_z w64 c.args.cell.now.second second, to_z-of_z w64 c.args.region.now.second_high high) at c.lies_between.ensures in
    ap (λ b. if b then value_at n c.args.chain.now else None) (sym is ∙ c.if-not-lies_between.true)

pub returns-clause-sees : goal.returns-clause-sees
returns-clause-sees c = λ rises n inside.
    let low : FitsSigned w64 c.args.region.now.second_low = search rules in
    let second : FitsSigned w64 c.args.cell.now.second = search rules in
    let high : FitsSigned w64 c.args.region.now.second_high = search rules in
    let is = rw (to_z-of_z w64 c.args.region.now.second_low low, to_z-of_z w64 c.args.cell.now.second second, to_z-of_z w64 c.args.region.now.second_high high) at c.lies_between.ensures in
    ap (λ b. if b then value_at n c.args.chain.now else None) (sym is ∙ c.if-not-lies_between.false) ∙ c.stretch_at.ensures.holds rises n inside
