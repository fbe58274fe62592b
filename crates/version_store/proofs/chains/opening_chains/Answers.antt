use Rattle.std.proofs.Common.{◌∙◌, ap, rules, w64, FitsSigned}
use Rattle.std.specs.Prelude.{Some}
use Rattle.std.proofs.lemmas.Int.{to_z-of_z}
use Rattle.version_store.specs.declared.touches.Touch.TheVariants.{Change}
use Rattle.version_store.specs.Touches.{with_touch}
use Rattle.version_store.proofs.OpeningLaws.{row_more}
use Rattle.version_store.proofs.chains.opening_chains.Goals as goal

pub loop-cell-preserved : goal.loop-cell-preserved
loop-cell-preserved c =
    let value = c.in-Some.value.now in
    let fits : FitsSigned w64 value = search rules in
    let added = rw (to_z-of_z w64 value fits) at c.in_ok-add.ensures.ok in
    rw c.in_ok-push.ensures.items
    (row_more c.args.opening.now c.loop-cell.cell-iterator c.next.new.self c.loop-cell.chains.items c.in-Some.cell.now value c.add.new.self
    c.in-Some.ensures.steps (added ∙ ap (with_touch 0 (Change (Some value))) c.new-chain.ensures) c.loop-cell.invariant)
