use Rattle.std.proofs.Common.{◌∙◌, [], refl, subst, sym}
use Rattle.prog_tree.specs.Table.{Cells}
use Rattle.version_store.specs.StandsFor.{VersionChain}
use Rattle.version_store.specs.Regions.{seen_anywhere}
use Rattle.version_store.proofs.ScanLaws.{Gathers, gathers_all, gathers_more, gathered}
use Rattle.version_store.proofs.chains.Chains.state.Goals as goal

pub loop-cell-init : goal.loop-cell-init
loop-cell-init c = λ rise.
    let all = c.into_iter-cell-iterator.ensures.into_iter_gives ∙ c.iter-cell-items.ensures.rest in
    rw (← c.self.view_is, c.new-rows.ensures)
    (subst (λ (es : Cells VersionChain). Gathers (seen_anywhere c.args.start) c.self.inside.chains.entries es []) (sym all) (gathers_all (seen_anywhere c.args.start) c.self.inside.chains.entries c.iter-cell-items.ensures.ordered))

pub loop-cell-preserved : goal.loop-cell-preserved
loop-cell-preserved c = λ rise.
    gathers_more (seen_anywhere c.args.start) c.args.self.now c.loop-cell.cell-iterator c.next.new.self c.in-Some.cell.now c.in-Some.chain.now c.loop-cell.rows c.add_found.new.rows rise
    c.in-Some.ensures.steps (c.loop-cell.invariant rise) c.in_ok-add_found.ensures

pub returns : goal.returns
returns c = λ rise. (
  (c.loop-cell.invariant rise).ordered,
  gathered (seen_anywhere c.args.start) (λ cell. refl) c.args.self.now c.loop-cell.cell-iterator c.loop-cell.rows c.in-None.ensures.steps.0 (c.loop-cell.invariant rise),
)
