use Rattle.std.proofs.Common.{◌≡◌, ◌∙◌, ◌≤◌, ◌<◌, ◌++◌, ap, subst, sym, arith}
use Rattle.std.specs.Prelude.{filter}
use Rattle.std.specs.List.Sorted.{IsStrictlySortedBy}
use Rattle.prog_tree.specs.declared.cell.Cell.{Cell}
use Rattle.prog_tree.specs.Table.{cell_cmp, Cells, cells_of, TableState, row_held}
use Rattle.prog_tree.specs.Corners.{is_between}
use Rattle.version_store.specs.Reading.{AllRise}
use Rattle.version_store.specs.Regions.{seen_in, seen_between, IsSeen}
use Rattle.version_store.specs.StandsFor.{VersionChain}
use Rattle.version_store.proofs.FoundLaws.{IsLeft, between_left, first_rises, rest_left, gains_first, gains_more, gained, found_rows}
use Rattle.version_store.proofs.ShareLaws.{none_seen}
use Rattle.version_store.proofs.chains.Chains.block_of.Goals as goal

pub returns-in_default-clause-says : goal.returns-in_default-clause-says
returns-in_default-clause-says c = λ rise n above since below. none_seen c.args.region.now n c.args.self.now c.in_default.ensures _ (c.in_ok-block.ensures.rows ∙ c.in_ok-rows.ensures.items)

pub loop-cell-init : goal.loop-cell-init
loop-cell-init c =
    let chains = c.self.inside.chains.entries in
    let ends = c.new.ensures in
    let between : c.into_iter-cell-iterator.result ≡ filter (λ (e : Cell × VersionChain). is_between c.in-Some.low c.in-Some.high e.0) chains =
    c.into_iter-cell-iterator.ensures.into_iter_gives ∙ c.range-cell-items.ensures.between ends.exhausted
    ∙ (λ i. filter (λ (e : Cell × VersionChain). is_between (ends.start i) (ends.end i) e.0) chains) in
    rw (← c.self.view_is, c.in_ok-rows.ensures.items)
    (record {
      says = λ rise n since below. gains_first c.args.region.now n c.in-Some.low c.in-Some.high chains c.into_iter-cell-iterator.result c.range-cell-items.ensures.ordered rise c.in-Some.ensures between;
      walk = λ rise. between_left (is_between c.in-Some.low c.in-Some.high) chains c.into_iter-cell-iterator.result c.range-cell-items.ensures.ordered rise between;
      start = λ rise below. (omega arith, below);
    })

pub loop-cell-preserved : goal.loop-cell-preserved
loop-cell-preserved c =
    let cell = c.in-Some-2.cell.now in
    let chain = c.in-Some-2.chain.now in
    let rest = c.next.new.self in
    let left = λ (rise : AllRise c.args.self.now). subst IsLeft c.in-Some-2.ensures.steps (c.loop-cell.invariant.walk rise) in record {
      says = λ rise n since below.
          let since_before : c.loop-cell.since ≤ n = omega (arith, since, c.max-since.ensures) in
          let since_here : c.stretch_between-stretch.result.since ≤ n = omega (arith, since, c.max-since.ensures) in
          let below_before : n < c.loop-cell.till = omega (arith, below, c.min-till.ensures) in
          let below_here : n < c.stretch_between-stretch.result.till = omega (arith, below, c.min-till.ensures) in
          gains_more (seen_between c.args.region.now n) (found_rows (seen_in c.args.region.now n) c.args.self.now) c.loop-cell.cell-iterator rest cell chain c.loop-cell.rows.items c.push_row.new.rows.items
          c.in-Some-2.ensures.steps (c.loop-cell.invariant.says rise n since_before below_before)
          (λ rises. c.in_ok-push_row.ensures ∙ ap (λ o. c.loop-cell.rows.items ++ row_held cell o) (sym (c.stretch_between-stretch.ensures.sees rises n (since_here, below_here))));
      walk = λ rise. rest_left cell chain rest (left rise);
      start = λ rise below.
          let before = c.loop-cell.invariant.start rise below in
          let here = c.stretch_between-stretch.ensures.start (first_rises cell chain rest (left rise)) below in
          (omega (arith, before.0, here.0, c.max-since.ensures), omega (arith, before.1, here.1, c.min-till.ensures));
    }

pub returns-clause-says : goal.returns-clause-says
returns-clause-says c = λ rise n above since below.
    let sorted = subst (λ (es : Cells VersionChain). IsStrictlySortedBy cell_cmp (cells_of es)) c.self.view_is c.range-cell-items.ensures.ordered in
    let since_walked : c.loop-cell.since ≤ n = omega (arith, since, c.in_ok-block-2.ensures.since) in
    let below_walked : n < c.loop-cell.till = omega (arith, below, c.in_ok-block-2.ensures.till) in
    subst (λ (m : TableState). IsSeen (seen_in c.args.region.now n) c.args.self.now m) (sym c.in_ok-block-2.ensures.rows)
    (gained c.args.region.now n c.args.self.now c.loop-cell.cell-iterator c.loop-cell.rows.items sorted c.in-None.ensures.steps.0 (c.loop-cell.invariant.says rise n since_walked below_walked))

pub returns-clause-start : goal.returns-clause-start
returns-clause-start c = λ rise below.
    let walked = c.loop-cell.invariant.start rise below in
    (omega (arith, walked.0, c.in_ok-block-2.ensures.since), omega (arith, walked.1, c.in_ok-block-2.ensures.till))
