use Rattle.std.proofs.Common.{◌≡◌, ◌∙◌, ℕ, List, true, false, length, subst, sym}
use Rattle.std.specs.Prelude.{filter}
use Rattle.prog_tree.specs.declared.cell.Cell.{Cell}
use Rattle.prog_tree.specs.Corners.{is_between}
use Rattle.serial_orders.specs.Reduced.{Pairs, RiseFrom, AreWithin, AddsPairs, reader_pairs, region_pairs}
use Rattle.serial_orders.proofs.PairLaws.{no_pair}
use Rattle.serial_orders.proofs.RegionPairs.{entry_first, region_on, region_begins, no_region}
use Rattle.serial_orders.proofs.reduced.add_region.Goals as goal

pub returns-in_default : goal.returns-in_default
returns-in_default c =
    let old = c.args.precedence.now in
    subst (λ (ps : Pairs). AddsPairs ps old old) (sym (no_region old (length old) c.args.reader c.args.start c.args.region.now c.args.own.now c.args.writers.now c.in_default.ensures)) (no_pair old)

pub loop-cell-init : goal.loop-cell-init
loop-cell-init c =
    let old = c.args.precedence.now in
    let entries = c.writers.inside.cells.entries in
    let ends = c.new.ensures in
    let between : c.into_iter-cell-iterator.result ≡ filter (λ (e : Cell × List ℕ). is_between c.in-Some.low c.in-Some.high e.0) c.args.writers.now =
    c.into_iter-cell-iterator.ensures.into_iter_gives ∙ c.range-cell-items.ensures.between ends.exhausted
    ∙ (λ i. filter (λ (e : Cell × List ℕ). is_between (ends.start i) (ends.end i) e.0) (c.writers.view_is i)) in
    region_begins old (length old) c.args.reader c.args.start c.args.region.now c.args.own.now c.in-Some.low c.in-Some.high c.args.writers.now c.into_iter-cell-iterator.result c.in-Some.ensures between
    c.requires.within

pub add_reader-requires-clause-rise : goal.add_reader-requires-clause-rise
add_reader-requires-clause-rise c =
    let old = c.args.precedence.now in
    subst (λ (ws : List ℕ). RiseFrom 0 ws) (sym c.as_slice.ensures)
    (entry_first old (length old) c.loop-cell.cell-iterator c.next.new.self c.in-Some-2.cell.now c.in-Some-2.numbers.now c.in-Some-2.ensures.steps c.loop-cell.invariant.1).0.0

pub add_reader-requires-clause-within : goal.add_reader-requires-clause-within
add_reader-requires-clause-within c =
    let old = c.args.precedence.now in
    let here = (entry_first old (length old) c.loop-cell.cell-iterator c.next.new.self c.in-Some-2.cell.now c.in-Some-2.numbers.now c.in-Some-2.ensures.steps c.loop-cell.invariant.1).0.1 in
    subst (λ (ws : List ℕ). AreWithin (length c.loop-cell.precedence) ws) (sym c.as_slice.ensures)
    (subst (λ (n : ℕ). AreWithin n c.in-Some-2.numbers.now) (sym c.loop-cell.invariant.0.commits) here)

pub loop-cell-preserved-in-Continue-1 : goal.loop-cell-preserved-in-Continue-1
loop-cell-preserved-in-Continue-1 c =
    let old = c.args.precedence.now in
    region_on old (length old) c.args.reader c.args.start c.args.region.now c.args.own.now true
    (region_pairs c.args.reader c.args.start c.args.region.now c.args.own.now c.args.writers.now) c.loop-cell.precedence c.add_reader.new.precedence c.loop-cell.cell-iterator c.next.new.self
    c.in-Some-2.cell.now c.in-Some-2.numbers.now c.in-Some-2.ensures.steps (sym c.region_takes_in.ensures ∙ c.if-region_takes_in.true) c.loop-cell.invariant
    (subst (λ (ws : List ℕ). AddsPairs (reader_pairs c.args.reader c.args.start ws) c.loop-cell.precedence c.add_reader.new.precedence) c.as_slice.ensures c.in_ok-add_reader.ensures)

pub loop-cell-preserved : goal.loop-cell-preserved
loop-cell-preserved c =
    let old = c.args.precedence.now in
    region_on old (length old) c.args.reader c.args.start c.args.region.now c.args.own.now false
    (region_pairs c.args.reader c.args.start c.args.region.now c.args.own.now c.args.writers.now) c.loop-cell.precedence c.loop-cell.precedence c.loop-cell.cell-iterator c.next.new.self
    c.in-Some-2.cell.now c.in-Some-2.numbers.now c.in-Some-2.ensures.steps (sym c.region_takes_in.ensures ∙ c.if-region_takes_in.false) c.loop-cell.invariant
    (no_pair c.loop-cell.precedence)
