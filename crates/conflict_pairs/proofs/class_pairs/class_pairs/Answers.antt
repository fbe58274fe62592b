use Rattle.std.proofs.Common.{◌≡◌, ℕ, ◌<◌, List, length, get_or, set, sym, ap, ◌∙◌, arith}
use Rattle.std.proofs.lemmas.List.{get_or_read}
use Rattle.prog_paths.specs.declared.accesses.places.Placed.{Placed}
use Rattle.prog_paths.specs.Changers.{changers_of}
use Rattle.prog_paths.specs.Tally.{of_table}
use Rattle.conflict_pairs.specs.declared.class_pairs.Row.{Row}
use Rattle.conflict_pairs.specs.Classes.{class_at}
use Rattle.conflict_pairs.specs.Pairing.{StandsAt, place_at}
use Rattle.conflict_pairs.proofs.ClassRows.{asked-changer, lasts-at, one_each, rows-all, rows-more, rows-skip}
use Rattle.conflict_pairs.proofs.Paired.{changers-all, place-any}
use Rattle.conflict_pairs.proofs.class_pairs.class_pairs.Goals as goal

pub loop-n-preserved-then-number_at-n : goal.loop-n-preserved-then-number_at-n
loop-n-preserved-then-number_at-n c =
    let k = c.args.classes.now in
    let paths = c.args.paths.now in
    let n = c.loop-n.n in
    let inside : n < length k.places.items = omega (arith, c.loop-n-test.true, c.deref-first-items.ensures.len) in
    let numbered : n < length k.numbers.items = omega (arith, inside, one_each paths k c.requires) in
    let read = get_or_read k.numbers.items n c.index-class.result.now numbered c.index-class.ensures 0 in
    let first_is : c.number_at.result ≡ get_or k.firsts.items (class_at k n) 0 = c.number_at.ensures ∙ (λ i. get_or (c.deref-in-loop-n.ensures.value i) (read i) 0) in
    rows-skip paths k c.requires c.loop-n.pairs.items c.loop-n.rows.items n (λ e. c.if-number_at-n.true (first_is ∙ e)) c.loop-n.invariant

pub push_row-requires-clause-seconds : goal.push_row-requires-clause-seconds
push_row-requires-clause-seconds c =
    let k = c.args.classes.now in
    changers-all (StandsAt k.starts.items k.places.items) c.in_ok-lasts.lasts.items c.in_ok-changers.changers c.of_table-seconds.result.now _ c.of_table-seconds.ensures
    (λ t. c.in_ok-changers.ensures t ∙ ap (changers_of t) c.deref.ensures.value) (lasts-at c.args.paths.now k c.requires c.in_ok-lasts.lasts.items c.in_ok-lasts.ensures)

pub loop-n-preserved : goal.loop-n-preserved
loop-n-preserved c =
    let k = c.args.classes.now in
    let paths = c.args.paths.now in
    let n = c.loop-n.n in
    let L = k.places.items in
    let old = c.loop-n.pairs.items in
    let new = c.push_row.new.pairs.items in
    let rows = c.loop-n.rows.items in
    let lasts = c.in_ok-lasts.lasts.items in
    let changers = c.in_ok-changers.changers in
    let seconds = c.of_table-seconds.result.now in
    let inside : n < length L = omega (arith, c.loop-n-test.true, c.deref-first-items.ensures.len) in
    let numbered : n < length k.numbers.items = omega (arith, inside, one_each paths k c.requires) in
    let read = get_or_read k.numbers.items n c.index-class.result.now numbered c.index-class.ensures 0 in
    let first_is : c.number_at.result ≡ get_or k.firsts.items (class_at k n) 0 = c.number_at.ensures ∙ (λ i. get_or (c.deref-in-loop-n.ensures.value i) (read i) 0) in
    let adds = rw c.in_ok-reserve.ensures.items at c.push_row.ensures in
    let of_first = rw c.deref-first-items.ensures.value at c.of_table-seconds.ensures in
    let of_it : seconds ≡ of_table (place_at L n).access.table changers = of_first ∙ ap (λ (p : Placed). of_table p.access.table changers) (place-any L n _ inside) in
    let start : c.len-start.result ≡ length old = omega (arith, c.len-start.ensures) in
    let end : c.len-end.result ≡ length new = omega (arith, c.len-end.ensures) in
    rows-more paths k c.requires old new rows n seconds c.loop-n.invariant inside adds
    (λ l l_in last e. asked-changer (place_at L n) (place_at L l) lasts changers seconds of_it (λ t. c.in_ok-changers.ensures t ∙ ap (changers_of t) c.deref.ensures.value) (c.in_ok-lasts.ensures.whole l l_in last) e)
    (sym first_is ∙ c.if-number_at-n.false) _
    (λ i. set rows (read i) (record { start = start i; end = end i }))

pub returns : goal.returns
returns c =
    let k = c.args.classes.now in
    rows-all c.args.paths.now k c.requires (record { pairs = c.loop-n.pairs; rows = c.loop-n.rows }) c.loop-n.n (omega (arith, c.loop-n-test.false, c.deref-first-items.ensures.len)) c.loop-n.invariant
