use Rattle.std.proofs.Common.{◌≡◌, List, Bool, true, length, sym, ap, subst, ◌∙◌, ◌+◌, arith}
use Rattle.std.proofs.lemmas.List.{length-set}
use Rattle.serial_orders.specs.Nearby.{is_marked, IsMarkedBelow, AreHolders}
use Rattle.serial_orders.proofs.NearbyLaws.{start-marked, start-holders, start-below, start-order, next-order, below-set, marked-more, holders-place}
use Rattle.serial_orders.proofs.NumberLists.{written}
use Rattle.serial_orders.proofs.nearby.nearby_order.Goals as goal

pub loop-place-init : goal.loop-place-init
loop-place-init c =
    let traces = c.args.traces.now in
    let marks = c.in_ok-placed.placed.items in
    let order = c.new-order.result.items in
    record {
      long = let long = c.in_ok-placed.ensures.len in omega arith;
      marked = start-marked marks order (length traces + 1) (c.in_ok-placed.ensures.items_if_clones_equal (λ y is. is)) c.new-order.ensures.items;
      below = start-below marks;
      holders = start-holders traces marks c.in_ok-holders.holders.items (c.in_ok-holders.ensures.items_if_clones_equal (λ y is. is));
      order = start-order traces order c.new-order.ensures.items;
    }

pub first_unplaced-from-requires : goal.first_unplaced-from-requires
first_unplaced-from-requires c =
    let marks = c.loop-place.placed.items in
    let number = c.in-Some.number in
    let long = c.loop-place.invariant.long in
    let last = c.in-Some.ensures.within.1 in
    subst (λ (bs : List Bool). IsMarkedBelow bs c.loop-place.from) (sym c.deref-in-loop-place-3.ensures.value)
    (below-set marks number c.loop-place.from (omega arith) c.loop-place.invariant.below)

pub loop-place-preserved : goal.loop-place-preserved
loop-place-preserved c =
    let traces = c.args.traces.now in
    let marks = c.loop-place.placed.items in
    let order = c.loop-place.order.items in
    let number = c.in-Some.number in
    let i = c.loop-place.invariant in
    let long = i.long in
    let last = c.in-Some.ensures.within.1 in
    let first = c.in-Some.ensures.first order (λ n. ap (λ (bs : List Bool). is_marked bs n) c.deref-in-loop-place-2.ensures.value ∙ i.marked n) in
    let holders = c.first_free.new.holders in
    let same : length holders ≡ length c.loop-place.holders.items = c.in-Some.ensures.holders.long ∙ sym i.holders.long in
    record {
      long = length-set marks number true ∙ i.long;
      marked = λ n. rw c.in_ok-push.ensures.items (marked-more marks order number (omega arith) i.marked n);
      below = subst (λ (bs : List Bool). IsMarkedBelow bs c.first_unplaced-from.result) c.deref-in-loop-place-3.ensures.value c.first_unplaced-from.ensures;
      holders = rw (written c.loop-place.holders.len holders c.loop-place.holders.items (omega arith) same)
          (holders-place traces marks holders number (omega arith) (subst (λ (bs : List Bool). AreHolders traces bs holders) c.deref-in-loop-place-2.ensures.value c.in-Some.ensures.holders));
      order = λ k e. rw c.in_ok-push.ensures.items (next-order traces order number c.loop-place._place first i.order k e);
    }

pub returns : goal.returns
returns c = sym (c.loop-place.invariant.order 0 (omega (arith, c.loop-place-test.false)))
