use Rattle.std.proofs.Common.{◌≡◌, ◌+◌, ℕ, List, [], length, max, arith, rules, ap, subst}
use Rattle.std.proofs.lemmas.Bool.{false≢true}
use Rattle.serial_orders.specs.Precedence.{behind}
use Rattle.serial_orders.specs.Placing.{all_free}
use Rattle.serial_orders.proofs.FreeLaws.{start-free, freed-below, freed-more}
use Rattle.serial_orders.proofs.NumberLists.{written}
use Rattle.serial_orders.proofs.PlacingLaws.{IsPlacing, start-placing, stuck-placing, end-placing, next-placing, next-enough}
use Rattle.serial_orders.proofs.precedence.Precedence.order.Goals as goal

pub loop-place-init : goal.loop-place-init
loop-place-init c =
    let waits = c.in_ok-waits.waits.items in
    let long = c.in_ok-waits.ensures.long in
    rw (c.new-order.ensures.items, c.new-passed.ensures.empty) (record {
      placing = start-placing c.args.self.now waits (all_free [] waits 1) c.in_ok-waits.ensures (start-free waits);
      below = λ n h. absurd (false≢true h);
      within = omega arith;
    })

pub fault-requires : goal.fault-requires
fault-requires c =
    let none = ap length (rw c.deref.ensures.value at c.in_default.ensures.none) in
    rw c.deref-in_default.ensures.value (stuck-placing c.args.self.now c.loop-place._place c.loop-place.order.items c.loop-place.waits.items _ c.loop-place.invariant.placing (omega arith) (omega arith))

pub count_down-requires-clause-enough : goal.count_down-requires-clause-enough
count_down-requires-clause-enough c = λ n inside.
    let lists = c.args.self.now in
    let place = c.loop-place._place in
    let order = c.loop-place.order.items in
    let waits = c.loop-place.waits.items in
    let number = c.in-Some.number in
    let keys = all_free c.take_least.new.passed.keys waits (max c.loop-place.next (number + 1)) in
    let least = rw c.deref.ensures.value at c.in-Some.ensures.least in
    let now = subst (λ (w : List ℕ). IsPlacing lists place order waits w) least.first c.loop-place.invariant.placing in
    rw (c.deref_mut.ensures.value, c.behind-behind.ensures.numbers) (next-enough lists place order waits number keys now n (omega arith))

pub loop-place-preserved : goal.loop-place-preserved
loop-place-preserved c =
    let lists = c.args.self.now in
    let place = c.loop-place._place in
    let order = c.loop-place.order.items in
    let waits = c.loop-place.waits.items in
    let number = c.in-Some.number in
    let passed = c.take_least.new.passed.keys in
    let more = c.free_more.new.passed.keys in
    let next = max c.loop-place.next (number + 1) in
    let keys = all_free passed waits next in
    let counts = c.count_down.new.counts in
    let least = rw c.deref.ensures.value at c.in-Some.ensures.least in
    let now = subst (λ (w : List ℕ). IsPlacing lists place order waits w) least.first c.loop-place.invariant.placing in
    let same : length counts ≡ length waits = omega arith in
    let whole = written c.loop-place.waits.len counts waits (omega arith) same in
    let greater : c.max-next.result ≡ next = search rules in
    let fewer = rw (c.deref_mut.ensures.value, c.behind-behind.ensures.numbers) at c.count_down.ensures in
    let freed = rw (c.behind-behind.ensures.numbers, c.deref-in-loop-place.ensures.value, whole, greater) at c.in_ok-free_more.ensures in
    let known = rw c.behind-behind.ensures.numbers at c.behind-behind.ensures.known in
    let all = freed-more waits counts passed more (behind lists number) next freed same (λ n h. let k = known n h in let high = k.1 in omega arith) fewer in
    rw (c.in_ok-push.ensures.items, whole, greater) (record {
      placing = next-placing lists place order waits number keys now least.less counts (all_free more counts next) same known fewer all;
      below = freed-below waits counts passed more (behind lists number) next freed (λ n h. let low = c.in-Some.ensures.passed n h in omega arith);
      within =
          (let number_within = rw c.deref.ensures.value at c.in-Some.ensures.within in
          let next_within = c.loop-place.invariant.within in
          omega (arith, same, number_within, next_within));
    })

pub returns-clause-order : goal.returns-clause-order
returns-clause-order c =
    end-placing c.args.self.now c.loop-place._place c.loop-place.order.items c.loop-place.waits.items _ c.loop-place.invariant.placing (omega arith)
