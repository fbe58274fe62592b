use Rattle.std.proofs.Common.{◌≡◌, ◌+◌, ◌^◌, ◌<◌, ℕ, List, slice_index, length, arith, [], ap}
use Rattle.std.proofs.lemmas.List.{at_drop_more}
use Rattle.serial_orders.specs.Placing.{times, waits_from}
use Rattle.serial_orders.specs.Precedence.{behind}
use Rattle.serial_orders.proofs.NumberLists.{times-most, written}
use Rattle.serial_orders.proofs.PlacingLaws.{behind-next}
use Rattle.serial_orders.proofs.precedence.Precedence.waits.Goals as goal

pub count_up-requires-clause-room : goal.count_up-requires-clause-room
count_up-requires-clause-room c = λ n inside.
    let fits : length c.behind.result.now < 2 ^ 63 = omega arith in
    let few = times-most n c.behind.result.now in
    let value = ap (λ (w : List ℕ). slice_index w n) c.deref_mut.ensures.value in
    let long = ap (λ (w : List ℕ). length w) c.deref_mut.ensures.value in
    let small = c.loop-place.invariant.small n (omega arith) in
    omega arith

pub loop-place-preserved : goal.loop-place-preserved
loop-place-preserved c =
    let lists = c.args.self.now in
    let k = c.loop-place.place in
    let waits = c.loop-place.waits.items in
    let counts = c.count_up.new.counts in
    let i = c.loop-place.invariant in
    let long = i.long in
    let same : length counts ≡ length waits = omega arith in
    rw (written c.loop-place.waits.len counts waits (omega arith) same) (record {
      long = omega arith;
      counted = λ n inside.
          let was = i.counted n (omega arith) in
          let now = rw (c.deref_mut.ensures.value, c.behind.ensures.numbers) at c.count_up.ensures in
          let more = now n (omega arith) in
          let numbers = ap (times n) (behind-next lists k) in
          let next = at_drop_more (λ (w : List (List ℕ)). waits_from (k + 1) w [] n) lists k [] (omega arith) in
          omega arith;
      small = λ n inside.
          let was = i.small n (omega arith) in
          let now = rw (c.deref_mut.ensures.value, c.behind.ensures.numbers) at c.count_up.ensures in
          let more = now n (omega arith) in
          let few = times-most n (behind lists (k + 1)) in
          let fits : length c.behind.result.now < 2 ^ 63 = omega arith in
          let size = ap (λ (xs : List ℕ). length xs) c.behind.ensures.numbers in
          omega arith;
    })
