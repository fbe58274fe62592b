use Rattle.std.proofs.Common.{◌≡◌, ℕ, List, ◌++◌, length, take, drop, reverse, nat_lt, sym, ap, ◌∙◌, subst, arith, length-drop, take_all, ◌-◌}
use Rattle.std.specs.List.{IsFirstBest}
use Rattle.serial_orders.specs.Orders.{IsCycle}
use Rattle.serial_orders.proofs.WalkLaws.{walk-cycle}
use Rattle.serial_orders.proofs.order.cycle_of.Goals as goal

pub returns : goal.returns
returns c = λ before walked.
    let walk = c.args.walk.now in
    let k = c.place_of_least-least.result in
    let part = take_all (length walk - c.place_of-start.result) (drop c.place_of-start.result walk) (omega (arith, length-drop c.place_of-start.result walk)) in
    let read : c.reverse.new.self.items ≡ reverse (drop c.place_of-start.result walk) = c.reverse.ensures.items ∙ ap reverse (c.in_ok-cycle.ensures.items ∙ part) in
    let best = subst (λ (w : List ℕ). IsFirstBest nat_lt w (length w) k) (c.deref.ensures.value ∙ read) c.place_of_least-least.ensures in
    let cycle = walk-cycle before walk c.args.again c.place_of-start.result k walked c.place_of-start.ensures.within c.place_of-start.ensures.there best in
    subst (λ (w : List ℕ). IsCycle before w) (sym (c.rotate_left.ensures.items ∙ ap (λ (w : List ℕ). drop k w ++ take k w) read)) cycle
