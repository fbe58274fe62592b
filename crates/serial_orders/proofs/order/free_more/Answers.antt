use Rattle.std.proofs.Common.{◌==◌, ◌&&◌, Bool, ℕ, nat_lt, get_or, length, arith, sym, ap, ◌∙◌}
use Rattle.std.specs.BTreeSet.{BTreeSet}
use Rattle.serial_orders.specs.Orders.{is_one_of}
use Rattle.serial_orders.proofs.NumberLists.{one-below, more-yes, more-no}
use Rattle.serial_orders.proofs.order.free_more.Goals as goal
use Rattle.serial_orders.proofs.order.free_more.Goals.{then-is_passed+in_ok-insert, else-is_passed}

pub is_passed-requires : goal.is_passed-requires
is_passed-requires c =
    one-below c.args.numbers.now (length c.args.waits.now) c.loop-number.number-index c.requires (omega arith)

pub loop-number-preserved : goal.loop-number-preserved
loop-number-preserved c = λ n.
    let old = c.args.passed.now.keys in
    let keys = c.loop-number.passed.keys in
    let test : ℕ → Bool = λ m. get_or c.args.waits.now m 0 == 0 && nat_lt m c.args.next in
    let numbers = c.args.numbers.now in
    let k = c.loop-number.number-index in
    elim c.if-is_passed.branch [
      | then-is_passed+in_ok-insert w ↦ ap (λ (s : BTreeSet ℕ). is_one_of s.keys n) w.passed-is ∙ rw w.in_ok-insert.ensures.keys (more-yes test old keys numbers k (omega arith) (sym c.is_passed.ensures ∙ w.if-is_passed.true) c.loop-number.invariant n)
      | else-is_passed w ↦ ap (λ (s : BTreeSet ℕ). is_one_of s.keys n) w.passed-is ∙ more-no test old keys numbers k (omega arith) (sym c.is_passed.ensures ∙ w.if-is_passed.false) c.loop-number.invariant n
    ]
