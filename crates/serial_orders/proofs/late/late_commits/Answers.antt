use Rattle.std.proofs.Common.{◌≡◌, ◌∙◌, length, sym, arith}
use Rattle.serial_orders.proofs.NumberLists.{written}
use Rattle.serial_orders.proofs.late.late_commits.Goals as goal

pub mark_late-requires-clause-some : goal.mark_late-requires-clause-some
mark_late-requires-clause-some c =
    let long = c.in_ok-slots.ensures.len in
    let most = c.max-count.ensures in
    omega (arith, long, most)

pub returns : goal.returns
returns c =
    let late = c.mark_late.new.late in
    let same : length late ≡ length c.in_ok-late.late.items = c.mark_late.ensures.long ∙ sym (let long = c.in_ok-late.ensures.len in omega (arith, long)) in
    rw (written c.in_ok-late.late.len late c.in_ok-late.late.items (omega arith) same) c.mark_late.ensures
