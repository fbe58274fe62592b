use Rattle.std.proofs.Common.{◌≡◌, ◌<◌, get_or, ◌∙◌, arith}
use Rattle.std.proofs.lemmas.List.{get_or_read, length-set}
use Rattle.serial_orders.proofs.NumberLists.{write-push}
use Rattle.serial_orders.proofs.WalkLaws.{walk-new, walk-same, walk-once, walk-leads}
use Rattle.serial_orders.proofs.order.walk_back.Goals as goal

pub loop-walk-preserved : goal.loop-walk-preserved
loop-walk-preserved c =
    let led = c.args.leaders.items in
    let cur = c.loop-walk.leaders.items in
    let walk = c.loop-walk.walk.items in
    let at = c.loop-walk.at in
    let i = c.loop-walk.invariant in
    let long = i.long in
    let here = i.here in
    let read : c.index.result.now ≡ get_or cur at 0 = get_or_read cur at c.index.result.now (omega arith) c.index.ensures 0 in
    let more : 0 < get_or cur at 0 = omega arith in
    let next : c.replace-at.result ≡ get_or led at 0 = c.replace-at.ensures.value ∙ get_or_read cur at c.index_mut.result.now (omega arith) c.index_mut.ensures.value 0 ∙ walk-same led cur walk at i.kept more in
    record {
      long = length-set cur at c.replace-at.new.dest ∙ i.long;
      here = rw next (c.requires.within at);
      led = rw next (c.requires.on at i.led);
      kept = λ n. rw (c.in_ok-push.ensures.items, c.replace-at.ensures.after) (write-push led cur walk at 0 (omega arith) i.kept n);
      once = λ n. rw c.in_ok-push.ensures.items (walk-once walk at (walk-new led cur walk at i.kept more) i.once n);
      walked = λ before is.
          rw (c.in_ok-push.ensures.items, next) (walk-leads (λ i j. before j i) walk at (get_or led at 0) (i.walked before is) (is at i.led));
    }
