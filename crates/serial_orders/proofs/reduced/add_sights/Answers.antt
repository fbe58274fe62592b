use Rattle.std.proofs.Common.{◌+◌, ◌∙◌, arith, ap, sym}
use Rattle.std.specs.Prelude.{slice_get}
use Rattle.std.proofs.lemmas.List.{take_rest}
use Rattle.serial_orders.proofs.SightPairs.{look_on, look_again}
use Rattle.serial_orders.specs.Reduced.{sights_pairs}
use Rattle.serial_orders.proofs.reduced.add_sights.Goals as goal
use Rattle.serial_orders.proofs.reduced.add_sights.Goals.{then-not-begins_with+in_ok-add_sight, else-not-begins_with}

pub loop-index-preserved : goal.loop-index-preserved
loop-index-preserved c =
    let reader = c.args.reader in
    let start = c.args.start in
    let writers = c.args.writers.now in
    let all = sights_pairs reader start writers c.args.sights.now in
    let old = c.args.precedence.now in
    let at = c.index-sights-index in
    let behind = take_rest c.args.sights.now (c.loop-index.index + 1) in
    elim c.if-not-begins_with.branch [
      | then-not-begins_with+in_ok-add_sight w ↦ rw w.precedence-is (look_on reader start writers all old c.args.sights.now c.loop-index.index at.result c.loop-index.precedence w.add_sight.new.precedence (omega arith) at.is c.loop-index.invariant w.in_ok-add_sight.ensures)
      | else-not-begins_with w ↦ rw w.precedence-is (look_again reader start writers all old c.args.sights.now c.loop-index.index at.result c.loop-index.precedence (omega arith) at.is (ap (λ ss. slice_get ss 0) (sym behind) ∙ c.begins_with.ensures.0 w.if-not-begins_with.false) c.loop-index.invariant)
    ]
