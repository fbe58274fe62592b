use Rattle.std.proofs.Common.{◌≤◌, length, String, string_bytes, ap, subst, take_all, arith}
use Rattle.std.specs.Prelude.{All}
use Rattle.std.specs.declared.alloc.Global.{Global}
use Rattle.robust_cert.proofs.Pieces.{longer}
use Rattle.robust_cert.proofs.text.next_entries.longest.Goals as goal

pub loop-tail-preserved : goal.loop-tail-preserved
loop-tail-preserved c =
    longer c.args.tails.now c.loop-tail.tail-index c.tail-item.result c.loop-tail.longest _ c.loop-tail-test.true c.tail-item.is c.loop-tail.invariant
    (omega arith) (omega (arith, ap length c.as_bytes.ensures.value))

pub returns : goal.returns
returns c =
    subst (All (λ (t : String Global). length (string_bytes t) ≤ c.loop-tail.longest)) (take_all c.loop-tail.tail-index c.args.tails.now (omega arith)) c.loop-tail.invariant
