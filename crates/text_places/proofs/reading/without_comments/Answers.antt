use Rattle.std.proofs.Common.{arith}
use Rattle.text_places.proofs.reading.without_comments.Goals as goal

pub push_reserved-requires : goal.push_reserved-requires
push_reserved-requires c = omega (arith, c.loop-byte-test.true, c.loop-byte.invariant.one_each, c.loop-byte.invariant.room)
