use Rattle.std.proofs.Common.{arith}
use Rattle.si_engine.proofs.input.number.numbers.Goals as goal

pub push_reserved-requires : goal.push_reserved-requires
push_reserved-requires c = omega (arith, c.loop-word-test.true, c.loop-word.invariant.one_each, c.loop-word.invariant.room)
