use Rattle.std.proofs.Common.{◌++◌, arith}
use Rattle.prog_paths.specs.Places.{placed_from}
use Rattle.prog_paths.proofs.Questions.{placed-more, placed-end}
use Rattle.prog_paths.proofs.accesses.places.push_node.Goals as goal

pub loop-number-preserved : goal.loop-number-preserved
loop-number-preserved c = placed-more c.loop-number.places.items _ (c.args.places.now.items ++ placed_from c.args.node 0 c.args.accesses.now) c.args.node c.loop-number.number c.args.accesses.now _ (omega arith) c.in_ok-push.ensures.items c.loop-number.invariant

pub returns : goal.returns
returns c = placed-end c.loop-number.places.items (c.args.places.now.items ++ placed_from c.args.node 0 c.args.accesses.now) c.args.node c.loop-number.number c.args.accesses.now (omega arith) c.loop-number.invariant
