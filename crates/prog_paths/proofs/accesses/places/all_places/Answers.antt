use Rattle.std.proofs.Common.{◌++◌, ◌∙◌, ap, arith}
use Rattle.prog_paths.specs.Places.{all_from, placed_from}
use Rattle.prog_paths.proofs.Questions.{all-more, all-end}
use Rattle.prog_paths.proofs.accesses.places.all_places.Goals as goal

pub loop-node-preserved : goal.loop-node-preserved
loop-node-preserved c =
    all-more c.loop-node.places.items c.push_node.new.places.items (all_from 0 c.args.paths.now) c.loop-node.node c.args.paths.now c.index-paths-node.result (omega arith) c.index-paths-node.is
    (c.in_ok-push_node.ensures ∙ ap (λ xs. c.loop-node.places.items ++ placed_from c.loop-node.node 0 xs) c.as_slice.ensures) c.loop-node.invariant

pub returns : goal.returns
returns c = all-end c.loop-node.places.items (all_from 0 c.args.paths.now) c.loop-node.node c.args.paths.now (omega arith) c.loop-node.invariant
