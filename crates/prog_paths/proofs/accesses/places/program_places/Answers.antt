use Rattle.std.proofs.Common.{◌++◌, ◌∙◌, ap, arith}
use Rattle.prog_paths.specs.Places.{placed_from, program_from}
use Rattle.prog_paths.proofs.Questions.{program-more, program-end}
use Rattle.prog_paths.proofs.accesses.places.program_places.Goals as goal

pub loop-node-preserved : goal.loop-node-preserved
loop-node-preserved c =
    program-more c.args.program c.loop-node.places.items c.push_node.new.places.items (program_from c.args.program 0 c.args.paths.now) c.loop-node.node c.args.paths.now c.index-paths-node.result (omega arith) c.index-paths-node.is
    (c.in_ok-push_node.ensures ∙ ap (λ xs. c.loop-node.places.items ++ placed_from c.loop-node.node 0 xs) c.accesses_by.ensures) c.loop-node.invariant

pub returns : goal.returns
returns c =
    program-end c.args.program c.loop-node.places.items (program_from c.args.program 0 c.args.paths.now) c.loop-node.node c.args.paths.now (omega arith) c.loop-node.invariant
