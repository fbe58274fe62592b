use Rattle.std.proofs.Common.{arith, length, length-append, ap, ◌∷◌, []}
use Rattle.si_repair.proofs.Searching.{none-listed, listed-more}
use Rattle.si_repair.proofs.plans.nodes.ProgramNodes.new.Goals as goal

pub loop-program-init : goal.loop-program-init
loop-program-init c = record {
  long = ap length c.new-lists.ensures.items;
  listed = none-listed c.args.paths.now c.new-lists.result.items c.new-lists.ensures.items;
}

pub loop-program-preserved : goal.loop-program-preserved
loop-program-preserved c =
    let lists = c.loop-program.lists.items in
    let nodes = c.in_ok-nodes.nodes in
    let so_far = c.loop-program.invariant in
    record {
      long = rw c.in_ok-push.ensures.items (let l = so_far.long in omega (arith, length-append lists (nodes ∷ []), l));
      listed = rw c.in_ok-push.ensures.items (listed-more c.args.paths.now c.loop-program.program lists nodes so_far.long so_far.listed c.in_ok-nodes.ensures);
    }
