use Rattle.std.proofs.Common.{◌++◌, List, ap, sym, subst, arith, take, ◌∙◌}
use Rattle.prog_check.specs.declared.path.Access.{Access}
use Rattle.prog_paths.specs.declared.accesses.places.Placed.{Placed}
use Rattle.prog_paths.specs.Places.{placed_from, all_from}
use Rattle.prog_paths.specs.Tally.{IsTally}
use Rattle.prog_paths.proofs.Walked.{all_from-more, first_nodes}
use Rattle.prog_paths.proofs.accesses.count.tally_of.Goals as goal

pub loop-path-init : goal.loop-path-init
loop-path-init c = c.new-tally.ensures c.args.table

pub loop-path-preserved : goal.loop-path-preserved
loop-path-preserved c =
    let k = c.loop-path.path-index in
    let paths = c.args.paths.now in
    let path = c.path-item.result in
    let list = ap (λ (l : List Access). all_from 0 (take k paths) ++ placed_from k 0 l) c.as_slice.ensures ∙ sym (all_from-more k paths path c.loop-path-test.true c.path-item.is) in
    subst (λ (l : List Placed). IsTally c.args.table l c.with_node-tally.result) list
    (c.with_node-tally.ensures k (all_from 0 (take k paths)) (first_nodes k paths (omega arith)) c.loop-path.invariant)
