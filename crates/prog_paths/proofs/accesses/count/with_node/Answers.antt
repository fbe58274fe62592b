use Rattle.std.proofs.Common.{◌++◌, ◌+◌, List, refl, sym, subst, arith, take}
use Rattle.prog_paths.specs.declared.accesses.places.Placed.{Placed}
use Rattle.prog_paths.specs.declared.accesses.tally.AccessTally.{AccessTally}
use Rattle.prog_paths.specs.Places.{placed_from}
use Rattle.prog_paths.specs.Tally.{IsTally}
use Rattle.prog_paths.proofs.Questions.{placed}
use Rattle.prog_paths.proofs.Counted.{tally-other}
use Rattle.prog_paths.proofs.Walked.{walked, stands_behind}
use Rattle.prog_paths.proofs.accesses.count.with_node.Goals as goal
use Rattle.prog_paths.proofs.accesses.count.with_node.Goals.{then-access-table, else-access-table}

pub loop-access-preserved : goal.loop-access-preserved
loop-access-preserved c = λ node places below h.
    let k = c.loop-access.access-index in
    let xs = c.args.accesses.now in
    let so_far = places ++ placed_from node 0 (take k xs) in
    let old = c.loop-access.invariant node places below h in
    elim c.if-access-table.branch [
      | then-access-table w ↦
          subst (λ (t : AccessTally). IsTally c.args.table (places ++ placed_from node 0 (take (k + 1) xs)) t) (sym w.tally-is)
          (subst (λ (l : List Placed). IsTally c.args.table l w.with-tally.result) (walked node k places xs _ c.loop-access-test.true)
          (w.with-tally.ensures c.args.table so_far (placed node k _) w.if-access-table.true refl (stands_behind node k places xs (omega arith) below) old))
      | else-access-table w ↦
          subst (λ (t : AccessTally). IsTally c.args.table (places ++ placed_from node 0 (take (k + 1) xs)) t) (sym w.tally-is)
          (subst (λ (l : List Placed). IsTally c.args.table l c.loop-access.tally) (walked node k places xs _ c.loop-access-test.true)
          (tally-other c.args.table so_far (placed node k _) c.loop-access.tally w.if-access-table.false old))
    ]
