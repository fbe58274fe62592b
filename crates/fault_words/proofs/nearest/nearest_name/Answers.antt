use Rattle.std.proofs.Common.{rules, arith, ◌≤◌, Bor, List, ℕ}
use Rattle.fault_words.proofs.Nearer.{nearer_so_far, no_nearer_so_far}
use Rattle.fault_words.proofs.nearest.nearest_name.Goals as goal
use Rattle.fault_words.proofs.nearest.nearest_name.Goals.{then-count-fewest, else-count-fewest}

pub loop-name-preserved : goal.loop-name-preserved
loop-name-preserved c = elim c.if-count-fewest.branch [
  | then-count-fewest w ↦
      let more = nearer_so_far (λ (name : Bor (List ℕ)). name.now) c.args.word.now c.args.names.now c.loop-name.name-index _ c.loop-name.best
      c.if-count-fewest.best c.loop-name.fewest c.if-count-fewest.fewest c.in_ok-count.count c.loop-name-test.true c.in_ok-count.ensures
      c.loop-name.invariant.fewest w.if-count-fewest.true c.loop-name.invariant.best w.best-is w.fewest-is in record {
        among = rw w.best-is (search rules);
        best = more.0;
        fewest = more.1;
        short = c.loop-name.invariant.short;
      }
  | else-count-fewest w ↦
      let many : c.loop-name.fewest ≤ c.in_ok-count.count = omega (arith, w.if-count-fewest.false) in
      let more = no_nearer_so_far (λ (name : Bor (List ℕ)). name.now) c.args.word.now c.args.names.now c.loop-name.name-index _ c.loop-name.best
      c.if-count-fewest.best c.loop-name.fewest c.if-count-fewest.fewest c.in_ok-count.count c.loop-name-test.true c.in_ok-count.ensures
      c.loop-name.invariant.fewest many c.loop-name.invariant.best w.best-is w.fewest-is in record {
        among = rw w.best-is c.loop-name.invariant.among;
        best = more.0;
        fewest = more.1;
        short = c.loop-name.invariant.short;
      }
]
