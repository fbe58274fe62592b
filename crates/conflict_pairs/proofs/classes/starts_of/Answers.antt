use Rattle.std.proofs.Common.{◌+◌, length, ap, arith}
use Rattle.prog_check.specs.declared.path.Access.{Access}
use Rattle.std.specs.Prelude.{List}
use Rattle.conflict_pairs.specs.Classes.{starts_from}
use Rattle.conflict_pairs.proofs.OneClass.{starts-more, left-more}
use Rattle.conflict_pairs.proofs.classes.starts_of.Goals as goal

pub overflow_add-start : goal.overflow_add-start
overflow_add-start c =
    let left = left-more c.loop-path.path-index c.args.paths.now c.path-item.result c.loop-path-test.true c.path-item.is in
    let long = ap length c.as_slice.ensures in
    let all = c.loop-path.invariant.left in
    let fits = c.requires in
    omega (arith, left, long, all, fits)

pub loop-path-preserved : goal.loop-path-preserved
loop-path-preserved c =
    let left = left-more c.loop-path.path-index c.args.paths.now c.path-item.result c.loop-path-test.true c.path-item.is in
    let long = ap length c.as_slice.ensures in
    let all = c.loop-path.invariant.left in
    record {
      starts =
          starts-more c.loop-path.starts.items c.push.new.self.items (starts_from 0 c.args.paths.now) c.loop-path.start _ c.loop-path.path-index c.args.paths.now c.path-item.result c.loop-path-test.true c.path-item.is
          c.in_ok-push.ensures.items (ap (λ (l : List Access). c.loop-path.start + length l) c.as_slice.ensures) c.loop-path.invariant.starts;
      left = omega (arith, left, long, all);
    }
