use Rattle.std.proofs.Common.{◌≡◌, ◌++◌, drop}
use Rattle.std.specs.Prelude.{zip}
use Rattle.prog_run.proofs.run.bind_all.Given as goal

abbrev pub invariant-loop-i : goal.invariant-loop-i
invariant-loop-i l = l.env ++ zip (drop l.i l.params) (drop l.i l.args) ≡ zip l.params l.args
