use Rattle.std.proofs.Common.{◌≡◌, ◌++◌, drop, false}
use Rattle.prog_check.specs.Names.{has_twice}
use Rattle.prog_check.proofs.heads.check_params.Given as goal

-- no parameter stands twice among those that were seen
abbrev pub invariant-loop-param : goal.invariant-loop-param
invariant-loop-param l = record {
  named : l.visible ++ drop l.param-index l.params ≡ l.params;
  once : has_twice l.visible ≡ false;
}
