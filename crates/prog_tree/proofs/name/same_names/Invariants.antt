use Rattle.std.proofs.Common.{◌≡◌, ◌↔◌, length}
use Rattle.prog_tree.proofs.name.same_names.Given as goal

-- as many names are left in both, and they are the same exactly where all are
abbrev pub invariant-loop-name : goal.invariant-loop-name
invariant-loop-name l = record {
  length : length l.name-iterator.a.rest.now ≡ length l.name-iterator.b.rest.now;
  rest : (l.name-iterator.a.rest.now ≡ l.name-iterator.b.rest.now) ↔ (l.names ≡ l.others);
}
