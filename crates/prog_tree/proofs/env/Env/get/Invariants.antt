use Rattle.std.proofs.Common.{◌≡◌}
use Rattle.prog_tree.specs.Value.{value_in}
use Rattle.prog_tree.proofs.env.Env.get.Given as goal

-- the name is sought among the bindings that are left
abbrev pub invariant-loop-binding : goal.invariant-loop-binding
invariant-loop-binding l = value_in l.binding-iterator.iter.rest.now l.name ≡ value_in l.self l.name
