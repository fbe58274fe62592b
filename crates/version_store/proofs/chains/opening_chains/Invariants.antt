use Rattle.std.proofs.Common.{◌≡◌, ◌++◌}
use Rattle.version_store.specs.Reading.{opening_chains}
use Rattle.version_store.proofs.chains.opening_chains.Given as goal

abbrev pub invariant-loop-cell : goal.invariant-loop-cell
invariant-loop-cell l = (l.chains.items ++ opening_chains l.cell-iterator) ≡ opening_chains l.opening
