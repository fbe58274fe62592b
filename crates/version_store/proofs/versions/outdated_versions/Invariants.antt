use Rattle.version_store.proofs.TrimLaws.{Outdates}
use Rattle.version_store.proofs.versions.outdated_versions.Given as goal

abbrev pub invariant-loop-place : goal.invariant-loop-place
invariant-loop-place l = Outdates l.floor l.versions l.outdated l.place
