use Rattle.dep_graph.proofs.Exposing.{IsNoneBefore}
use Rattle.dep_graph.proofs.danger.first_exposure.Given as goal

-- no question of an access before makes the edge vulnerable
abbrev pub invariant-loop-a : goal.invariant-loop-a
invariant-loop-a l = IsNoneBefore l.paths l.x l.y l.a
