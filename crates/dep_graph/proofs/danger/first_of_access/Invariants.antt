use Rattle.std.proofs.Common.{◌≡◌, ◌≤◌}
use Rattle.prog_paths.specs.StaticGraph.{IsVulnerable}
use Rattle.dep_graph.proofs.danger.first_of_access.Given as goal

-- no question of the access before makes the edge vulnerable
abbrev pub invariant-loop-b : goal.invariant-loop-b
invariant-loop-b l = (h : IsVulnerable l.paths l.x l.y) → h.question.a ≡ l.a → l.b ≤ h.question.b
