use Rattle.std.proofs.Common.{◌≡◌, ℕ, ◌<◌, length}
use Rattle.std.specs.Prelude.{slice_index_or}
use Rattle.prog_paths.specs.StaticGraph.{StaticEdge, Leads}
use Rattle.dep_graph.specs.Counting.{IsCountOf}
use Rattle.si_repair.proofs.certificate.levels_of.Given as goal

abbrev pub invariant-loop-x : goal.invariant-loop-x
invariant-loop-x l = record {
  one_each : length l.levels.items ≡ l.x;
  counted : (x : ℕ) → x < l.x → IsCountOf (λ u. Leads (StaticEdge l.graph) u x) (length l.graph) (slice_index_or l.levels.items x 0);
}
