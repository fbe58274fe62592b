use Rattle.prog_paths.specs.StaticGraph.{Precedes}
use Rattle.analysis_words.specs.Counts.{IsMostAmong, count_at}
use Rattle.analysis_words.proofs.entry_counts.EntryCounts.most_covering.Given as goal

-- the greatest count of the nodes so far
abbrev pub invariant-loop-node : goal.invariant-loop-node
invariant-loop-node l = IsMostAmong (count_at l.self.covers.items) (λ x a. Precedes x a l.node 0) l.most
