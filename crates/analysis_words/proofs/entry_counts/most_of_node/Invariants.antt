use Rattle.std.proofs.Common.{◌≡◌, ℕ, Option, slice_get}
use Rattle.prog_paths.specs.StaticGraph.{Precedes}
use Rattle.analysis_words.specs.Counts.{IsMostAmong}
use Rattle.analysis_words.proofs.entry_counts.most_of_node.Given as goal

-- the same of the accesses so far, with those of the nodes before
abbrev pub invariant-loop-access : goal.invariant-loop-access
invariant-loop-access l = (count : (x a : ℕ) → Option ℕ) → ((a : ℕ) → count l.node a ≡ slice_get l.covers a)
    → IsMostAmong count (λ x a. Precedes x a l.node 0) l.fn.before
    → IsMostAmong count (λ x a. Precedes x a l.node l.access) l.most
