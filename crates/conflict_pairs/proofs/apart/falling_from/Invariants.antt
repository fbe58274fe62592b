use Rattle.std.proofs.Common.{◌≡◌, ℕ, ◌<◌, length, IfSome, Some, slice_get}
use Rattle.order_facts.specs.declared.steps.Node.{Node}
use Rattle.prog_paths.specs.Shown.{Falls}
use Rattle.conflict_pairs.specs.Search.{FallsBetween, FoundWithin}
use Rattle.conflict_pairs.proofs.apart.falling_from.Given as goal

-- the best so far falls, and there is one where some end so far has one
abbrev pub invariant-loop-to : goal.invariant-loop-to
invariant-loop-to l = record {
  some : IfSome l.best (λ chain. Falls l.closed chain);
  all : (k : ℕ) (to : Node) → k < l.to-index → slice_get l.ends k ≡ Some to → (h : FallsBetween l.closed l.from to) → FoundWithin l.best (length h.chain);
}
