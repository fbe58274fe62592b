use Rattle.std.proofs.Common.{◌≡◌, ℕ, ◌<◌, length, IfSome, Some, slice_get}
use Rattle.order_facts.specs.declared.steps.Node.{Node}
use Rattle.prog_paths.specs.Shown.{Falls}
use Rattle.conflict_pairs.specs.Search.{FallsBetween, FoundWithin}
use Rattle.conflict_pairs.proofs.apart.falling_between.Given as goal

-- the best so far falls, and there is one where some start so far has one
abbrev pub invariant-loop-from : goal.invariant-loop-from
invariant-loop-from l = record {
  some : IfSome l.best (λ chain. Falls l.closed chain);
  all : (i k : ℕ) (from to : Node) → i < l.from-index → slice_get l.starts i ≡ Some from → slice_get l.ends k ≡ Some to → (h : FallsBetween l.closed from to) → FoundWithin l.best (length h.chain);
}
