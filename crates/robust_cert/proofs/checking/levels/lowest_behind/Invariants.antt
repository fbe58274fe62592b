use Rattle.std.proofs.Common.{◌≡◌, ℕ, ◌<◌, ◌≤◌, ◌-◌, List}
use Rattle.std.specs.Prelude.{IfSome, IfNone, slice_index_or}
use Rattle.order_facts.specs.Square.{Grid, Joins}
use Rattle.robust_cert.proofs.checking.levels.lowest_behind.Given as goal

-- the lowest level that edges lead to from y, to nodes before the end
pub record IsLowestBefore (vulnerable : Grid) (levels : List ℕ) (y end lowest : ℕ) : Type 0 where
  pub behind : (z : ℕ) × Joins vulnerable y z × (slice_index_or levels z 0 ≡ lowest)
  pub lowest_of_all : (z : ℕ) → z < end → Joins vulnerable y z → lowest ≤ slice_index_or levels z 0

abbrev pub invariant-loop-z : goal.invariant-loop-z
invariant-loop-z l =
    IfSome l.lowest (λ lowest. IsLowestBefore l.vulnerable l.levels l.y l.start lowest)
    × IfNone l.lowest ((z : ℕ) → z < l.start → ¬ Joins l.vulnerable l.y z)

abbrev pub decreases-loop-z : goal.decreases-loop-z
decreases-loop-z l = l.vulnerable.size - l.start
