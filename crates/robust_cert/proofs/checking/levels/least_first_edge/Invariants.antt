use Rattle.std.proofs.Common.{◌≡◌, ℕ, ◌<◌, ◌≤◌, List, [], ◌∷◌}
use Rattle.std.specs.Prelude.{IfSome, IfNone}
use Rattle.order_facts.specs.Square.{Grid}
use Rattle.prog_paths.specs.StaticGraph.{IsAtMost}
use Rattle.robust_cert.specs.declared.checking.levels.Edge.{Edge}
use Rattle.robust_cert.specs.Levels.{StaysIn, StaysBy}
use Rattle.robust_cert.proofs.checking.levels.least_first_edge.Given as goal

-- the least first edge to a node before y, which begins where those end that are asked further
pub record IsLeastBefore (vulnerable : Grid) (levels : List ℕ) (y end : ℕ) (p : Edge) : Type 0 where
  pub begins : p.x ≡ end
  pub to_earlier : p.y < y
  pub stays : StaysBy vulnerable levels p.x p.y
  pub least : (x other z : ℕ) → other < y → StaysIn vulnerable levels x other z → IsAtMost (p.x ∷ p.y ∷ []) (x ∷ other ∷ [])

abbrev pub invariant-loop-y : goal.invariant-loop-y
invariant-loop-y l =
    (l.end ≤ l.vulnerable.size)
    × IfSome l.least (λ pair. IsLeastBefore l.vulnerable l.levels l.y l.end pair)
    × IfNone l.least ((l.end ≡ l.vulnerable.size) × ((x y z : ℕ) → y < l.y → ¬ StaysIn l.vulnerable l.levels x y z))
