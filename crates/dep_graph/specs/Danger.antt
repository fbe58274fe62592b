-- The least dangerous structure of a list of paths.
use Rattle.std.specs.Prelude.{◌≡◌, ℕ, ◌≤◌, List, [], ◌∷◌}
use Rattle.prog_check.specs.declared.path.Access.{Access}
use Rattle.prog_check.specs.declared.path.Path.{Path}
use Rattle.prog_paths.specs.StaticGraph.{QuestionNumbers, AsksOf, AsksReadWrite, IsUpToPair, IsExposed, StaticEdge, IsVulnerable, IsDangerousAt, HasReadWrite, IsAtMost}
use Rattle.prog_paths.specs.Questions.{numbers_of}
use Rattle.conflict_pairs.specs.Verdicts.{IsExposedBy}
use Rattle.dep_graph.specs.declared.danger.Danger.{Danger}
use Rattle.dep_graph.specs.declared.danger.Exposure.{Exposure}
use Rattle.dep_graph.specs.Ways.{IsLeastWay}

-- the question of these numbers is exposed, and may be a read-write dependency:
-- it is told with its kinds and its sample
pub record IsExposureAt (paths : List Path) (q : QuestionNumbers) (e : Exposure) : Type 0 where
  pub mine : Access
  pub theirs : Access
  pub asked : AsksOf paths q mine theirs
  pub kinds : AsksReadWrite mine.kind theirs.kind
  pub is : q ≡ numbers_of e.question
  pub mine_kind : e.question.mine ≡ mine.kind
  pub their_kind : e.question.theirs ≡ theirs.kind
  pub sample : IsExposedBy paths q mine theirs e.sample

-- so it is of access `a` of x against an access of y,
-- and none of its questions that make the edge vulnerable is before it
pub record IsLeastOfAccess (paths : List Path) (x a y : ℕ) (e : Exposure) : Type 0 where
  pub number : ℕ
  pub exposure : IsExposureAt paths (record { x = x; a = a; y = y; b = number }) e
  pub least : (h : HasReadWrite (IsExposed paths) paths x y) → h.question.a ≡ a → number ≤ h.question.b

-- a question that makes the edge from x to y vulnerable, with its kinds and its sample; none of these questions is
-- before it
pub record IsLeastExposed (paths : List Path) (x y : ℕ) (e : Exposure) : Type 0 where
  pub exposed : HasReadWrite (IsExposed paths) paths x y
  pub is : exposed.question ≡ numbers_of e.question
  pub mine_kind : e.question.mine ≡ exposed.mine.kind
  pub their_kind : e.question.theirs ≡ exposed.theirs.kind
  pub sample : IsExposedBy paths exposed.question exposed.mine exposed.theirs e.sample
  pub least : (h : HasReadWrite (IsExposed paths) paths x y)
      → IsUpToPair e.question.a e.question.b h.question.a h.question.b

-- two vulnerable edges in a row and a way back, and none before them: each edge with its least exposed question, and
-- the least way back
pub record IsLeastDanger (paths : List Path) (d : Danger) : Type 0 where
  pub dangerous : IsDangerousAt (StaticEdge paths) (IsVulnerable paths) d.x d.y d.z
  pub least : (x y z : ℕ) → IsDangerousAt (StaticEdge paths) (IsVulnerable paths) x y z
      → IsAtMost (d.x ∷ d.y ∷ d.z ∷ []) (x ∷ y ∷ z ∷ [])
  pub first : IsLeastExposed paths d.x d.y d.first
  pub second : IsLeastExposed paths d.y d.z d.second
  pub back : IsLeastWay (StaticEdge paths) d.z d.x d.back
