-- The steps of a cycle of dependencies are static edges.
use Rattle.std.proofs.Common.{◌≡◌, ℕ, true, List, inl, inr}
use Rattle.prog_tree.specs.Syntax.{DraftTree}
use Rattle.prog_tree.specs.Table.{TableState}
use Rattle.prog_check.specs.declared.path.Kind.{Kind}
use Rattle.prog_check.specs.declared.path.Path.{Path}
use Rattle.prog_check.specs.Paths.{paths_of}
use Rattle.prog_paths.specs.Meeting.{Assignment, MeetAsOwn, CanMeet}
use Rattle.prog_paths.specs.StaticGraph.{QuestionNumbers, HasQuestion, StaticEdge}
use Rattle.prog_paths.proofs.Edges.{HasQuestion-weaker}
use Rattle.history_book.specs.Dependencies.{depends}
use Rattle.history_book.specs.History.{Instance}
use Rattle.si_engine.specs.Robustness.{EdgeUnder, HasCommitted, IsHistory, FollowsNode}
use Rattle.si_engine.proofs.EdgeLaws.{edge_of}
use Rattle.si_engine.proofs.MissedLaws.{depends_on}

can_meet : (asks : QuestionNumbers → Kind → Kind → Type 0) (v w : Assignment) (nodes : List Path) (x y : ℕ) →
    HasQuestion asks (λ q a b. MeetAsOwn v w a b) nodes x y → HasQuestion asks (λ q a b. CanMeet a b) nodes x y
can_meet asks v w nodes x y q =
    HasQuestion-weaker asks (λ question a b. MeetAsOwn v w a b) (λ question a b. CanMeet a b) nodes
    (λ question mine theirs asked kinds meets. (meets.0, meets.1, meets.4)) x y q

-- an edge under some assignments is an edge
pub static_edge : (v w : Assignment) (nodes : List Path) (x y : ℕ) → EdgeUnder v w nodes x y → StaticEdge nodes x y
static_edge v w nodes x y (inl q) = inl (can_meet _ v w nodes x y q)
static_edge v w nodes x y (inr (inl q)) = inr (inl (can_meet _ w v nodes y x q))
static_edge v w nodes x y (inr (inr (inl q))) = inr (inr (inl (can_meet _ v w nodes x y q)))
static_edge v w nodes x y (inr (inr (inr q))) = inr (inr (inr (can_meet _ w v nodes y x q)))

module _ (set : DraftTree) (opening : TableState) (h : List Instance) (is : IsHistory set opening h) where
  -- a dependency is an edge between the nodes that the two follow
  pub step : (i j : ℕ) → HasCommitted h i → HasCommitted h j → (f : FollowsNode set opening h i) →
      (k : FollowsNode set opening h j) → depends set opening h i j ≡ true → StaticEdge (paths_of set) f.node k.node
  step i j one other f k first =
      static_edge f.v k.v (paths_of set) f.node k.node (edge_of set opening h is i j one other f k (depends_on set opening h is.lawful i j other first))
