-- The edges that the answers to the questions of a list of paths give, and the graph of the paths.
use Rattle.std.specs.Prelude.{◌≡◌, ◌↔◌, ℕ, Bool, ◌&&◌, ◌||◌, ◌==◌, List, length, All}
use Rattle.std.specs.List.{list_any}
use Rattle.order_facts.specs.Square.{Grid, Joins, Enters}
use Rattle.prog_check.specs.declared.path.Kind.{Kind}
use Rattle.prog_check.specs.declared.path.Path.{Path}
use Rattle.prog_paths.specs.declared.accesses.mark.EdgeTables.{EdgeTables}
use Rattle.prog_paths.specs.declared.accesses.mark.Gives.{Gives}
use Rattle.prog_paths.specs.Marks.{gives_by}
use Rattle.prog_paths.specs.Questions.{ChangesSingleCells}
use Rattle.prog_paths.specs.StaticGraph.{StaticEdge, IsVulnerable}
use Rattle.conflict_pairs.specs.declared.verdicts.Verdict.{Verdict}
use Rattle.conflict_pairs.specs.Classed.{ClassAnswer}
use Rattle.conflict_pairs.specs.Verdicts.{can_meet, is_exposed}
use Rattle.dep_graph.specs.Reaching.{IsReachOf}

-- ---- what answers give

-- what two accesses of these kinds give by their verdict
abbrev pub given_by : (mine theirs : Kind) → Verdict → Gives
given_by mine theirs verdict = gives_by mine theirs (can_meet verdict) (is_exposed verdict)

-- a node is one of some
abbrev pub is_one_of : List ℕ → ℕ → Bool
is_one_of nodes node = list_any (λ n. n == node) nodes

-- a node is one of some, and another one of others
abbrev pub are_of : (firsts seconds : List ℕ) → (x y : ℕ) → Bool
are_of firsts seconds x y = is_one_of firsts x && is_one_of seconds y

-- an answer gives an edge from x to y: from its first nodes to its second ones, or back
abbrev pub answer_edge : (x y : ℕ) → ClassAnswer → Bool
answer_edge x y e =
    ((given_by e.mine e.theirs e.verdict).forward && are_of e.firsts e.seconds x y)
    || ((given_by e.mine e.theirs e.verdict).backward && are_of e.seconds e.firsts x y)

-- an answer gives a vulnerable edge from x to y
abbrev pub answer_vulnerable : (x y : ℕ) → ClassAnswer → Bool
answer_vulnerable x y e = (given_by e.mine e.theirs e.verdict).vulnerable && are_of e.firsts e.seconds x y

-- what an answer gives is entered into both tables
pub record EntersAnswer (old new : EdgeTables) (e : ClassAnswer) : Type 0 where
  pub edges : Enters old.edges new.edges (λ x y. answer_edge x y e)
  pub vulnerable : Enters old.vulnerable new.vulnerable (λ x y. answer_vulnerable x y e)

-- both tables have so many nodes
pub record HaveNodes (tables : EdgeTables) (nodes : ℕ) : Type 0 where
  pub edges : tables.edges.size ≡ nodes
  pub vulnerable : tables.vulnerable.size ≡ nodes

-- ---- the graph

-- a table of so many nodes that joins just those that are so related
pub record IsTableOf (s : Grid) (size : ℕ) (related : ℕ → ℕ → Type 0) : Type 0 where
  pub size_is : s.size ≡ size
  pub joins : (x y : ℕ) → Joins s x y ↔ related x y

-- the static edges of the paths, the vulnerable ones, and which node reaches which
pub record IsGraphOf (paths : List Path) (edges vulnerable reach : Grid) : Type 0 where
  pub single : All ChangesSingleCells paths
  pub edges_are : IsTableOf edges (length paths) (StaticEdge paths)
  pub vulnerable_are : IsTableOf vulnerable (length paths) (IsVulnerable paths)
  pub reach_is : IsReachOf reach edges
