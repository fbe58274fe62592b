-- When a certificate is accepted for a list of paths. Numbers are compared and chains are read; no path is followed.
use Rattle.std.specs.Prelude.{◌≡◌, ℕ, ◌<◌, ◌≤◌, ◌*◌, List, length, map, filter, not, All, Contains, slice_index_or}
use Rattle.prog_check.specs.declared.path.Access.{Access}
use Rattle.prog_check.specs.declared.path.Path.{Path}
use Rattle.prog_paths.specs.Meeting.{MayCover}
use Rattle.prog_paths.specs.StaticGraph.{IsAccessOf, AsksOf, AsksReadWrite, EdgeOf, HasReadWrite}
use Rattle.prog_paths.specs.StaticGraph as graph
use Rattle.prog_paths.specs.Facts.{question_facts}
use Rattle.prog_paths.specs.Questions.{IsQuestion, questions_of}
use Rattle.prog_paths.specs.Limits.{most_questions}
use Rattle.prog_paths.specs.Listing.{RiseBy}
use Rattle.prog_paths.specs.Shown.{Falls, key_pairs, ShowEqual}
use Rattle.robust_cert.specs.declared.certificate.EntryQuestion.{EntryQuestion}
use Rattle.robust_cert.specs.declared.certificate.Certificate.{Certificate}
use Rattle.robust_cert.specs.declared.entries.Reason.{Reason}
use Rattle.robust_cert.specs.declared.entries.Reason.TheVariants.{Apart, Cover}
use Rattle.robust_cert.specs.Sharing.{Entry}

-- ---- what an entry is about

-- the four numbers that a certificate tells of a question
abbrev pub numbers_told : EntryQuestion → graph.QuestionNumbers
numbers_told q = record { x = q.x; a = q.a; y = q.y; b = q.b }

-- the question that an entry is about
abbrev pub question_of : Entry → graph.QuestionNumbers
question_of e = numbers_told e.question

-- ---- when an entry holds

-- the question asks for a read-write dependency; two accesses, one of each of its nodes, change or keep, in one table
pub record IsCoverOf (nodes : List Path) (q : graph.QuestionNumbers) (m t : ℕ)
    (of_mine of_theirs : Access) : Type 0 where
  pub mine : Access
  pub theirs : Access
  pub asked : AsksOf nodes q mine theirs
  pub asks : AsksReadWrite mine.kind theirs.kind
  pub at_mine : IsAccessOf nodes q.x m of_mine
  pub at_theirs : IsAccessOf nodes q.y t of_theirs
  pub mine_covers : MayCover of_mine
  pub theirs_covers : MayCover of_theirs
  pub table : of_mine.table ≡ of_theirs.table

-- a cover names such accesses, and has two chains for each key column of their table
abbrev pub FitsQuestion : List Path → graph.QuestionNumbers → Reason → Type 0
FitsQuestion nodes q (Apart chain) = Unit {0}
FitsQuestion nodes q (Cover m t chains) =
    (of_mine : Access) × (of_theirs : Access) × IsCoverOf nodes q m t of_mine of_theirs
    × (length chains ≡ 2 * length (key_pairs of_mine of_theirs))

-- the reason of an entry fits its question
abbrev pub IsFitting : List Path → Entry → Type 0
IsFitting nodes e = FitsQuestion nodes (question_of e) e.reason

-- the chains of a reason hold by the question's facts: one runs from a number to a smaller one; or they show the two
-- cells equal, column by column
abbrev pub ChainsShow : List Path → graph.QuestionNumbers → Reason → Type 0
ChainsShow nodes q (Apart chain) =
    (mine : Access) × (theirs : Access) × AsksOf nodes q mine theirs × Falls (question_facts mine theirs) chain
ChainsShow nodes q (Cover m t chains) =
    (of_mine : Access) × (of_theirs : Access) × (cover : IsCoverOf nodes q m t of_mine of_theirs)
    × ShowEqual (question_facts cover.mine cover.theirs) (key_pairs of_mine of_theirs) chains

-- the chains of an entry hold of its question
abbrev pub ChainsHold : List Path → Entry → Type 0
ChainsHold nodes e = ChainsShow nodes (question_of e) e.reason

-- an entry is about a question of the paths, and says of it what holds
pub record Holds (nodes : List Path) (e : Entry) : Type 0 where
  pub question : IsQuestion nodes (question_of e)
  pub fitting : IsFitting nodes e
  pub chains : ChainsHold nodes e

-- ---- what the entries leave

-- a reason says that the two accesses never meet
abbrev pub SaysApart : Reason → Type 0
SaysApart (Apart chain) = Unit {0}
SaysApart (Cover m t chains) = ⊥

-- an entry says so of the question
abbrev pub IsToldApart : List Entry → graph.QuestionNumbers → Type 0
IsToldApart entries q = (e : Entry) × Contains entries e × SaysApart e.reason × (question_of e ≡ q)

-- an entry is about the question
abbrev pub IsTold : List Entry → graph.QuestionNumbers → Type 0
IsTold entries q = (e : Entry) × Contains entries e × (question_of e ≡ q)

-- an edge is left where a question that gives it is not told apart
abbrev pub IsLeft : List Path → List Entry → ℕ → ℕ → Type 0
IsLeft nodes entries = EdgeOf (λ q mine theirs. ¬ IsToldApart entries q) nodes

-- and is vulnerable where a question for a read-write dependency is not told
abbrev pub IsLeftVulnerable : List Path → List Entry → ℕ → ℕ → Type 0
IsLeftVulnerable nodes entries = HasReadWrite (λ q mine theirs. ¬ IsTold entries q) nodes

-- the level of a node in a list
abbrev pub level_in : List ℕ → ℕ → ℕ
level_in levels x = slice_index_or levels x 0

-- and by a certificate
abbrev pub level_of : Certificate → ℕ → ℕ
level_of c = level_in c.levels

-- levels never fall along an edge, and rise over two vulnerable edges in a row
pub record LevelsRise (edge vulnerable : ℕ → ℕ → Type 0) (level : ℕ → ℕ) : Type 0 where
  pub never_fall : (x y : ℕ) → edge x y → level x ≤ level y
  pub rise : (x y z : ℕ) → vulnerable x y → vulnerable y z → level x < level z

-- how many accesses of a path aren't sure
abbrev pub body_size : Path → ℕ
body_size path = length (filter (λ a. not a.sure) path.accesses)

-- ---- the whole

-- At most as many questions as an analysis may have; a level for each node, and how many of its accesses aren't sure;
-- the entries are about questions, rising strictly, and hold; the levels rise over what the entries leave.
pub record IsAccepted (nodes : List Path) (c : Certificate) : Type 0 where
  pub few : length (questions_of nodes) ≤ most_questions
  pub levels : length c.levels ≡ length nodes
  pub bodies : c.bodies ≡ map body_size nodes
  pub rising : RiseBy question_of c.entries
  pub holds : All (Holds nodes) c.entries
  pub levels_rise : LevelsRise (IsLeft nodes c.entries) (IsLeftVulnerable nodes c.entries) (level_of c)
