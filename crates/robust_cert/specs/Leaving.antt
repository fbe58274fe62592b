-- The two tables of what the entries leave, and how a pass over questions fills them.
use Rattle.std.specs.Prelude.{ℕ, List, length, All, Bool}
use Rattle.std.specs.List.{list_any}
use Rattle.prog_check.specs.declared.path.Path.{Path}
use Rattle.prog_paths.specs.StaticGraph.{QuestionNumbers}
use Rattle.prog_paths.specs.declared.accesses.questions.Question.{Question}
use Rattle.prog_paths.specs.Questions.{numbers_of, questions_of}
use Rattle.prog_paths.specs.Listing.{IsBefore, RiseBy}
use Rattle.prog_paths.specs.declared.accesses.mark.EdgeTables.{EdgeTables}
use Rattle.robust_cert.specs.Accepted.{question_of}
use Rattle.order_facts.specs.Square.{IsSquareOf, Enters}
use Rattle.prog_paths.specs.Marks.{gives_edge, gives_vulnerable}
use Rattle.robust_cert.specs.Telling.{mark_under, IsBehind}
use Rattle.robust_cert.specs.Sharing.{Entry}

-- some of the questions gives an edge from x to y
abbrev pub some_edge : List Entry → List Question → ℕ → ℕ → Bool
some_edge entries questions x y = list_any (λ q. gives_edge x y (mark_under entries q)) questions

-- some of the questions gives a vulnerable edge from x to y
abbrev pub some_vulnerable : List Entry → List Question → ℕ → ℕ → Bool
some_vulnerable entries questions x y = list_any (λ q. gives_vulnerable x y (mark_under entries q)) questions

-- the tables have the edges that the entries leave of the paths' questions
pub record Leaves (nodes : List Path) (entries : List Entry) (left : EdgeTables) : Type 0 where
  pub edges : IsSquareOf left.edges (length nodes) (some_edge entries (questions_of nodes))
  pub vulnerable : IsSquareOf left.vulnerable (length nodes) (some_vulnerable entries (questions_of nodes))

-- ---- a pass

-- the questions rise, and stand behind all entries before the cursor
pub record IsReady (entries : List Entry) (questions : List Question) (cursor : ℕ) : Type 0 where
  pub entries_rise : RiseBy question_of entries
  pub questions_rise : RiseBy numbers_of questions
  pub behind : All (λ q. IsBehind entries cursor (numbers_of q)) questions

-- what the questions give is entered, and the cursor stands behind no question that follows
pub record Passes (entries : List Entry) (questions : List Question) (from to : ℕ)
    (old new : EdgeTables) : Type 0 where
  pub edges : Enters old.edges new.edges (some_edge entries questions)
  pub vulnerable : Enters old.vulnerable new.vulnerable (some_vulnerable entries questions)
  pub cursor : (q : QuestionNumbers) → IsBehind entries from q → All (λ p. IsBefore (numbers_of p) q) questions
      → IsBehind entries to q
