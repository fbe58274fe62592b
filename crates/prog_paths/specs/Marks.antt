-- What a question gives: an edge from its first node to its second, one back, a vulnerable one.
use Rattle.std.specs.Prelude.{ℕ, Bool, ◌||◌, ◌&&◌, ◌==◌}
use Rattle.order_facts.specs.Square.{Enters}
use Rattle.prog_check.specs.declared.path.Kind.{Kind}
use Rattle.prog_paths.specs.declared.accesses.questions.Question.{Question}
use Rattle.prog_paths.specs.declared.accesses.mark.EdgeTables.{EdgeTables}
use Rattle.prog_paths.specs.declared.accesses.mark.Gives.{Gives}
use Rattle.prog_paths.specs.declared.accesses.mark.Mark.{Mark}
use Rattle.prog_paths.specs.Questions.{asks_read_write, asks_write_read, both_write}

-- what accesses of two kinds give, by whether they may meet and whether they count as exposed
abbrev pub gives_by : (mine theirs : Kind) → (meets exposed : Bool) → Gives
gives_by mine theirs meets exposed = record {
  forward = meets && (asks_read_write mine theirs || both_write mine theirs);
  backward = meets && (asks_write_read mine theirs || both_write mine theirs);
  vulnerable = exposed && asks_read_write mine theirs;
}

-- what a question gives between its nodes
abbrev pub mark_by : Question → (meets exposed : Bool) → Mark
mark_by q meets exposed = record { x = q.x; y = q.y; gives = gives_by q.mine q.theirs meets exposed }

-- the mark is of an edge from x to y
abbrev pub gives_edge : ℕ → ℕ → Mark → Bool
gives_edge x y m = (m.gives.forward && (m.x == x && m.y == y)) || (m.gives.backward && (m.y == x && m.x == y))

-- the mark is of a vulnerable edge from x to y
abbrev pub gives_vulnerable : ℕ → ℕ → Mark → Bool
gives_vulnerable x y m = m.gives.vulnerable && (m.x == x && m.y == y)

-- what one mark gives is entered into both tables
pub record EntersMark (old new : EdgeTables) (m : Mark) : Type 0 where
  pub edges : Enters old.edges new.edges (λ x y. gives_edge x y m)
  pub vulnerable : Enters old.vulnerable new.vulnerable (λ x y. gives_vulnerable x y m)
