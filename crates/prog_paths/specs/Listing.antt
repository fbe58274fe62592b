-- The laws of the list of questions: it has each once, in order.
use Rattle.std.specs.Prelude.{◌≡◌, ◌↔◌, ◌⊎◌, List, Contains}
use Rattle.prog_check.specs.declared.path.Access.{Access}
use Rattle.prog_check.specs.declared.path.Path.{Path}
use Rattle.prog_paths.specs.StaticGraph.{Precedes, Rises, QuestionNumbers, AsksOf}
use Rattle.prog_paths.specs.declared.accesses.questions.Question.{Question}
use Rattle.prog_paths.specs.Questions.{Asks, numbers_of, questions_of}

-- a question of the paths, with the kinds of its accesses
pub record IsAskedOf (paths : List Path) (q : Question) : Type 0 where
  pub mine : Access
  pub theirs : Access
  pub asked : AsksOf paths (numbers_of q) mine theirs
  pub mine_kind : q.mine ≡ mine.kind
  pub their_kind : q.theirs ≡ theirs.kind
  pub asks : Asks (numbers_of q) mine.kind theirs.kind

-- a question stands before another, by the first access and then by the second, each by its node and then by its number
abbrev pub IsBefore : QuestionNumbers → QuestionNumbers → Type 0
IsBefore p q = Precedes p.x p.a q.x q.a ⊎ ((p.x ≡ q.x) × (p.a ≡ q.a) × Precedes p.y p.b q.y q.b)

-- the question of each thing stands before those of all that follow
abbrev pub RiseBy : {A : Type 0} → (A → QuestionNumbers) → List A → Type 0
RiseBy question = Rises (λ x later. IsBefore (question x) (question later))

-- the list has a question just where the paths ask it
abbrev pub LawOfListing : Type 0
LawOfListing = (paths : List Path) (q : Question) → Contains (questions_of paths) q ↔ IsAskedOf paths q

-- the list rises
abbrev pub LawOfOrder : Type 0
LawOfOrder = (paths : List Path) → RiseBy numbers_of (questions_of paths)
