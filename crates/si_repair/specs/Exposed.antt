-- The exposed questions of a pair of programs; and, for private clauses, which accesses are exposed to others.
use Rattle.std.specs.Prelude.{◌≡◌, ◌⊎◌, ℕ, List, [], ◌∷◌, All, Contains, Option, Some, None}
use Rattle.prog_check.specs.declared.path.Path.{Path}
use Rattle.prog_paths.specs.StaticGraph.{AsksReadWrite, IsExposed}
use Rattle.prog_paths.specs.declared.accesses.places.Placed.{Placed}
use Rattle.prog_paths.specs.declared.accesses.questions.Question.{Question}
use Rattle.prog_paths.specs.Questions.{numbers_of, question_between, asked_among, questions_of}
use Rattle.prog_paths.specs.Listing.{IsBefore}
use Rattle.prog_paths.specs.Places.{IsAt, all_from}
use Rattle.conflict_pairs.specs.Alike.{HasAccess}
use Rattle.repair_laws.specs.declared.plan.Pair.{Pair}
use Rattle.repair_laws.specs.Keys.{ExposedOf}
use Rattle.repair_laws.specs.Striking.{IsOfProgram}

-- a part of a list has some of its elements, in its order
abbrev pub IsPart : {A : Type 0} → (whole part : List A) → Type 0
IsPart [] part = part ≡ []
IsPart {A = A} (x ∷ rest) part = IsPart rest part ⊎ ((tail : List A) × (part ≡ x ∷ tail) × IsPart rest tail)

-- these are the exposed questions of the pair: some of all questions of the paths, in their order; each one listed is
-- exposed, and each is listed
pub record AreExposed (nodes : List Path) (pair : Pair) (questions : List Question) : Type 0 where
  pub part : IsPart (questions_of nodes) questions
  pub only : (q : Question) → Contains questions q
      → (e : ExposedOf nodes pair) × (e.question.question ≡ numbers_of q)
  pub each : (e : ExposedOf nodes pair)
      → (q : Question) × Contains questions q × (e.question.question ≡ numbers_of q)

-- the first of all questions of the paths that is exposed, and of the pair
pub record IsFirstOfExposed (nodes : List Path) (pair : Pair) (q : Question) : Type 0 where
  pub listed : Contains (questions_of nodes) q
  pub exposed : (e : ExposedOf nodes pair) × (e.question.question ≡ numbers_of q)
  pub first : (e : ExposedOf nodes pair)
      → (e.question.question ≡ numbers_of q) ⊎ IsBefore (numbers_of q) e.question.question

-- the same, or that the pair has none
abbrev pub IsFirstExposed : List Path → Pair → Option Question → Type 0
IsFirstExposed nodes pair None = ¬ ExposedOf nodes pair
IsFirstExposed nodes pair (Some q) = IsFirstOfExposed nodes pair q

-- ---- accesses

-- the first access of a question is there
abbrev pub HasRead : List Path → Question → Type 0
HasRead nodes q = HasAccess nodes q.x q.a

-- both accesses of a question are there
abbrev pub HasBoth : List Path → Question → Type 0
HasBoth nodes q = HasAccess nodes q.x q.a × HasAccess nodes q.y q.b

-- the accesses on a program's paths, at their places and in order
pub record ArePlacesOf (nodes : List Path) (program : ℕ) (places : List Placed) : Type 0 where
  pub part : IsPart (all_from 0 nodes) places
  pub only : (p : Placed) → Contains places p → IsAt nodes p × IsOfProgram nodes program p.node
  pub each : (p : Placed) → IsAt nodes p → IsOfProgram nodes program p.node → Contains places p

-- those of the two programs of a pair
pub record ArePlacesOfPair (nodes : List Path) (pair : Pair) (reads changes : List Placed) : Type 0 where
  pub of_first : ArePlacesOf nodes pair.from reads
  pub of_second : ArePlacesOf nodes pair.to changes
  pub reads_stand : All (IsAt nodes) reads
  pub changes_stand : All (IsAt nodes) changes

-- both use one table, and the first may miss what the second changes
pub record MayMiss (first second : Placed) : Type 0 where
  pub table : first.access.table ≡ second.access.table
  pub kinds : AsksReadWrite first.access.kind second.access.kind

-- the first may miss what the second changes, the two can meet, and no two accesses cover them
pub record IsExposedTo (nodes : List Path) (first second : Placed) : Type 0 where
  pub misses : MayMiss first second
  pub exposed : IsExposed nodes (numbers_of (question_between first second)) first.access second.access

-- the question of one of the first accesses that is exposed to one of the second
pub record IsExposedOf (nodes : List Path) (firsts seconds : List Placed) (q : Question) : Type 0 where
  pub first : Placed
  pub second : Placed
  pub in_firsts : Contains firsts first
  pub in_seconds : Contains seconds second
  pub exposed : IsExposedTo nodes first second
  pub is : q ≡ question_between first second

-- all such questions, by the first access and then by the second
pub record AreExposedAmong (nodes : List Path) (firsts seconds : List Placed)
    (questions : List Question) : Type 0 where
  pub part : IsPart (asked_among firsts seconds) questions
  pub only : (q : Question) → Contains questions q → IsExposedOf nodes firsts seconds q
  pub each : (first second : Placed) → Contains firsts first → Contains seconds second
      → IsExposedTo nodes first second → Contains questions (question_between first second)
