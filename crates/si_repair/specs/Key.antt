-- Parameters that exposed questions force equal: words of private clauses.
use Rattle.std.specs.Prelude.{◌≡◌, ℕ, suc, zero, ◌<◌, List, [], ◌∷◌, ◌++◌, Contains}
use Rattle.order_facts.specs.declared.steps.Node.TheVariants.{Mine, Theirs}
use Rattle.order_facts.specs.declared.steps.Fact.{Fact}
use Rattle.order_facts.specs.Chain.{ForcesEqual}
use Rattle.prog_check.specs.declared.path.Term.TheVariants.{Param}
use Rattle.prog_check.specs.declared.path.Access.{Access}
use Rattle.prog_check.specs.declared.path.Path.{Path}
use Rattle.prog_paths.specs.Facts.{question_facts, AreEqualWhereTheyMeet}
use Rattle.prog_paths.specs.StaticGraph.{Precedes, Rises, AsksOf, AsksReadWrite}
use Rattle.prog_paths.specs.declared.accesses.questions.Question.{Question}
use Rattle.prog_paths.specs.Questions.{numbers_of}

-- the two accesses are those of a question whose first may miss what its second changes
pub record AreMissed (nodes : List Path) (q : Question) (mine theirs : Access) : Type 0 where
  pub asked : AsksOf nodes (numbers_of q) mine theirs
  pub kinds : AsksReadWrite mine.kind theirs.kind

-- some accesses are
abbrev pub IsMissed : List Path → Question → Type 0
IsMissed nodes q = (mine : Access) × (theirs : Access) × AreMissed nodes q mine theirs

-- these are the facts of the question
abbrev pub AreFactsOf : List Path → Question → List Fact → Type 0
AreFactsOf nodes q facts =
    (mine theirs : Access) → AsksOf nodes (numbers_of q) mine theirs → facts ≡ question_facts mine theirs

-- the facts put this parameter of the first program and this one of the second at most each other
abbrev pub PutEqual : List Fact → ℕ × ℕ → Type 0
PutEqual facts p = ForcesEqual facts (Mine p.0) (Theirs p.1)

-- wherever one of the questions meets, this parameter of the first program is this one of the second
abbrev pub ForceEqual : List Path → List Question → ℕ → ℕ → Type 0
ForceEqual nodes questions i j =
    (q : Question) → Contains questions q → (mine theirs : Access) → AreMissed nodes q mine theirs
    → AreEqualWhereTheyMeet mine theirs (Param i) (Param j)

-- ---- pairs of parameters

-- by the first program's, and then by the second's
abbrev pub IsEarlier : ℕ × ℕ → ℕ × ℕ → Type 0
IsEarlier p q = Precedes p.0 p.1 q.0 q.1

-- each stands before all that follow
abbrev pub ArePairsRising : List (ℕ × ℕ) → Type 0
ArePairsRising = Rises IsEarlier

-- of some pairs of parameters, those that the facts put equal, in the old order
pub record AreLeft (facts : List Fact) (old new : List (ℕ × ℕ)) : Type 0 where
  pub only : (p : ℕ × ℕ) → Contains new p → Contains old p × PutEqual facts p
  pub each : (p : ℕ × ℕ) → Contains old p → PutEqual facts p → Contains new p
  pub rise : ArePairsRising old → ArePairsRising new

-- one parameter with each of so many, in order
abbrev pub params_with : ℕ → (second_count : ℕ) → List (ℕ × ℕ)
params_with first zero = []
params_with first (suc n) = params_with first n ++ (first, n) ∷ []

-- each of so many parameters with each of so many others, in order
abbrev pub all_pairs : (first_count second_count : ℕ) → List (ℕ × ℕ)
all_pairs zero second_count = []
all_pairs (suc n) second_count = all_pairs n second_count ++ params_with n second_count

-- the pairs of parameters that the questions force equal, in order
pub record AreForced (nodes : List Path) (questions : List Question) (first_count second_count : ℕ)
    (pairs : List (ℕ × ℕ)) : Type 0 where
  pub only : (i j : ℕ) → Contains pairs (i, j) → (i < first_count) × (j < second_count) × ForceEqual nodes questions i j
  pub each : (i j : ℕ) → i < first_count → j < second_count → ForceEqual nodes questions i j → Contains pairs (i, j)
  pub rise : ArePairsRising pairs
