-- All questions one by one, each with the number of its verdict, which is that of a pair of classes.
use Rattle.std.specs.Prelude.{◌≡◌, ℕ, ◌<◌, ◌++◌, List, length, map, All, slice_index_or, true}
use Rattle.std.specs.List.{AllZip}
use Rattle.prog_check.specs.declared.path.Path.{Path}
use Rattle.prog_paths.specs.Changers.{changers_of}
use Rattle.prog_paths.specs.Listing.{IsAskedOf}
use Rattle.prog_paths.specs.Tally.{of_table}
use Rattle.prog_paths.specs.Questions.{asked_by, asks, question_between}
use Rattle.prog_paths.specs.declared.accesses.places.Placed.{Placed}
use Rattle.prog_paths.specs.declared.accesses.questions.Question.{Question}
use Rattle.conflict_pairs.specs.declared.class_pairs.Row.{Row}
use Rattle.conflict_pairs.specs.declared.classes.AccessClasses.{AccessClasses}
use Rattle.conflict_pairs.specs.declared.listing.Listed.{Listed}
use Rattle.conflict_pairs.specs.declared.pairing.PlacePair.{PlacePair}
use Rattle.conflict_pairs.specs.declared.verdicts.Verdict.{Verdict}
use Rattle.conflict_pairs.specs.Alike.{IsJudgedAt}
use Rattle.conflict_pairs.specs.ClassPairs.{IsInRow}
use Rattle.conflict_pairs.specs.Classes.{class_at}
use Rattle.conflict_pairs.specs.Interning.{IsServed}
use Rattle.conflict_pairs.specs.Pairing.{HasPlaces, place_at, questions_at}
use Rattle.conflict_pairs.specs.Table.{Judged, IsRightEntry, entries_of}

-- the class of the second access of the pair at a place
abbrev pub second_class : AccessClasses → List PlacePair → ℕ → ℕ
second_class k pairs j = class_at k (slice_index_or pairs j (record { first = 0; second = 0 })).second

-- the class of the second access of the pair at a place has an answer
pub record HasClass (k : AccessClasses) (pairs : List PlacePair) (answers : List ℕ) (j : ℕ) : Type 0 where
  pub second_within : (slice_index_or pairs j (record { first = 0; second = 0 })).second < length k.numbers.items
  pub class_within : second_class k pairs j < length answers

-- the class of an access has one
pub record IsEntered (k : AccessClasses) (answers : List ℕ) (n : ℕ) : Type 0 where
  pub number_within : n < length k.numbers.items
  pub class_within : class_at k n < length answers

-- under the class of the second access of a pair stands the number of a pair of the row with an access of this class
pub record IsSpread (k : AccessClasses) (pairs : List PlacePair) (of_pairs : List ℕ) (row : Row) (answers : List ℕ) (j : ℕ) : Type 0 where
  pub place : ℕ
  pub in_row : IsInRow row place
  pub same : second_class k pairs place ≡ second_class k pairs j
  pub is : slice_index_or answers (second_class k pairs j) 0 ≡ slice_index_or of_pairs place 0

-- so it is with each pair of the row
abbrev pub SpreadsRow : AccessClasses → List PlacePair → List ℕ → Row → List ℕ → Type 0
SpreadsRow k pairs of_pairs row answers = (j : ℕ) → IsInRow row j → IsSpread k pairs of_pairs row answers j

-- what the access of a number asks of another has the verdict of the number that stands under the class of that one
abbrev pub AnswersOf : List Path → List Verdict → AccessClasses → ℕ → List ℕ → Type 0
AnswersOf paths verdicts k m answers = (n : ℕ) → n < length k.places.items
    → asks (place_at k.places.items m) (place_at k.places.items n) ≡ true
    → IsServed (IsJudgedAt paths) verdicts
    (question_between (place_at k.places.items m) (place_at k.places.items n))
    (slice_index_or answers (class_at k n) 0)

-- these are some questions, each with the number of a verdict on it
pub record AreQuestionsListed (paths : List Path) (verdicts : List Verdict) (places : List Placed) (listed : Listed) (qs : List Question) : Type 0 where
  pub questions : questions_at places listed.pairs.items ≡ qs
  pub within : All (HasPlaces places) listed.pairs.items
  pub served : AllZip (IsServed (IsJudgedAt paths) verdicts) qs listed.numbers.items

-- what the access of a number asks of some is added to questions that are listed, by answers that are of it
abbrev pub AddsQuestions : AccessClasses → ℕ → List ℕ → Listed → Listed → List Placed → Type 0
AddsQuestions k m answers old new seconds =
    (paths : List Path) (verdicts : List Verdict) (qs : List Question) → AnswersOf paths verdicts k m answers
    → AreQuestionsListed paths verdicts k.places.items old qs
    → AreQuestionsListed paths verdicts k.places.items new (qs ++ asked_by (place_at k.places.items m) seconds)

-- ---- a part of all questions

-- of each table these are the accesses that change it
abbrev pub AreChangersOf : (places changers : List Placed) → Type 0
AreChangersOf places changers = (table : ℕ) → of_table table changers ≡ changers_of table places

-- the questions that are listed, each with the verdict of its number
abbrev pub entries_in : List Placed → List Verdict → Listed → List Judged
entries_in places verdicts listed =
    entries_of verdicts (questions_at places listed.pairs.items) listed.numbers.items

-- each has two accesses and a verdict
pub record IsListedIn (places : List Placed) (verdicts : List Verdict) (listed : Listed) : Type 0 where
  pub one_each : length listed.pairs.items ≡ length listed.numbers.items
  pub placed : All (HasPlaces places) listed.pairs.items
  pub within : All (λ n. n < length verdicts) listed.numbers.items

-- these are some questions of the paths, each with a right verdict
pub record AreJudged (paths : List Path) (entries : List Judged) (qs : List Question) : Type 0 where
  pub questions : map (λ e. e.question) entries ≡ qs
  pub asked : All (λ e. IsAskedOf paths e.question) entries
  pub right : All (λ e. IsRightEntry paths e) entries
