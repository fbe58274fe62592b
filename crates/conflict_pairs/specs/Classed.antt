-- What is told of the questions of a list of paths class by class, and when that is all.
use Rattle.std.specs.Prelude.{◌≡◌, ℕ, List, [], ◌∷◌, All, Contains}
use Rattle.prog_check.specs.declared.path.Kind.{Kind}
use Rattle.prog_check.specs.declared.path.Access.{Access}
use Rattle.prog_check.specs.declared.path.Path.{Path}
use Rattle.prog_paths.specs.StaticGraph.{QuestionNumbers, AsksOf}
use Rattle.prog_paths.specs.Questions.{ChangesSingleCells, numbers_of}
use Rattle.prog_paths.specs.Listing.{IsAskedOf}
use Rattle.prog_paths.specs.declared.accesses.places.Placed.{Placed}
use Rattle.prog_paths.specs.declared.accesses.questions.Question.{Question}
use Rattle.conflict_pairs.specs.declared.classes.AccessClasses.{AccessClasses}
use Rattle.conflict_pairs.specs.declared.class_pairs.ClassPairs.{ClassPairs}
use Rattle.conflict_pairs.specs.declared.interning.Interned.{Interned}
use Rattle.conflict_pairs.specs.declared.listing.Listed.{Listed}
use Rattle.conflict_pairs.specs.declared.pairing.PlacePair.{PlacePair}
use Rattle.conflict_pairs.specs.declared.verdicts.Verdict.{Verdict}
use Rattle.conflict_pairs.specs.ClassPairs.{AreClassPairs}
use Rattle.conflict_pairs.specs.Classes.{AreClassesOf, class_at, nodes_at}
use Rattle.conflict_pairs.specs.Listed.{IsListedIn, entries_in}
use Rattle.conflict_pairs.specs.Pairing.{place_at}
use Rattle.conflict_pairs.specs.Sharing.{ArePairsJudged}
use Rattle.conflict_pairs.specs.Table.{Table, verdict_at}
use Rattle.conflict_pairs.specs.Verdicts.{IsRight}

-- the kinds of the accesses of two classes, the nodes that have one of the first and those that have one of the second,
-- and the verdict on each of the first against each of the second
pub record ClassAnswer : Type 0 where
  pub mine : Kind
  pub theirs : Kind
  pub firsts : List ℕ
  pub seconds : List ℕ
  pub verdict : Verdict

-- a list of paths with their accesses, the verdicts on some of their questions, and what is told of all, each time by
-- one of these verdicts
pub record Classed : Type 0 where
  pub paths : List Path
  pub places : List Placed
  pub verdicts : List Verdict
  pub answers : List ClassAnswer

-- ---- when that is all

-- an access of one node and one of another have these kinds, and the verdict is right of the one against the other
pub record HaveVerdict (paths : List Path) (x y : ℕ) (mine theirs : Kind) (verdict : Verdict) : Type 0 where
  pub question : QuestionNumbers
  pub from : question.x ≡ x
  pub to : question.y ≡ y
  pub first : Access
  pub second : Access
  pub asked : AsksOf paths question first second
  pub mine_is : first.kind ≡ mine
  pub theirs_is : second.kind ≡ theirs
  pub right : IsRight paths question verdict

-- so it is of each two nodes of an answer
abbrev pub IsRightOfEach : List Path → ClassAnswer → Type 0
IsRightOfEach paths e = (x y : ℕ) → Contains e.firsts x → Contains e.seconds y
    → HaveVerdict paths x y e.mine e.theirs e.verdict

-- an answer is one to a question
pub record IsAnswerTo (paths : List Path) (q : Question) (e : ClassAnswer) : Type 0 where
  pub mine : q.mine ≡ e.mine
  pub theirs : q.theirs ≡ e.theirs
  pub first : Contains e.firsts q.x
  pub second : Contains e.seconds q.y
  pub right : IsRight paths (numbers_of q) e.verdict

-- some answer is one to a question
pub record IsAnswered (t : Classed) (q : Question) : Type 0 where
  pub answer : ClassAnswer
  pub told : Contains t.answers answer
  pub to_it : IsAnswerTo t.paths q answer

-- each answer is right, and each question of the paths has one
pub record AnswersAll (t : Classed) : Type 0 where
  pub single : All ChangesSingleCells t.paths
  pub right : All (IsRightOfEach t.paths) t.answers
  pub all : (q : Question) → IsAskedOf t.paths q → IsAnswered t q

-- ---- by the pairs of classes that are judged

-- what is told of a pair of classes by the number of its verdict
abbrev pub answer_by : AccessClasses → List Verdict → PlacePair → ℕ → ClassAnswer
answer_by k verdicts pair n = record {
  mine = (place_at k.places.items pair.first).access.kind;
  theirs = (place_at k.places.items pair.second).access.kind;
  firsts = nodes_at k.nodes.items (class_at k pair.first);
  seconds = nodes_at k.nodes.items (class_at k pair.second);
  verdict = verdict_at verdicts n;
}

-- what is told of each pair
abbrev pub answers_by : AccessClasses → List Verdict → List PlacePair → List ℕ → List ClassAnswer
answers_by k verdicts [] numbers = []
answers_by k verdicts (pair ∷ pairs) [] = []
answers_by k verdicts (pair ∷ pairs) (n ∷ numbers) = answer_by k verdicts pair n ∷ answers_by k verdicts pairs numbers

-- all that is told
abbrev pub classed_by : List Path → AccessClasses → ClassPairs → Interned Verdict → Classed
classed_by paths k ps judged = record {
  paths = paths;
  places = k.places.items;
  verdicts = judged.values.items;
  answers = answers_by k judged.values.items ps.pairs.items judged.numbers.items;
}

-- the classes of the accesses of the paths, the pairs of them that ask something, and the verdicts on these
pub record AreClassesJudged (paths : List Path) (k : AccessClasses) (ps : ClassPairs) (judged : Interned Verdict) : Type 0 where
  pub single : All ChangesSingleCells paths
  pub classes : AreClassesOf paths k
  pub pairs : AreClassPairs paths k ps
  pub on_pairs : ArePairsJudged paths k.places.items ps.pairs.items judged.values.items judged.numbers.items

-- ---- what is listed of it

-- the table of what is listed
abbrev pub table_of : Classed → Listed → Table
table_of t listed = record {
  paths = t.paths;
  verdicts = t.verdicts;
  entries = entries_in t.places t.verdicts listed;
}

-- each that is listed has two accesses and a verdict of these
abbrev pub IsListedOf : Classed → Listed → Type 0
IsListedOf t listed = IsListedIn t.places t.verdicts listed
