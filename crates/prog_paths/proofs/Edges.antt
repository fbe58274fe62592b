-- Edges by their questions: a weaker condition has more of them, and their nodes stand among the paths.
use Rattle.std.proofs.Common.{ℕ, ◌<◌, List, length, inl, inr, subst}
use Rattle.std.proofs.lemmas.Option.{slice_get_within}
use Rattle.prog_check.specs.declared.path.Kind.{Kind}
use Rattle.prog_check.specs.declared.path.Access.{Access}
use Rattle.prog_check.specs.declared.path.Path.{Path}
use Rattle.prog_paths.specs.StaticGraph.{QuestionNumbers, AsksOf, AsksReadWrite, AsksWriteRead, AsksWriteWrite, HasQuestion, EdgeOf}
use Rattle.prog_paths.specs.Questions.{Asks}

pub HasQuestion-weaker : (asks : QuestionNumbers → Kind → Kind → Type 0) (P Q : QuestionNumbers → Access → Access → Type 0) (nodes : List Path) → ((q : QuestionNumbers) (mine theirs : Access) → AsksOf nodes q mine theirs → asks q mine.kind theirs.kind → P q mine theirs → Q q mine theirs) → (x y : ℕ) → HasQuestion asks P nodes x y → HasQuestion asks Q nodes x y
HasQuestion-weaker asks P Q nodes f x y h = record {
  question = h.question;
  from = h.from;
  to = h.to;
  mine = h.mine;
  theirs = h.theirs;
  asked = h.asked;
  kinds = h.kinds;
  holds = f h.question h.mine h.theirs h.asked h.kinds h.holds;
}

pub EdgeOf-weaker : (P Q : QuestionNumbers → Access → Access → Type 0) (nodes : List Path) → ((q : QuestionNumbers) (mine theirs : Access) → AsksOf nodes q mine theirs → Asks q mine.kind theirs.kind → P q mine theirs → Q q mine theirs) → (x y : ℕ) → EdgeOf P nodes x y → EdgeOf Q nodes x y
EdgeOf-weaker P Q nodes f x y (inl h) = inl (HasQuestion-weaker (λ q. AsksReadWrite) P Q nodes (λ q m t a k. f q m t a (inl k)) x y h)
EdgeOf-weaker P Q nodes f x y (inr (inl h)) = inr (inl (HasQuestion-weaker (λ q. AsksWriteRead) P Q nodes (λ q m t a k. f q m t a (inr (inl k))) y x h))
EdgeOf-weaker P Q nodes f x y (inr (inr (inl h))) = inr (inr (inl (HasQuestion-weaker AsksWriteWrite P Q nodes (λ q m t a k. f q m t a (inr (inr k))) x y h)))
EdgeOf-weaker P Q nodes f x y (inr (inr (inr h))) = inr (inr (inr (HasQuestion-weaker AsksWriteWrite P Q nodes (λ q m t a k. f q m t a (inr (inr k))) y x h)))

-- ---- nodes

-- both are nodes
abbrev pub AreInside : List Path → ℕ → ℕ → Type 0
AreInside nodes x y = (x < length nodes) × (y < length nodes)

module _ (P : QuestionNumbers → Access → Access → Type 0) (nodes : List Path) where
  pub HasQuestion-inside : (asks : QuestionNumbers → Kind → Kind → Type 0) (x y : ℕ) → HasQuestion asks P nodes x y → AreInside nodes x y
  HasQuestion-inside asks x y h = (
    subst (λ (n : ℕ). n < length nodes) h.from (slice_get_within nodes h.question.x h.asked.at_mine.0 h.asked.at_mine.1),
    subst (λ (n : ℕ). n < length nodes) h.to (slice_get_within nodes h.question.y h.asked.at_theirs.0 h.asked.at_theirs.1),
  )

  pub EdgeOf-inside : (x y : ℕ) → EdgeOf P nodes x y → AreInside nodes x y
  EdgeOf-inside x y (inl h) = HasQuestion-inside (λ q. AsksReadWrite) x y h
  EdgeOf-inside x y (inr (inl h)) = let r = HasQuestion-inside (λ q. AsksWriteRead) y x h in (r.1, r.0)
  EdgeOf-inside x y (inr (inr (inl h))) = HasQuestion-inside AsksWriteWrite x y h
  EdgeOf-inside x y (inr (inr (inr h))) = let r = HasQuestion-inside AsksWriteWrite y x h in (r.1, r.0)
