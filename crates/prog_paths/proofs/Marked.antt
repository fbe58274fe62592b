-- The edges of which questions give marks are those of the definitions.
use Rattle.std.proofs.Common.{◌≡◌, ℕ, ◌⊎◌, inl, inr, Bool, true, ◌||◌, ◌&&◌, List, refl, sym, subst, ap, ◌∙◌}
use Rattle.std.specs.Prelude.{◌==◌, Some, slice_get}
use Rattle.std.proofs.lemmas.Bool.{false≢true, and_parts, and_from, or_cases, or_left, or_right, eqb-true, eq-eqb}
use Rattle.std.proofs.lemmas.Option.{same_Some}
use Rattle.prog_check.specs.declared.path.Kind.{Kind}
use Rattle.prog_check.specs.declared.path.Kind.TheVariants.{Reads, Sees, Lacks, Writes, Adds}
use Rattle.prog_check.specs.declared.path.Access.{Access}
use Rattle.prog_check.specs.declared.path.Path.{Path}
use Rattle.prog_paths.specs.StaticGraph.{QuestionNumbers, IsAccessOf, AsksOf, AsksReadWrite, AsksWriteRead, AsksWriteWrite, HasQuestion, EdgeOf, HasReadWrite}
use Rattle.prog_paths.specs.declared.accesses.questions.Question.{Question}
use Rattle.prog_paths.specs.Questions.{Asks, asks_read_write, asks_write_read, both_write, numbers_of}
use Rattle.prog_paths.specs.Listing.{IsAskedOf}
use Rattle.prog_paths.specs.Marks.{mark_by, gives_edge, gives_vulnerable}

-- ---- kinds

pub read_write-true : (a b : Kind) → asks_read_write a b ≡ true → AsksReadWrite a b
read_write-true Reads Writes e = inl (refl, inl refl)
read_write-true Reads Adds e = inl (refl, inr refl)
read_write-true Lacks Adds e = inr (refl, refl)
read_write-true _ _ e = absurd (false≢true e)

pub true-read_write : (a b : Kind) → AsksReadWrite a b → asks_read_write a b ≡ true
true-read_write a b (inl (x, inl y)) = rw (x, y) refl
true-read_write a b (inl (x, inr y)) = rw (x, y) refl
true-read_write a b (inr (x, y)) = rw (x, y) refl

pub write_read-true : (a b : Kind) → asks_write_read a b ≡ true → AsksWriteRead a b
write_read-true Reads Writes e = inl (refl, inl refl)
write_read-true Reads Adds e = inl (refl, inr refl)
write_read-true Sees Adds e = inr (refl, refl)
write_read-true _ _ e = absurd (false≢true e)

true-write_read : (a b : Kind) → AsksWriteRead a b → asks_write_read a b ≡ true
true-write_read a b (inl (x, inl y)) = rw (x, y) refl
true-write_read a b (inl (x, inr y)) = rw (x, y) refl
true-write_read a b (inr (x, y)) = rw (x, y) refl

-- two that both write ask as such, if they ask at all
writes-asked : (q : QuestionNumbers) (a b : Kind) → Asks q a b → both_write a b ≡ true → AsksWriteWrite q a b
writes-asked q a b (inr (inr h)) e = h
writes-asked q a b (inl (inl (x, _))) e = absurd (false≢true (ap (λ (k : Kind). both_write k b) (sym x) ∙ e))
writes-asked q a b (inl (inr (x, _))) e = absurd (false≢true (ap (λ (k : Kind). both_write k b) (sym x) ∙ e))
writes-asked q a b (inr (inl (inl (x, _)))) e = absurd (false≢true (ap (λ (k : Kind). both_write k b) (sym x) ∙ e))
writes-asked q a b (inr (inl (inr (x, _)))) e = absurd (false≢true (ap (λ (k : Kind). both_write k b) (sym x) ∙ e))

true-writes : (q : QuestionNumbers) (a b : Kind) → AsksWriteWrite q a b → both_write a b ≡ true
true-writes q a b (x, y, _) = rw (x, y) refl

-- ---- one question

-- a place has one access
pub same_access : (nodes : List Path) (x a : ℕ) (one other : Access) → IsAccessOf nodes x a one → IsAccessOf nodes x a other → one ≡ other
same_access nodes x a one other h k =
    let path = same_Some h.0 k.0 (sym h.1 ∙ k.1) in
    same_Some one other (sym h.2 ∙ subst (λ (p : Path). slice_get p.accesses a ≡ Some other) (sym path) k.2)

-- ---- what a mark gives, the paths have

module _ (P : QuestionNumbers → Access → Access → Type 0) (nodes : List Path) where
  module _ (q : Question) (a : IsAskedOf nodes q) (meets exposed : Bool) where
    moved : (f : Kind → Kind → Bool) → f q.mine q.theirs ≡ true → f a.mine.kind a.theirs.kind ≡ true
    moved f h = subst (λ (k : Kind). f a.mine.kind k ≡ true) a.their_kind (subst (λ (k : Kind). f k q.theirs ≡ true) a.mine_kind h)

    question : (asks : QuestionNumbers → Kind → Kind → Type 0) (x y : ℕ) → q.x ≡ x → q.y ≡ y → asks (numbers_of q) a.mine.kind a.theirs.kind → P (numbers_of q) a.mine a.theirs → HasQuestion asks P nodes x y
    question asks x y from to kinds holds = record { question = numbers_of q; from = from; to = to; mine = a.mine; theirs = a.theirs; asked = a.asked; kinds = kinds; holds = holds }

    pub edge-from_mark : (meets ≡ true → P (numbers_of q) a.mine a.theirs) → (x y : ℕ) → gives_edge x y (mark_by q meets exposed) ≡ true → EdgeOf P nodes x y
    edge-from_mark holds x y h = go (or_cases ((mark_by q meets exposed).gives.forward && (q.x == x && q.y == y)) _ h)
      where
        forward : q.x ≡ x → q.y ≡ y → P (numbers_of q) a.mine a.theirs → (asks_read_write q.mine q.theirs ≡ true) ⊎ (both_write q.mine q.theirs ≡ true) → EdgeOf P nodes x y
        forward from to p (inl k) = inl (question (λ q. AsksReadWrite) x y from to (read_write-true _ _ (moved asks_read_write k)) p)
        forward from to p (inr k) = inr (inr (inl (question AsksWriteWrite x y from to (writes-asked (numbers_of q) _ _ a.asks (moved both_write k)) p)))

        backward : q.y ≡ x → q.x ≡ y → P (numbers_of q) a.mine a.theirs → (asks_write_read q.mine q.theirs ≡ true) ⊎ (both_write q.mine q.theirs ≡ true) → EdgeOf P nodes x y
        backward to from p (inl k) = inr (inl (question (λ q. AsksWriteRead) y x from to (write_read-true _ _ (moved asks_write_read k)) p))
        backward to from p (inr k) = inr (inr (inr (question AsksWriteWrite y x from to (writes-asked (numbers_of q) _ _ a.asks (moved both_write k)) p)))

        go : (((mark_by q meets exposed).gives.forward && (q.x == x && q.y == y)) ≡ true) ⊎ (((mark_by q meets exposed).gives.backward && (q.y == x && q.x == y)) ≡ true) → EdgeOf P nodes x y
        go (inl h) =
            let p = and_parts (mark_by q meets exposed).gives.forward _ h in
            let ends = and_parts (q.x == x) _ p.1 in
            let g = and_parts meets _ p.0 in
            forward (eqb-true _ _ ends.0) (eqb-true _ _ ends.1) (holds g.0) (or_cases _ _ g.1)
        go (inr h) =
            let p = and_parts (mark_by q meets exposed).gives.backward _ h in
            let ends = and_parts (q.y == x) _ p.1 in
            let g = and_parts meets _ p.0 in
            backward (eqb-true _ _ ends.0) (eqb-true _ _ ends.1) (holds g.0) (or_cases _ _ g.1)

    pub vulnerable-from_mark : (AsksReadWrite a.mine.kind a.theirs.kind → exposed ≡ true → P (numbers_of q) a.mine a.theirs) → (x y : ℕ) → gives_vulnerable x y (mark_by q meets exposed) ≡ true → HasReadWrite P nodes x y
    vulnerable-from_mark holds x y h =
        let p = and_parts (mark_by q meets exposed).gives.vulnerable _ h in
        let ends = and_parts (q.x == x) _ p.1 in
        let g = and_parts exposed _ p.0 in
        let asks = read_write-true _ _ (moved asks_read_write g.1) in
        question (λ q. AsksReadWrite) x y (eqb-true _ _ ends.0) (eqb-true _ _ ends.1) asks (holds asks g.0)

    pub vulnerable-from_mark-question : (holds : AsksReadWrite a.mine.kind a.theirs.kind → exposed ≡ true → P (numbers_of q) a.mine a.theirs) (x y : ℕ) (h : gives_vulnerable x y (mark_by q meets exposed) ≡ true) → (vulnerable-from_mark holds x y h).question ≡ numbers_of q
    unfolding vulnerable-from_mark question
    vulnerable-from_mark-question holds x y h = refl

  -- ---- what the paths have, a mark gives

  -- a question of the paths with P gives an edge wherever it may meet
  pub record GivesEdge (x y : ℕ) : Type 0 where
    pub question : Question
    pub asked : IsAskedOf nodes question
    pub holds : P (numbers_of question) asked.mine asked.theirs
    pub gives : (meets exposed : Bool) → meets ≡ true → gives_edge x y (mark_by question meets exposed) ≡ true

  -- a question of the paths with P gives a vulnerable edge wherever it counts as exposed
  pub record GivesVulnerable (x y : ℕ) (of : QuestionNumbers) : Type 0 where
    pub question : Question
    pub is : of ≡ numbers_of question
    pub asked : IsAskedOf nodes question
    pub holds : P (numbers_of question) asked.mine asked.theirs
    pub gives : (meets exposed : Bool) → exposed ≡ true → gives_vulnerable x y (mark_by question meets exposed) ≡ true

  module _ (asks : QuestionNumbers → Kind → Kind → Type 0) (x y : ℕ) (h : HasQuestion asks P nodes x y) (of : Asks h.question h.mine.kind h.theirs.kind) where
    as_asked : Question
    as_asked = record { x = h.question.x; a = h.question.a; y = h.question.y; b = h.question.b; mine = h.mine.kind; theirs = h.theirs.kind }

    is_asked : IsAskedOf nodes as_asked
    unfolding as_asked
    is_asked = record { mine = h.mine; theirs = h.theirs; asked = h.asked; mine_kind = refl; their_kind = refl; asks = of }

    forward-given : (asks_read_write h.mine.kind h.theirs.kind || both_write h.mine.kind h.theirs.kind) ≡ true → GivesEdge x y
    unfolding as_asked is_asked
    forward-given k = record {
      question = as_asked;
      asked = is_asked;
      holds = h.holds;
      gives = λ meets exposed m. or_left _ _ (and_from _ _ (and_from _ _ m k) (and_from _ _ (eq-eqb _ _ h.from) (eq-eqb _ _ h.to)));
    }

    backward-given : (asks_write_read h.mine.kind h.theirs.kind || both_write h.mine.kind h.theirs.kind) ≡ true → GivesEdge y x
    unfolding as_asked is_asked
    backward-given k = record {
      question = as_asked;
      asked = is_asked;
      holds = h.holds;
      gives = λ meets exposed m. or_right ((mark_by as_asked meets exposed).gives.forward && (h.question.x == y && h.question.y == x)) _ (and_from _ _ (and_from _ _ m k) (and_from _ _ (eq-eqb _ _ h.to) (eq-eqb _ _ h.from)));
    }

    vulnerable-given : asks_read_write h.mine.kind h.theirs.kind ≡ true → GivesVulnerable x y h.question
    unfolding as_asked is_asked
    vulnerable-given k = record {
      question = as_asked;
      is = refl;
      asked = is_asked;
      holds = h.holds;
      gives = λ meets exposed m. and_from _ _ (and_from _ _ m k) (and_from _ _ (eq-eqb _ _ h.from) (eq-eqb _ _ h.to));
    }

  pub mark-from_edge : (x y : ℕ) → EdgeOf P nodes x y → GivesEdge x y
  mark-from_edge x y (inl h) = forward-given (λ q. AsksReadWrite) x y h (inl h.kinds) (or_left _ _ (true-read_write _ _ h.kinds))
  mark-from_edge x y (inr (inl h)) = backward-given (λ q. AsksWriteRead) y x h (inr (inl h.kinds)) (or_left _ _ (true-write_read _ _ h.kinds))
  mark-from_edge x y (inr (inr (inl h))) = forward-given AsksWriteWrite x y h (inr (inr h.kinds)) (or_right (asks_read_write h.mine.kind h.theirs.kind) _ (true-writes h.question _ _ h.kinds))
  mark-from_edge x y (inr (inr (inr h))) = backward-given AsksWriteWrite y x h (inr (inr h.kinds)) (or_right (asks_write_read h.mine.kind h.theirs.kind) _ (true-writes h.question _ _ h.kinds))

  pub mark-from_vulnerable : (x y : ℕ) → (h : HasReadWrite P nodes x y) → GivesVulnerable x y h.question
  mark-from_vulnerable x y h = vulnerable-given (λ q. AsksReadWrite) x y h (inl h.kinds) (true-read_write _ _ h.kinds)
