-- What the told entries leave is what can meet, and what is exposed.
use Rattle.std.proofs.Common.{◌≡◌, ℕ, ◌<◌, List, length, inl, refl, sym, subst}
use Rattle.std.specs.Prelude.{Contains}
use Rattle.std.proofs.lemmas.List.Elements.{All-contains}
use Rattle.prog_check.specs.declared.path.Access.{Access}
use Rattle.prog_check.specs.declared.path.Path.{Path}
use Rattle.prog_paths.specs.Meeting.{CanMeet}
use Rattle.prog_paths.specs.StaticGraph.{QuestionNumbers, AsksOf, AsksReadWrite, StaticEdge, IsExposed, IsVulnerable}
use Rattle.prog_paths.specs.declared.accesses.questions.Question.{Question}
use Rattle.prog_paths.specs.Questions.{Asks, numbers_of}
use Rattle.prog_tree.proofs.Elements.{from_mapped, contains_itself}
use Rattle.prog_paths.proofs.Edges.{HasQuestion-weaker, EdgeOf-weaker, EdgeOf-inside}
use Rattle.prog_paths.proofs.Membership.{law_of_listing}
use Rattle.conflict_pairs.specs.declared.verdicts.Verdict.{Verdict}
use Rattle.conflict_pairs.specs.declared.verdicts.Verdict.TheVariants.{Apart, Covered, Exposed}
use Rattle.conflict_pairs.specs.Table.{Judged, Table, StandsFor, IsRightEntry}
use Rattle.conflict_pairs.specs.Verdicts.{mine_of, theirs_of, IsRight, IsRightOf, IsExposedQuestion}
use Rattle.robust_cert.specs.declared.entries.Reason as reason
use Rattle.robust_cert.specs.Accepted.{IsTold, IsToldApart, IsLeft, IsLeftVulnerable}
use Rattle.robust_cert.specs.Sharing.{Entry, entry_with}
use Rattle.si_repair.specs.Findings.{TellsEach}
use Rattle.si_repair.specs.Certificates.{told_question, told_by, told_of}
use Rattle.si_repair.proofs.Members.{told_one}

abbrev Meets : QuestionNumbers → Access → Access → Type 0
Meets q mine theirs = CanMeet mine theirs

-- ---- one question

-- a verdict that is right of a question, of which all is told that there is to tell
record IsJudged (paths : List Path) (entries : List Entry) (q : QuestionNumbers) : Type 0 where
  asked : Question
  is : numbers_of asked ≡ q
  verdict : Verdict
  right : IsRight paths q verdict
  all_told : (x : Entry) → Contains (told_by asked verdict) x → Contains entries x

module _ (paths : List Path) (entries : List Entry) (q : QuestionNumbers) (mine theirs : Access) where
  meets : (asked : Question) → numbers_of asked ≡ q → (v : Verdict) → ((x : Entry) → Contains (told_by asked v) x → Contains entries x) → IsRightOf paths q mine theirs v → (IsToldApart entries q → ⊥) → CanMeet mine theirs
  meets asked is (Apart chain) all_told r none =
      let e = entry_with (told_question asked) (reason.TheVariants.Apart chain) in
      absurd (none (e, all_told e (contains_itself e), tt, is))
  meets asked is (Covered m t chains) all_told r none = r.can_meet
  meets asked is (Exposed sample) all_told r none = (mine_of sample, theirs_of sample, r.meets)

  exposed : (asked : Question) → numbers_of asked ≡ q → (v : Verdict) → ((x : Entry) → Contains (told_by asked v) x → Contains entries x) → IsRightOf paths q mine theirs v → AsksReadWrite mine.kind theirs.kind → (IsTold entries q → ⊥) → IsExposed paths q mine theirs
  exposed asked is (Apart chain) all_told r asks none =
      let e = entry_with (told_question asked) (reason.TheVariants.Apart chain) in
      absurd (none (e, all_told e (contains_itself e), is))
  exposed asked is (Covered m t chains) all_told r asks none =
      let e = entry_with (told_question asked) (reason.TheVariants.Cover m t chains) in
      absurd (none (e, all_told e (contains_itself e), is))
  exposed asked is (Exposed sample) all_told r asks none = ((mine_of sample, theirs_of sample, r.meets), r.uncovered asks)

  is_told : (asked : Question) → numbers_of asked ≡ q → (v : Verdict) → ((x : Entry) → Contains (told_by asked v) x → Contains entries x) → IsRightOf paths q mine theirs v → (IsExposedQuestion paths q mine theirs → ⊥) → IsTold entries q
  is_told asked is (Apart chain) all_told r h =
      let e = entry_with (told_question asked) (reason.TheVariants.Apart chain) in (e, all_told e (contains_itself e), is)
  is_told asked is (Covered m t chains) all_told r h =
      let e = entry_with (told_question asked) (reason.TheVariants.Cover m t chains) in (e, all_told e (contains_itself e), is)
  is_told asked is (Exposed sample) all_told r h = absurd (h ((mine_of sample, theirs_of sample, r.meets), r.uncovered))

-- ---- all questions

module _ (t : Table) (paths : List Path) (s : StandsFor t paths) where
  judged : (q : QuestionNumbers) (mine theirs : Access) → AsksOf paths q mine theirs → Asks q mine.kind theirs.kind → IsJudged paths (told_of t.entries) q
  judged q mine theirs of_question asks = made found.0 found.1 found.2
    where
      asked : Question
      asked = record { x = q.x; a = q.a; y = q.y; b = q.b; mine = mine.kind; theirs = theirs.kind }

      found : (e : Judged) × Contains t.entries e × (e.question ≡ asked)
      found =
          from_mapped (λ (e : Judged). e.question) t.entries asked
          (subst (λ (qs : List Question). Contains qs asked) (sym s.questions)
          ((law_of_listing paths asked).1 (record { mine = mine; theirs = theirs; asked = of_question; mine_kind = refl; their_kind = refl; asks = asks })))

      made : (e : Judged) → Contains t.entries e → e.question ≡ asked → IsJudged paths (told_of t.entries) q
      made e i is = record {
        asked = asked;
        is = refl;
        verdict = e.verdict;
        right = subst (λ (p : Question). IsRight paths (numbers_of p) e.verdict) is (All-contains (λ d. IsRightEntry paths d) t.entries e s.right i);
        all_told = λ x m. told_one t.entries e x i (subst (λ (p : Question). Contains (told_by p e.verdict) x) (sym is) m);
      }

  left_meets : (q : QuestionNumbers) (mine theirs : Access) → AsksOf paths q mine theirs → Asks q mine.kind theirs.kind → (IsToldApart (told_of t.entries) q → ⊥) → CanMeet mine theirs
  left_meets q mine theirs of_question asks none =
      let j = judged q mine theirs of_question asks in
      meets paths (told_of t.entries) q mine theirs j.asked j.is j.verdict j.all_told (j.right mine theirs of_question) none

  left_exposed : (q : QuestionNumbers) (mine theirs : Access) → AsksOf paths q mine theirs → AsksReadWrite mine.kind theirs.kind → (IsTold (told_of t.entries) q → ⊥) → IsExposed paths q mine theirs
  left_exposed q mine theirs of_question asks none =
      let j = judged q mine theirs of_question (inl asks) in
      exposed paths (told_of t.entries) q mine theirs j.asked j.is j.verdict j.all_told (j.right mine theirs of_question) asks none

  pub tells_each : TellsEach paths (told_of t.entries)
  tells_each q question mine theirs of_question harmless =
      let j = judged q question.mine question.theirs question.asked question.asks in
      is_told paths (told_of t.entries) q mine theirs j.asked j.is j.verdict j.all_told (j.right mine theirs of_question) harmless

  -- ---- edges

  abbrev Free : QuestionNumbers → Access → Access → Type 0
  Free q mine theirs = ¬ IsToldApart (told_of t.entries) q

  abbrev Untold : QuestionNumbers → Access → Access → Type 0
  Untold q mine theirs = ¬ IsTold (told_of t.entries) q

  pub static-from_left : (x y : ℕ) → IsLeft paths (told_of t.entries) x y → StaticEdge paths x y
  static-from_left = EdgeOf-weaker Free Meets paths left_meets

  pub vulnerable-from_left : (x y : ℕ) → IsLeftVulnerable paths (told_of t.entries) x y → IsVulnerable paths x y
  vulnerable-from_left = HasQuestion-weaker (λ q. AsksReadWrite) Untold (IsExposed paths) paths left_exposed

-- ---- nodes of edges

pub edge_inside : (paths : List Path) (x y : ℕ) → StaticEdge paths x y → (x < length paths) × (y < length paths)
edge_inside paths = EdgeOf-inside Meets paths

-- a vulnerable edge is an edge
pub static-from_vulnerable : (paths : List Path) (x y : ℕ) → IsVulnerable paths x y → StaticEdge paths x y
static-from_vulnerable paths x y h = inl (HasQuestion-weaker (λ q. AsksReadWrite) (IsExposed paths) Meets paths (λ q mine theirs asked asks exposed. exposed.0) x y h)
