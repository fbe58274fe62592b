-- The tables have just the edges that are left.
use Rattle.std.proofs.Common.{◌≡◌, ℕ, ◌⊎◌, inl, inr, true, false, List, length, refl, sym, ap, ◌∙◌}
use Rattle.std.specs.Prelude.{Contains}
use Rattle.std.proofs.lemmas.Bool.{false≢true}
use Rattle.prog_check.specs.declared.path.Access.{Access}
use Rattle.prog_check.specs.declared.path.Path.{Path}
use Rattle.prog_paths.specs.StaticGraph.{QuestionNumbers, AsksReadWrite}
use Rattle.prog_paths.specs.declared.accesses.questions.Question.{Question}
use Rattle.prog_paths.specs.Questions.{numbers_of, questions_of}
use Rattle.prog_paths.specs.Listing.{IsAskedOf, RiseBy}
use Rattle.prog_paths.specs.Marks.{gives_edge, gives_vulnerable}
use Rattle.order_facts.specs.Square.{Joins}
use Rattle.prog_paths.proofs.Membership.{law_of_listing}
use Rattle.prog_paths.proofs.Edges.{HasQuestion-inside, EdgeOf-inside}
use Rattle.prog_tree.proofs.Elements.{any_in, in_any}
use Rattle.prog_paths.proofs.Grids.{test-from_joined, joined-from_test}
use Rattle.prog_paths.proofs.Marked.{edge-from_mark, vulnerable-from_mark, mark-from_edge, mark-from_vulnerable}
use Rattle.robust_cert.specs.declared.entries.Reason.{Reason}
use Rattle.robust_cert.specs.declared.entries.Reason.TheVariants.{Apart, Cover}
use Rattle.prog_paths.specs.declared.accesses.mark.EdgeTables.{EdgeTables}
use Rattle.robust_cert.specs.declared.checking.telling.Telling.{Telling}
use Rattle.robust_cert.specs.declared.checking.telling.Telling as telling
use Rattle.robust_cert.specs.Accepted.{question_of, SaysApart, IsToldApart, IsTold, IsLeft, IsLeftVulnerable}
use Rattle.robust_cert.specs.Sharing.{Entry}
use Rattle.robust_cert.specs.Telling.{telling_with, telling_of, may_meet, may_be_exposed, mark_under}
use Rattle.robust_cert.specs.Leaving.{some_edge, some_vulnerable, Leaves}
use Rattle.robust_cert.proofs.Cursor.{telling-from_entry, IsToldBy, told_cases}

-- ---- what a reason tells, and the tests of it

apart-never_meets : (r : Reason) → SaysApart r → may_meet (telling_with r) ≡ false
apart-never_meets (Apart chain) says = refl
apart-never_meets (Cover m t chains) says = absurd says

else-may_meet : (r : Reason) → (SaysApart r → ⊥) → may_meet (telling_with r) ≡ true
else-may_meet (Apart chain) other = absurd (other tt)
else-may_meet (Cover m t chains) other = refl

told-not_exposed : (r : Reason) → may_be_exposed (telling_with r) ≡ false
told-not_exposed (Apart chain) = refl
told-not_exposed (Cover m t chains) = refl

module _ (entries : List Entry) (q : QuestionNumbers) where
  untold_apart : RiseBy question_of entries → may_meet (telling_of entries q) ≡ true → IsToldApart entries q → ⊥
  untold_apart rise h (e, inside, says, about) = false≢true (sym (ap may_meet (telling-from_entry entries q e rise inside about) ∙ apart-never_meets e.reason says) ∙ h)

  untold : RiseBy question_of entries → may_be_exposed (telling_of entries q) ≡ true → IsTold entries q → ⊥
  untold rise h (e, inside, about) = false≢true (sym (ap may_be_exposed (telling-from_entry entries q e rise inside about) ∙ told-not_exposed e.reason) ∙ h)

  may_meet-untold : (IsToldApart entries q → ⊥) → may_meet (telling_of entries q) ≡ true
  may_meet-untold h = go (told_cases entries q)
    where
      go : (telling_of entries q ≡ telling.TheVariants.Nothing) ⊎ ((e : Entry) × IsToldBy entries q e) → may_meet (telling_of entries q) ≡ true
      go (inl n) = ap may_meet n
      go (inr (e, t)) = ap may_meet t.tells ∙ else-may_meet e.reason (λ says. h (e, t.inside, says, t.about))

  exposed-untold : (IsTold entries q → ⊥) → may_be_exposed (telling_of entries q) ≡ true
  exposed-untold h = go (told_cases entries q)
    where
      go : (telling_of entries q ≡ telling.TheVariants.Nothing) ⊎ ((e : Entry) × IsToldBy entries q e) → may_be_exposed (telling_of entries q) ≡ true
      go (inl n) = ap may_be_exposed n
      go (inr (e, t)) = absurd (h (e, t.inside, t.about))

-- ---- the tables of a pass

module _ (nodes : List Path) (entries : List Entry) (rise : RiseBy question_of entries) where
  abbrev Free : QuestionNumbers → Access → Access → Type 0
  Free q mine theirs = ¬ IsToldApart entries q

  abbrev Untold : QuestionNumbers → Access → Access → Type 0
  Untold q mine theirs = ¬ IsTold entries q

  asked_in : (q : Question) → Contains (questions_of nodes) q → IsAskedOf nodes q
  asked_in q i = (law_of_listing nodes q).0 i

  left-from_listed : (x y : ℕ) → some_edge entries (questions_of nodes) x y ≡ true → IsLeft nodes entries x y
  left-from_listed x y h =
      let r = any_in (λ q. gives_edge x y (mark_under entries q)) (questions_of nodes) h in
      let q = numbers_of r.0 in
      edge-from_mark Free nodes r.0 (asked_in r.0 r.1) (may_meet (telling_of entries q)) (may_be_exposed (telling_of entries q)) (untold_apart entries q rise) x y r.2

  left-listed : (x y : ℕ) → IsLeft nodes entries x y → some_edge entries (questions_of nodes) x y ≡ true
  left-listed x y e =
      let g = mark-from_edge Free nodes x y e in
      let told = telling_of entries (numbers_of g.question) in
      in_any (λ q. gives_edge x y (mark_under entries q)) (questions_of nodes) g.question ((law_of_listing nodes g.question).1 g.asked)
      (g.gives (may_meet told) (may_be_exposed told) (may_meet-untold entries (numbers_of g.question) g.holds))

  vulnerable-from_listed : (x y : ℕ) → some_vulnerable entries (questions_of nodes) x y ≡ true → IsLeftVulnerable nodes entries x y
  vulnerable-from_listed x y h =
      let r = any_in (λ q. gives_vulnerable x y (mark_under entries q)) (questions_of nodes) h in
      let q = numbers_of r.0 in
      vulnerable-from_mark Untold nodes r.0 (asked_in r.0 r.1) (may_meet (telling_of entries q)) (may_be_exposed (telling_of entries q)) (λ asks. untold entries q rise) x y r.2

  vulnerable-listed : (x y : ℕ) → IsLeftVulnerable nodes entries x y → some_vulnerable entries (questions_of nodes) x y ≡ true
  vulnerable-listed x y e =
      let g = mark-from_vulnerable Untold nodes x y e in
      let told = telling_of entries (numbers_of g.question) in
      in_any (λ q. gives_vulnerable x y (mark_under entries q)) (questions_of nodes) g.question ((law_of_listing nodes g.question).1 g.asked)
      (g.gives (may_meet told) (may_be_exposed told) (exposed-untold entries (numbers_of g.question) g.holds))

  module _ (left : EdgeTables) (l : Leaves nodes entries left) where
    pub left-from_joins : (x y : ℕ) → Joins left.edges x y → IsLeft nodes entries x y
    left-from_joins x y j = left-from_listed x y (test-from_joined left.edges (length nodes) (some_edge entries (questions_of nodes)) l.edges x y j)

    pub joins-from_left : (x y : ℕ) → IsLeft nodes entries x y → Joins left.edges x y
    joins-from_left x y e =
        let inside = EdgeOf-inside Free nodes x y e in
        joined-from_test left.edges (length nodes) (some_edge entries (questions_of nodes)) l.edges x y inside.0 inside.1 (left-listed x y e)

    pub vulnerable-from_joins : (x y : ℕ) → Joins left.vulnerable x y → IsLeftVulnerable nodes entries x y
    vulnerable-from_joins x y j = vulnerable-from_listed x y (test-from_joined left.vulnerable (length nodes) (some_vulnerable entries (questions_of nodes)) l.vulnerable x y j)

    pub joins-from_vulnerable : (x y : ℕ) → IsLeftVulnerable nodes entries x y → Joins left.vulnerable x y
    joins-from_vulnerable x y e =
        let inside = HasQuestion-inside Untold nodes (λ q. AsksReadWrite) x y e in
        joined-from_test left.vulnerable (length nodes) (some_vulnerable entries (questions_of nodes)) l.vulnerable x y inside.0 inside.1 (vulnerable-listed x y e)
