-- The question of two accesses of the paths, and whether it makes an edge vulnerable.
use Rattle.std.proofs.Common.{◌≡◌, ℕ, ◌+◌, ◌<◌, ◌≤◌, ◌⊎◌, inl, inr, true, List, Some, length, get_or, refl, sym, subst, ap, ◌∙◌, arith}
use Rattle.std.specs.Prelude.{◌↔◌, Bool, false, IsTrue, slice_get, All}
use Rattle.std.proofs.lemmas.Bool.{false≢true, cases_lt}
use Rattle.std.proofs.lemmas.Option.{slice_get_within, slice_get-get_or}
use Rattle.prog_check.specs.declared.path.Access.{Access}
use Rattle.prog_check.specs.declared.path.Path.{Path}
use Rattle.order_facts.specs.declared.sample.Sample.{Sample}
use Rattle.prog_paths.specs.StaticGraph.{QuestionNumbers, IsAccessOf, AsksOf, AsksReadWrite, IsExposed, IsVulnerable, IsUpToPair}
use Rattle.prog_paths.specs.Questions.{IsQuestion, ChangesSingleCells, two, between, numbers_of}
use Rattle.prog_paths.proofs.Marked.{same_access}
use Rattle.conflict_pairs.specs.declared.verdicts.Verdict.{Verdict}
use Rattle.conflict_pairs.specs.declared.verdicts.Verdict.TheVariants.{Apart, Covered, Exposed}
use Rattle.conflict_pairs.specs.Alike.{accesses_in, accesses_at}
use Rattle.conflict_pairs.specs.Verdicts.{mine_of, theirs_of, IsRight, IsExposedBy, is_exposed}
use Rattle.conflict_pairs.proofs.Moving.{IsRight-there}
use Rattle.dep_graph.specs.declared.danger.Exposure.{Exposure}
use Rattle.dep_graph.specs.Danger.{IsExposureAt, IsLeastOfAccess, IsLeastExposed}
use Rattle.dep_graph.proofs.Deciding.{right-exposed}
use Rattle.prog_tree.proofs.Elements.{element_at}

-- ---- the accesses of a node

-- a node's path, read from the list
pub path_at : (paths : List Path) (x : ℕ) (path : Path) → x < length paths → path ≡ get_or paths x path → slice_get paths x ≡ Some path
path_at paths x path inside is = slice_get-get_or paths x path inside ∙ ap Some (sym is)

pub accesses-at : (paths : List Path) (x : ℕ) (path : Path) → slice_get paths x ≡ Some path → accesses_at paths x ≡ path.accesses
accesses-at paths x path at = ap accesses_in at

-- an access, read from those of its node
pub access_at : (paths : List Path) (x a : ℕ) (accesses : List Access) (d : Access) → x < length paths → a < length (accesses_at paths x) → accesses ≡ accesses_at paths x → IsAccessOf paths x a (get_or accesses a d)
access_at paths x a accesses d node inside is =
    let path = element_at paths x node in
    let own = accesses-at paths x path.0 path.1 in (
      path.0,
      path.1,
      subst (λ (l : List Access). slice_get l a ≡ Some (get_or accesses a d)) (is ∙ own) (slice_get-get_or accesses a d (subst (λ (l : List Access). a < length l) (sym is) inside)),
    )

-- the number of an access stands among those of its node
pub number_within : (paths : List Path) (x a : ℕ) (access : Access) → IsAccessOf paths x a access → a < length (accesses_at paths x)
number_within paths x a access h = subst (λ (l : List Access). a < length l) (sym (accesses-at paths x h.0 h.1)) (slice_get_within h.0.accesses a access h.2)

-- ---- one question

module _ (paths : List Path) (x a y b : ℕ) (mine theirs : Access) (at_mine : IsAccessOf paths x a mine) (at_theirs : IsAccessOf paths y b theirs) where
  abbrev here : QuestionNumbers
  here = record { x = x; a = a; y = y; b = b }

  -- a question that makes the edge vulnerable is this one, if its accesses are these
  abbrev IsHere : IsVulnerable paths x y → Type 0
  IsHere h = (h.question.a ≡ a) × (h.question.b ≡ b)

  same_question : (h : IsVulnerable paths x y) → IsHere h → h.question ≡ here
  same_question h is = λ i. record { x = h.from i; a = is.0 i; y = h.to i; b = is.1 i }

  asked_here : (h : IsVulnerable paths x y) → IsHere h → AsksOf paths here h.mine h.theirs
  asked_here h is = subst (λ (q : QuestionNumbers). AsksOf paths q h.mine h.theirs) (same_question h is) h.asked

  -- it asks of these accesses
  pub asks_here : (h : IsVulnerable paths x y) → IsHere h → (mine.table ≡ theirs.table) × AsksReadWrite mine.kind theirs.kind
  asks_here h is =
      let asked = asked_here h is in
      let own = same_access paths x a h.mine mine asked.at_mine at_mine in
      let other = same_access paths y b h.theirs theirs asked.at_theirs at_theirs in (
        ap (λ (c : Access). c.table) (sym own) ∙ asked.table ∙ ap (λ (c : Access). c.table) other,
        subst (λ (c : Access). AsksReadWrite mine.kind c.kind) other (subst (λ (c : Access). AsksReadWrite c.kind h.theirs.kind) own h.kinds),
      )

  -- and a right verdict says so
  pub exposed_here : (v : Verdict) → IsRight paths here v → (h : IsVulnerable paths x y) → IsHere h → is_exposed v ≡ true
  exposed_here v right h is =
      right-exposed paths here h.mine h.theirs v (right h.mine h.theirs (asked_here h is))
      (subst (λ (q : QuestionNumbers). IsExposed paths q h.mine h.theirs) (same_question h is) h.holds)

  pub not_asked : (told : Bool) → (IsTrue told ↔ ((mine.table ≡ theirs.table) × AsksReadWrite mine.kind theirs.kind)) → told ≡ false → (h : IsVulnerable paths x y) → IsHere h → ⊥
  not_asked told by not h is = false≢true (sym not ∙ by.1 (asks_here h is))

  module _ (asks : (mine.table ≡ theirs.table) × AsksReadWrite mine.kind theirs.kind) where
    pub exposure_here : (sample : Sample) (e : Exposure) → IsRight paths here (Exposed sample) → e.question ≡ record { x = x; a = a; y = y; b = b; mine = mine.kind; theirs = theirs.kind } → e.sample ≡ sample → IsExposureAt paths here e
    exposure_here sample e right is of = record {
      mine = mine;
      theirs = theirs;
      asked = asked;
      kinds = asks.1;
      is = sym (ap numbers_of is);
      mine_kind = λ i. (is i).mine;
      their_kind = λ i. (is i).theirs;
      sample = subst (λ (s : Sample). IsExposedBy paths here mine theirs s) (sym of) (right mine theirs asked);
    }
      where
        asked : AsksOf paths here mine theirs
        asked = record { at_mine = at_mine; at_theirs = at_theirs; table = asks.0 }

    -- the question between the two paths alone
    module _ (one other : Path) (at_one : slice_get paths x ≡ Some one) (at_other : slice_get paths y ≡ Some other) where
      pub is_question : IsQuestion (two one other) (between a b)
      is_question = record {
        mine = mine;
        theirs = theirs;
        asked = record { at_mine = (one, refl, own x a one mine at_one at_mine); at_theirs = (other, refl, own y b other theirs at_other at_theirs); table = asks.0 };
        asks = inl asks.1;
      }
        where
          own : (n k : ℕ) (path : Path) (access : Access) → slice_get paths n ≡ Some path → IsAccessOf paths n k access → slice_get path.accesses k ≡ Some access
          own n k path access at h = subst (λ (l : List Access). slice_get l k ≡ Some access) (sym (accesses-at paths n h.0 h.1) ∙ accesses-at paths n path at) h.2

      pub right_here : (v : Verdict) → IsRight (two one other) (between a b) v → IsRight paths here v
      right_here v h = IsRight-there paths one other x a y b at_one at_other v h

pub sample_of : (v : Verdict) → is_exposed v ≡ true → (sample : Sample) × (v ≡ Exposed sample)
sample_of (Apart chain) e = absurd (false≢true e)
sample_of (Covered m t chains) e = absurd (false≢true e)
sample_of (Exposed sample) e = (sample, refl)

-- a path of the list changes single cells
pub single_at : (paths : List Path) (x : ℕ) (path : Path) → x < length paths → path ≡ get_or paths x path → All ChangesSingleCells paths → ChangesSingleCells path
single_at paths x path inside is all = subst ChangesSingleCells (sym is) (all x path inside)

-- ---- the first question

module _ (paths : List Path) (x a y : ℕ) where
  -- no question of the access is before the number: so it is of the next, where it is none
  pub none_more : (b : ℕ) → ((h : IsVulnerable paths x y) → h.question.a ≡ a → b ≤ h.question.b) → ((h : IsVulnerable paths x y) → ((h.question.a ≡ a) × (h.question.b ≡ b)) → ⊥) → (h : IsVulnerable paths x y) → h.question.a ≡ a → b + 1 ≤ h.question.b
  none_more b before not h is = by (cases_lt b h.question.b)
    where
      by : (b < h.question.b) ⊎ (h.question.b ≤ b) → b + 1 ≤ h.question.b
      by (inl l) = omega arith
      by (inr l) = let le = before h is in let same : h.question.b ≡ b = omega arith in absurd (not h (is, same))

  -- none is before the end of the accesses: so there is none
  pub none_left : (accesses : List Access) → accesses ≡ accesses_at paths y → (b : ℕ) → length accesses ≤ b → ((h : IsVulnerable paths x y) → h.question.a ≡ a → b ≤ h.question.b) → (h : IsVulnerable paths x y) → h.question.a ≡ a → ⊥
  none_left accesses own b end before h is =
      let inside = number_within paths h.question.y h.question.b h.theirs h.asked.at_theirs in
      let there = subst (λ (n : ℕ). h.question.b < length (accesses_at paths n)) h.to inside in
      let here = subst (λ (l : List Access). h.question.b < length l) (sym own) there in
      let le = before h is in
      absurd (omega (arith, here, le, end))

module _ (paths : List Path) (x y : ℕ) where
  -- no question of an access before the number makes the edge vulnerable
  abbrev pub IsNoneBefore : ℕ → Type 0
  IsNoneBefore a = (h : IsVulnerable paths x y) → a ≤ h.question.a

  pub none_before-more : (a : ℕ) → IsNoneBefore a → ((h : IsVulnerable paths x y) → h.question.a ≡ a → ⊥) → IsNoneBefore (a + 1)
  none_before-more a before not h = by (cases_lt a h.question.a)
    where
      by : (a < h.question.a) ⊎ (h.question.a ≤ a) → a + 1 ≤ h.question.a
      by (inl l) = omega arith
      by (inr l) = let le = before h in absurd (not h (omega arith))

  -- a question that makes it vulnerable is before the end of the accesses
  pub some_left : IsVulnerable paths x y → (accesses : List Access) → accesses ≡ accesses_at paths x → (a : ℕ) → length accesses ≤ a → IsNoneBefore a → ⊥
  some_left h accesses own a end before =
      let inside = number_within paths h.question.x h.question.a h.mine h.asked.at_mine in
      let there = subst (λ (n : ℕ). h.question.a < length (accesses_at paths n)) h.from inside in
      let here = subst (λ (l : List Access). h.question.a < length l) (sym own) there in
      let le = before h in
      absurd (omega (arith, here, le, end))

  pub least-from_access : (a : ℕ) (e : Exposure) → IsNoneBefore a → IsLeastOfAccess paths x a y e → IsLeastExposed paths x y e
  least-from_access a e before l = record {
    exposed = exposed;
    is = l.exposure.is;
    mine_kind = l.exposure.mine_kind;
    their_kind = l.exposure.their_kind;
    sample = l.exposure.sample;
    least = least;
  }
    where
      sample : IsExposedBy paths (record { x = x; a = a; y = y; b = l.number }) l.exposure.mine l.exposure.theirs e.sample
      sample = l.exposure.sample

      exposed : IsVulnerable paths x y
      exposed = record {
        question = record { x = x; a = a; y = y; b = l.number };
        from = refl;
        to = refl;
        mine = l.exposure.mine;
        theirs = l.exposure.theirs;
        asked = l.exposure.asked;
        kinds = l.exposure.kinds;
        holds = ((mine_of e.sample, theirs_of e.sample, sample.meets), sample.uncovered l.exposure.kinds);
      }

      same_a : a ≡ e.question.a
      same_a = ap (λ (q : QuestionNumbers). q.a) l.exposure.is

      same_b : l.number ≡ e.question.b
      same_b = ap (λ (q : QuestionNumbers). q.b) l.exposure.is

      least : (h : IsVulnerable paths x y) → IsUpToPair e.question.a e.question.b h.question.a h.question.b
      least h = by (cases_lt a h.question.a)
        where
          by : (a < h.question.a) ⊎ (h.question.a ≤ a) → IsUpToPair e.question.a e.question.b h.question.a h.question.b
          by (inl k) = let own = same_a in inl (omega arith)
          by (inr k) =
              let le = before h in
              let own = same_a in
              let other = same_b in
              let here : h.question.a ≡ a = omega arith in
              let up = l.least h here in
              inr (omega arith, omega arith)
