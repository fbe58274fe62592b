-- What is said of one question is said of those that are alike.
use Rattle.std.proofs.Common.{◌≡◌, ℕ, true, ◌<◌, ◌≤◌, ◌+◌, ◌⊎◌, inl, inr, List, [], ◌∷◌, ◌++◌, length, get_or, refl, sym, subst, ap, ◌∙◌, arith}
use Rattle.std.specs.Prelude.{All, Some, slice_get}
use Rattle.std.proofs.lemmas.Bool.{cases_lt, false≢true}
use Rattle.std.proofs.lemmas.List.{get_or_push, get_or_append_left}
use Rattle.std.proofs.lemmas.Option.{get_or_from_slice_get, slice_get-get_or, slice_get_within, same_Some}
use Rattle.order_facts.specs.declared.steps.Node.{Node}
use Rattle.order_facts.specs.declared.steps.Fact.{Fact}
use Rattle.prog_check.specs.declared.path.Access.{Access}
use Rattle.prog_check.specs.declared.path.Path.{Path}
use Rattle.prog_paths.specs.declared.accesses.questions.Question.{Question}
use Rattle.prog_paths.specs.declared.accesses.places.Placed.{Placed}
use Rattle.prog_paths.specs.Meeting.{MayCover}
use Rattle.prog_paths.specs.Places.{AreAlike, IsAt}
use Rattle.prog_paths.specs.StaticGraph.{IsAccessOf}
use Rattle.prog_paths.specs.Questions.{Asks, ChangesSingleCells, IsQuestion, between, numbers_of, question_between, two}
use Rattle.prog_paths.specs.Facts.{question_facts}
use Rattle.prog_paths.specs.Shown.{ShowEqual, key_pairs, CoversBy, CoversAt}
use Rattle.prog_paths.proofs.Marked.{same_access}
use Rattle.conflict_pairs.specs.declared.verdicts.Verdict.{Verdict}
use Rattle.conflict_pairs.specs.declared.verdicts.Verdict.TheVariants.{Apart, Covered, Exposed}
use Rattle.conflict_pairs.specs.Verdicts.{is_exposed, IsRight}
use Rattle.conflict_pairs.specs.Search.{IsUncovered, IsJudged}
use Rattle.conflict_pairs.specs.Alike.{CoverAlike, CoversToo, HaveSameCovers, accesses_in, accesses_at, AreCoverClasses, IsAsked, IsLikeAt, IsLike, IsJudgedAt}
use Rattle.conflict_pairs.specs.Classes.{AreOneClass}
use Rattle.conflict_pairs.specs.Sharing.{AreAlikeSides}
use Rattle.conflict_pairs.proofs.Meaning.{IsRight-from_lists}
use Rattle.conflict_pairs.proofs.Moving.{asked_between, single_of, IsRight-placed}

-- ---- accesses that are alike

-- an access without its place
abbrev unplaced : Access → Access
unplaced a = record { kind = a.kind; table = a.table; first = a.first; second = a.second; place = 0; sure = a.sure }

same_but_place : (a b : Access) → AreAlike a b → unplaced a ≡ unplaced b
same_but_place a b h = λ i. record { kind = h.kind i; table = h.table i; first = h.first i; second = h.second i; place = 0; sure = h.sure i }

pub alike-own : (a : Access) → AreAlike a a
alike-own a = record { kind = refl; table = refl; first = refl; second = refl; sure = refl }

pub alike-back : (a b : Access) → AreAlike a b → AreAlike b a
alike-back a b h = record { kind = sym h.kind; table = sym h.table; first = sym h.first; second = sym h.second; sure = sym h.sure }

pub alike-through : (a b c : Access) → AreAlike a b → AreAlike b c → AreAlike a c
alike-through a b c h k = record { kind = h.kind ∙ k.kind; table = h.table ∙ k.table; first = h.first ∙ k.first; second = h.second ∙ k.second; sure = h.sure ∙ k.sure }

-- of accesses that are alike both may cover, or neither
pub may_cover-alike : (a b : Access) → AreAlike a b → MayCover a → MayCover b
may_cover-alike a b h may = subst MayCover (same_but_place a b h) may

module _ (facts : List Fact) where
  covers-unplaced : (a b : Access) → CoversBy facts a b → CoversBy facts (unplaced a) (unplaced b)
  covers-unplaced a b h = record { mine_covers = h.mine_covers; theirs_covers = h.theirs_covers; table = h.table; equal = h.equal }

  covers-placed : (a b : Access) → CoversBy facts (unplaced a) (unplaced b) → CoversBy facts a b
  covers-placed a b h = record { mine_covers = h.mine_covers; theirs_covers = h.theirs_covers; table = h.table; equal = h.equal }

  covers-alike : (a b c d : Access) → AreAlike a c → AreAlike b d → CoversBy facts a b → CoversBy facts c d
  covers-alike a b c d e f h =
      covers-placed c d (subst (λ (z : Access). CoversBy facts z (unplaced d)) (same_but_place a c e) (subst (λ (z : Access). CoversBy facts (unplaced a) z) (same_but_place b d f) (covers-unplaced a b h)))

  shown-alike : (a b c d : Access) (chains : List (List Node)) → AreAlike a c → AreAlike b d → ShowEqual facts (key_pairs a b) chains → ShowEqual facts (key_pairs c d) chains
  shown-alike a b c d chains e f h =
      subst (λ (z : Access). ShowEqual facts (key_pairs z (unplaced d)) chains) (same_but_place a c e) (subst (λ (z : Access). ShowEqual facts (key_pairs (unplaced a) z) chains) (same_but_place b d f) h)

  covers_at-alike : (xs ys zs ws : List Access) (m t : ℕ) → CoversToo xs zs → CoversToo ys ws → CoversAt facts xs ys m t → CoversAt facts zs ws m t
  covers_at-alike xs ys zs ws m t p q h =
      let mine = p m h.mine h.at_mine h.covers.mine_covers in
      let theirs = q t h.theirs h.at_theirs h.covers.theirs_covers in
      record { mine = mine.0; theirs = theirs.0; at_mine = mine.1; at_theirs = theirs.1; covers = covers-alike h.mine h.theirs mine.0 theirs.0 mine.2 theirs.2 h.covers }

-- ---- lists with the same covers

pub covers-own : (xs : List Access) → HaveSameCovers xs xs
covers-own xs = (λ k a at may. (a, at, alike-own a), λ k a at may. (a, at, alike-own a))

covers_too-through : (xs ys zs : List Access) → CoversToo xs ys → CoversToo ys zs → CoversToo xs zs
covers_too-through xs ys zs p q k a at may =
    let b = p k a at may in
    let c = q k b.0 b.1 (may_cover-alike a b.0 b.2 may) in
    (c.0, c.1, alike-through a b.0 c.0 b.2 c.2)

pub covers-through : (xs ys zs : List Access) → HaveSameCovers xs ys → HaveSameCovers zs ys → HaveSameCovers xs zs
covers-through xs ys zs p q = (covers_too-through xs ys zs p.0 q.1, covers_too-through zs ys xs q.0 p.1)

-- the first so many accesses of two lists are alike where they may cover
abbrev pub CoverAlikeTo : List Access → List Access → ℕ → Type 0
CoverAlikeTo xs ys n = (j : ℕ) (a b : Access) → j < n → slice_get xs j ≡ Some a → slice_get ys j ≡ Some b → CoverAlike a b

pub cover_alike-more : (xs ys : List Access) (n : ℕ) (d e : Access) → CoverAlike (get_or xs n d) (get_or ys n e) → CoverAlikeTo xs ys n → CoverAlikeTo xs ys (n + 1)
cover_alike-more xs ys n d e h before j a b lt at_a at_b = by (cases_lt j n)
  where
    by : (j < n) ⊎ (n ≤ j) → CoverAlike a b
    by (inl l) = before j a b l at_a at_b
    by (inr l) =
        let last : j ≡ n = omega (arith, l, lt) in
        let is_a = get_or_from_slice_get xs n a d (subst (λ (k : ℕ). slice_get xs k ≡ Some a) last at_a) in
        let is_b = get_or_from_slice_get ys n b e (subst (λ (k : ℕ). slice_get ys k ≡ Some b) last at_b) in
        subst (λ (z : Access). CoverAlike z b) is_a (subst (λ (z : Access). CoverAlike (get_or xs n d) z) is_b h)

pub covers-all : (xs ys : List Access) (n : ℕ) → length xs ≡ length ys → length xs ≤ n → CoverAlikeTo xs ys n → HaveSameCovers xs ys
covers-all xs ys n long le h = (
  λ k a at may. let lt = slice_get_within xs k a at in
      let there = slice_get-get_or ys k a (omega (arith, lt, long)) in
      (get_or ys k a, there, (h k a (get_or ys k a) (omega (arith, lt, le)) at there).0 may),
  λ k b at may. let lt = slice_get_within ys k b at in
      let here = slice_get-get_or xs k b (omega (arith, lt, long)) in
      (get_or xs k b, here, (h k (get_or xs k b) b (omega (arith, lt, long, le)) here at).1 may),
)

-- ---- nodes

pub classes-more : (paths : List Path) (old new : List ℕ) (n c : ℕ) → length old ≡ n → new ≡ old ++ c ∷ [] → HaveSameCovers (accesses_at paths n) (accesses_at paths c) → ((x : ℕ) → x < n → HaveSameCovers (accesses_at paths x) (accesses_at paths (get_or old x 0))) → (x : ℕ) → x < n + 1 → HaveSameCovers (accesses_at paths x) (accesses_at paths (get_or new x 0))
classes-more paths old new n c long added h before x lt = subst (λ (l : List ℕ). HaveSameCovers (accesses_at paths x) (accesses_at paths (get_or l x 0))) (sym added) (by (cases_lt x n))
  where
    by : (x < n) ⊎ (n ≤ x) → HaveSameCovers (accesses_at paths x) (accesses_at paths (get_or (old ++ c ∷ []) x 0))
    by (inl l) = subst (λ (k : ℕ). HaveSameCovers (accesses_at paths x) (accesses_at paths k)) (sym (get_or_append_left old (c ∷ []) 0 x (omega (arith, l, long)))) (before x l)
    by (inr l) =
        let here : x ≡ n = omega (arith, l, lt) in
        let is : get_or (old ++ c ∷ []) x 0 ≡ c = get_or_push old c 0 x (long ∙ sym here) in
        subst (λ (k : ℕ). HaveSameCovers (accesses_at paths x) (accesses_at paths k)) (sym is) (subst (λ (k : ℕ). HaveSameCovers (accesses_at paths k) (accesses_at paths c)) (sym here) h)

pub same-class : (paths : List Path) (classes : List ℕ) (x y : ℕ) → AreCoverClasses paths classes → x < length classes → y < length classes → get_or classes x 0 ≡ get_or classes y 0 → HaveSameCovers (accesses_at paths x) (accesses_at paths y)
same-class paths classes x y h lt le same_class =
    covers-through (accesses_at paths x) (accesses_at paths (get_or classes x 0)) (accesses_at paths y) (h.same x lt)
    (subst (λ (k : ℕ). HaveSameCovers (accesses_at paths y) (accesses_at paths k)) (sym same_class) (h.same y le))

-- accesses of one class are alike, as the covers of their nodes
pub like_at-classes : (paths : List Path) (classes : List ℕ) (p q : Placed) → AreCoverClasses paths classes → IsAt paths p → IsAt paths q → AreOneClass classes p q → IsLikeAt paths p.node p.number q.node q.number
like_at-classes paths classes p q classed at_p at_q h = record {
  accesses = record { one = p.access; other = q.access; at_one = at_p; at_other = at_q; alike = h.alike };
  covers =
      let within_p = slice_get_within paths p.node at_p.0 at_p.1 in
      let within_q = slice_get_within paths q.node at_q.0 at_q.1 in
      same-class paths classes p.node q.node classed (omega (arith, within_p, classed.one_each)) (omega (arith, within_q, classed.one_each)) h.class;
}

-- ---- what is asked

module _ (paths : List Path) (q : Question) (asked : IsAsked paths q) where
  pub asked-first : IsAccessOf paths q.x q.a asked.first.access
  asked-first = (asked.at_first.0, ap (λ (r : Question). slice_get paths r.x) asked.is ∙ asked.at_first.1, ap (λ (r : Question). slice_get asked.at_first.0.accesses r.a) asked.is ∙ asked.at_first.2)

  pub asked-second : IsAccessOf paths q.y q.b asked.second.access
  asked-second = (asked.at_second.0, ap (λ (r : Question). slice_get paths r.y) asked.is ∙ asked.at_second.1, ap (λ (r : Question). slice_get asked.at_second.0.accesses r.b) asked.is ∙ asked.at_second.2)

  pub like-own : IsLike paths q q
  like-own = (
    record { accesses = record { one = asked.first.access; other = asked.first.access; at_one = asked-first; at_other = asked-first; alike = alike-own asked.first.access }; covers = covers-own (accesses_at paths q.x) },
    record { accesses = record { one = asked.second.access; other = asked.second.access; at_one = asked-second; at_other = asked-second; alike = alike-own asked.second.access }; covers = covers-own (accesses_at paths q.y) },
  )

-- ---- verdicts

judged-lists : (xs ys zs ws : List Access) (mine theirs : Access) → HaveSameCovers xs zs → HaveSameCovers ys ws → (v : Verdict) → IsJudged xs ys mine theirs v → IsJudged zs ws mine theirs v
judged-lists xs ys zs ws mine theirs p q (Apart chain) h = h
judged-lists xs ys zs ws mine theirs p q (Covered m t chains) h =
    let covers = h.0.first.covers in
    let there = p.0 m covers.mine covers.at_mine covers.covers.mine_covers in
    let back = q.0 t covers.theirs covers.at_theirs covers.covers.theirs_covers in (
      record {
        consistent = h.0.consistent;
        asks = h.0.asks;
        first = record {
          covers = covers_at-alike (question_facts mine theirs) xs ys zs ws m t p.0 q.0 covers;
          least = λ i j k. h.0.first.least i j (covers_at-alike (question_facts mine theirs) zs ws xs ys i j p.1 q.1 k);
        };
      },
      λ a b at_a at_b.
          subst (λ (z : Access). ShowEqual (question_facts mine theirs) (key_pairs z b) chains) (same_Some there.0 a (sym there.1 ∙ at_a))
          (subst (λ (z : Access). ShowEqual (question_facts mine theirs) (key_pairs there.0 z) chains) (same_Some back.0 b (sym back.1 ∙ at_b))
          (shown-alike (question_facts mine theirs) covers.mine covers.theirs there.0 back.0 chains there.2 back.2 (h.1 covers.mine covers.theirs covers.at_mine covers.at_theirs))),
      h.2,
    )
judged-lists xs ys zs ws mine theirs p q (Exposed sample) h =
    (h.0, λ k asks m t c. h.1 k asks m t (covers_at-alike (question_facts mine theirs) zs ws xs ys m t p.1 q.1 c))

judged-unplaced : (xs ys : List Access) (a b : Access) (v : Verdict) → IsJudged xs ys a b v → IsJudged xs ys (unplaced a) (unplaced b) v
judged-unplaced xs ys a b (Apart chain) h = h
judged-unplaced xs ys a b (Covered m t chains) h = h
judged-unplaced xs ys a b (Exposed sample) h = h

judged-placed : (xs ys : List Access) (a b : Access) (v : Verdict) → IsJudged xs ys (unplaced a) (unplaced b) v → IsJudged xs ys a b v
judged-placed xs ys a b (Apart chain) h = h
judged-placed xs ys a b (Covered m t chains) h = h
judged-placed xs ys a b (Exposed sample) h = h

judged-alike : (xs ys : List Access) (a b c d : Access) (v : Verdict) → AreAlike a c → AreAlike b d → IsJudged xs ys a b v → IsJudged xs ys c d v
judged-alike xs ys a b c d v e f h =
    judged-placed xs ys c d v
    (subst (λ (z : Access). IsJudged xs ys z (unplaced d) v) (same_but_place a c e) (subst (λ (z : Access). IsJudged xs ys (unplaced a) z v) (same_but_place b d f) (judged-unplaced xs ys a b v h)))

-- what is said of a question is said of one that is like it
pub judged-like : (paths : List Path) (q r : Question) (v : Verdict) → IsLike paths q r → IsJudgedAt paths r v → IsJudgedAt paths q v
judged-like paths q r v like h mine theirs at_mine at_theirs =
    let first = like.0.accesses in
    let second = like.1.accesses in
    let is_mine = same_access paths q.x q.a first.one mine first.at_one at_mine in
    let is_theirs = same_access paths q.y q.b second.one theirs second.at_one at_theirs in
    subst (λ (z : Access). IsJudged (accesses_at paths q.x) (accesses_at paths q.y) z theirs v) is_mine
    (subst (λ (z : Access). IsJudged (accesses_at paths q.x) (accesses_at paths q.y) first.one z v) is_theirs
    (judged-lists (accesses_at paths r.x) (accesses_at paths r.y) (accesses_at paths q.x) (accesses_at paths q.y) first.one second.one
    (like.0.covers.1, like.0.covers.0) (like.1.covers.1, like.1.covers.0) v
    (judged-alike (accesses_at paths r.x) (accesses_at paths r.y) first.other second.other first.one second.one v (alike-back first.one first.other first.alike) (alike-back second.one second.other second.alike)
    (h first.other second.other first.at_other second.at_other))))

-- where nothing covers, the facts say the same of accesses that are alike
uncovered-alike : (a b c d : Access) (v : Verdict) → AreAlike a c → AreAlike b d → IsUncovered (question_facts c d) v → IsUncovered (question_facts a b) v
uncovered-alike a b c d v e f h =
    subst (λ (z : Access). IsUncovered (question_facts z b) v) (sym (same_but_place a c e)) (subst (λ (z : Access). IsUncovered (question_facts (unplaced c) z) v) (sym (same_but_place b d f)) h)

-- one exposed verdict says what another one does of accesses that are alike
exposed-shared : (xs ys zs ws : List Access) (a b c d : Access) (found kept : Verdict) → is_exposed found ≡ true → is_exposed kept ≡ true → AreAlike a c → AreAlike b d → IsJudged xs ys a b found → IsJudged zs ws c d kept → IsJudged xs ys a b kept
exposed-shared xs ys zs ws a b c d (Apart chain) kept t u e f h k = absurd (false≢true t)
exposed-shared xs ys zs ws a b c d (Covered m n chains) kept t u e f h k = absurd (false≢true t)
exposed-shared xs ys zs ws a b c d (Exposed sample) (Apart chain) t u e f h k = absurd (false≢true u)
exposed-shared xs ys zs ws a b c d (Exposed sample) (Covered m n chains) t u e f h k = absurd (false≢true u)
exposed-shared xs ys zs ws a b c d (Exposed sample) (Exposed other) t u e f h k = (uncovered-alike a b c d (Exposed other) e f k.0, h.1)

-- the same of two questions whose accesses are alike, side by side
pub exposed-alike : (paths : List Path) (q r : Question) (found kept : Verdict) → is_exposed found ≡ true → is_exposed kept ≡ true → AreAlikeSides paths q r → IsJudgedAt paths q found → IsJudgedAt paths r kept → IsJudgedAt paths q kept
exposed-alike paths q r found kept t u alike h k mine theirs at_mine at_theirs =
    let first = alike.0 in
    let second = alike.1 in
    let xs = accesses_at paths q.x in
    let ys = accesses_at paths q.y in
    subst (λ (z : Access). IsJudged xs ys z theirs kept) (same_access paths q.x q.a first.one mine first.at_one at_mine)
    (subst (λ (z : Access). IsJudged xs ys first.one z kept) (same_access paths q.y q.b second.one theirs second.at_one at_theirs)
    (exposed-shared xs ys (accesses_at paths r.x) (accesses_at paths r.y) first.one second.one first.other second.other found kept t u first.alike second.alike
    (h first.one second.one first.at_one second.at_one) (k first.other second.other first.at_other second.at_other)))

-- what is said of two accesses is right of the one against the other, where their kinds ask something in whatever order
pub right-between : (paths : List Path) → All ChangesSingleCells paths → (first second : Placed) → IsAt paths first → IsAt paths second
    → first.access.table ≡ second.access.table → Asks (between first.number second.number) first.access.kind second.access.kind
    → (v : Verdict) → IsJudgedAt paths (question_between first second) v → IsRight paths (numbers_of (question_between first second)) v
right-between paths single first second at_first at_second table asks v h =
    IsRight-placed paths first second x y at_first at_second is_x is_y v
    (IsRight-from_lists x y first.number second.number x.accesses y.accesses first.access second.access question
    (single_of paths first x single at_first is_x) (single_of paths second y single at_second is_y) refl refl v judged)
  where
    x : Path
    x = at_first.0

    y : Path
    y = at_second.0

    is_x : x ≡ get_or paths first.node x
    is_x = sym (get_or_from_slice_get paths first.node x x at_first.1)

    is_y : y ≡ get_or paths second.node y
    is_y = sym (get_or_from_slice_get paths second.node y y at_second.1)

    question : IsQuestion (two x y) (between first.number second.number)
    question = record {
      mine = first.access;
      theirs = second.access;
      asked = record { at_mine = (x, refl, at_first.2); at_theirs = (y, refl, at_second.2); table = table };
      asks = asks;
    }

    judged : IsJudged x.accesses y.accesses (get_or x.accesses first.number first.access) (get_or y.accesses second.number second.access) v
    judged =
        subst (λ (l : List Access). IsJudged l y.accesses (get_or x.accesses first.number first.access) (get_or y.accesses second.number second.access) v) (ap accesses_in at_first.1)
        (subst (λ (l : List Access). IsJudged (accesses_at paths first.node) l (get_or x.accesses first.number first.access) (get_or y.accesses second.number second.access) v) (ap accesses_in at_second.1)
        (subst (λ (z : Access). IsJudged (accesses_at paths first.node) (accesses_at paths second.node) z (get_or y.accesses second.number second.access) v) (sym (get_or_from_slice_get x.accesses first.number first.access first.access at_first.2))
        (subst (λ (z : Access). IsJudged (accesses_at paths first.node) (accesses_at paths second.node) first.access z v) (sym (get_or_from_slice_get y.accesses second.number second.access second.access at_second.2))
        (h first.access second.access at_first at_second))))

-- what is said of a question's accesses is right of it
pub right-judged : (paths : List Path) (q : Question) → All ChangesSingleCells paths → IsAsked paths q → (v : Verdict) → IsJudgedAt paths q v → IsRight paths (numbers_of q) v
right-judged paths q single asked v h =
    let told = asked_between asked.first.number asked.second.number asked.first asked.second asked.asks_it in
    subst (λ (r : Question). IsRight paths (numbers_of r) v) (sym asked.is)
    (right-between paths single asked.first asked.second asked.at_first asked.at_second told.0 told.1 v (subst (λ (r : Question). IsJudgedAt paths r v) asked.is h))
