-- What the facts of a question say, in the words of meeting and covering.
use Rattle.std.proofs.Common.{◌≡◌, ◌↔◌, ℕ, Bool, true, false, not, Option, Some, None, List, refl, sym, subst, ◌∙◌}
use Rattle.std.specs.Prelude.{All, IfSome, IfNone, is_some, slice_get, get_or}
use Rattle.std.proofs.lemmas.Bool.{false≢true}
use Rattle.std.proofs.lemmas.Option.{get_or_from_slice_get, same_Some}
use Rattle.order_facts.specs.declared.steps.Node.{Node}
use Rattle.order_facts.specs.declared.steps.Fact.{Fact}
use Rattle.order_facts.specs.declared.sample.Choice.{Choice}
use Rattle.order_facts.specs.Chain as facts
use Rattle.order_facts.specs.Sample.{valuation_of}
use Rattle.prog_check.specs.declared.path.Access.{Access}
use Rattle.prog_check.specs.declared.path.Path.{Path}
use Rattle.prog_paths.specs.Meeting.{MeetsUnder, CanMeet, MayTouch}
use Rattle.prog_paths.specs.StaticGraph.{AsksOf, IsAccessOf, IsCovered}
use Rattle.prog_paths.specs.Facts.{question_facts}
use Rattle.prog_paths.specs.Shown.{Falls, CoversAt}
use Rattle.prog_paths.proofs.Facts.{law_of_meeting, law_of_consistency}
use Rattle.prog_paths.specs.Questions.{IsQuestion, ChangesSingleCells, two, between}
use Rattle.conflict_pairs.specs.declared.verdicts.Verdict.{Verdict}
use Rattle.conflict_pairs.specs.declared.verdicts.Verdict.TheVariants.{Apart, Covered, Exposed}
use Rattle.conflict_pairs.specs.Verdicts.{HasFall, NumbersFall, IsShortest, mine_of, theirs_of, IsCoveredBy, IsExposedBy, IsRightOf, IsRight, IsExposedQuestion, TellsExposed}
use Rattle.conflict_pairs.specs.Search.{IsCoverFound, ShowEqualAt, IsNoCover, IsLeftOpen, IsUncovered, IsJudged}
use Rattle.prog_paths.proofs.Shown.{IsPair, no_way-from_Falls, apart-from_Falls, same-from_CoversBy, CoversBy-from_same, single_at, may_touch-second}

-- an access of one of two paths
pub access-first : (x y : Path) (k : ℕ) (a : Access) → IsAccessOf (two x y) 0 k a → slice_get x.accesses k ≡ Some a
access-first x y k a at = subst (λ (p : Path). slice_get p.accesses k ≡ Some a) (sym (same_Some x at.0 at.1)) at.2

pub access-second : (x y : Path) (k : ℕ) (a : Access) → IsAccessOf (two x y) 1 k a → slice_get y.accesses k ≡ Some a
access-second x y k a at = subst (λ (p : Path). slice_get p.accesses k ≡ Some a) (sym (same_Some y at.0 at.1)) at.2

module _ (x y : Path) (a b : ℕ) (mine theirs : Access) (pair : IsPair mine theirs) (single_x : ChangesSingleCells x) (single_y : ChangesSingleCells y) where
  abbrev own_facts : List Fact
  own_facts = question_facts mine theirs

  IsCovered-from_CoversAt : (m t : ℕ) → CoversAt own_facts x.accesses y.accesses m t → IsCovered (two x y) 0 1 mine theirs
  IsCovered-from_CoversAt m t h = record {
    first = m;
    second = t;
    of_first = h.mine;
    of_second = h.theirs;
    at_first = (x, refl, h.at_mine);
    at_second = (y, refl, h.at_theirs);
    first_covers = h.covers.mine_covers;
    second_covers = h.covers.theirs_covers;
    same = same-from_CoversBy mine theirs pair h.mine h.theirs (single_at x m h.mine single_x h.at_mine h.covers.mine_covers.1) (single_at y t h.theirs single_y h.at_theirs h.covers.theirs_covers.1) h.covers;
  }

  CoversAt-from_IsCovered : CanMeet mine theirs → (h : IsCovered (two x y) 0 1 mine theirs) → CoversAt own_facts x.accesses y.accesses h.first h.second
  CoversAt-from_IsCovered can h = record {
    mine = h.of_first;
    theirs = h.of_second;
    at_mine = access-first x y h.first h.of_first h.at_first;
    at_theirs = access-second x y h.second h.of_second h.at_second;
    covers = CoversBy-from_same mine theirs pair h.of_first h.of_second h.first_covers h.second_covers can h.same;
  }

  can_meet : facts.IsConsistent own_facts → CanMeet mine theirs
  can_meet k = (law_of_consistency mine theirs pair.table pair.single).0 k

  covered-right : (m t : ℕ) (chains : List (List Node)) → IsCoverFound own_facts mine.kind theirs.kind x.accesses y.accesses m t → ShowEqualAt own_facts x.accesses y.accesses m t chains → All (IsShortest own_facts) chains → IsCoveredBy (two x y) (between a b) mine theirs m t chains
  unfolding IsCovered-from_CoversAt
  covered-right m t chains h equal shortest = record {
    asks = h.asks;
    can_meet = can_meet h.consistent;
    least = record {
      cover = IsCovered-from_CoversAt m t h.first.covers;
      mine_is = refl;
      theirs_is = refl;
      least = λ other. h.first.least other.first other.second (CoversAt-from_IsCovered (can_meet h.consistent) other);
    };
    equal = equal h.first.covers.mine h.first.covers.theirs h.first.covers.at_mine h.first.covers.at_theirs;
    shortest = shortest;
  }

  exposed-right : (sample : List Choice) → IsUncovered own_facts (Exposed sample) → IsNoCover own_facts mine.kind theirs.kind x.accesses y.accesses → IsExposedBy (two x y) (between a b) mine theirs sample
  exposed-right sample h none = record {
    meets = meets;
    nearest = h.1;
    uncovered = λ asks c. none consistent asks c.first c.second (CoversAt-from_IsCovered (can_meet consistent) c);
  }
    where
      consistent : facts.IsConsistent own_facts
      consistent = (valuation_of sample, h.0.0, h.0.1)

      meets : MeetsUnder (mine_of sample) (theirs_of sample) mine theirs
      meets = record {
        mine_of_i64 = record { parameter = h.0.0.mine; unknown = h.0.0.mine_unknown };
        theirs_of_i64 = record { parameter = h.0.0.theirs; unknown = h.0.0.theirs_unknown };
        meet = (law_of_meeting mine theirs pair.table pair.single (mine_of sample) (theirs_of sample)).0 h.0.1;
      }

  right-from_judged : (v : Verdict) → IsJudged x.accesses y.accesses mine theirs v → IsRightOf (two x y) (between a b) mine theirs v
  right-from_judged (Apart chain) h = (apart-from_Falls mine theirs pair chain h.falls, h)
  right-from_judged (Covered m t chains) h = covered-right m t chains h.0 h.1 h.2
  right-from_judged (Exposed sample) h = exposed-right sample h.0 h.1

  -- what the facts leave open is exposed
  exposed-open : IsLeftOpen x.accesses y.accesses mine theirs ↔ IsExposedQuestion (two x y) (between a b) mine theirs
  exposed-open = (
    λ h. (can_meet h.0, λ asks c. h.1 h.0 asks c.first c.second (CoversAt-from_IsCovered (can_meet h.0) c)),
    λ h. ((law_of_consistency mine theirs pair.table pair.single).1 h.0, λ k asks m t covers. h.1 asks (IsCovered-from_CoversAt m t covers)),
  )

-- the accesses of a question between two paths
module _ (x y : Path) (a b : ℕ) (q : IsQuestion (two x y) (between a b)) (single_y : ChangesSingleCells y) (mine theirs : Access) (asked : AsksOf (two x y) (between a b) mine theirs) where
  own_mine : slice_get x.accesses a ≡ Some mine
  own_mine = access-first x y a mine asked.at_mine

  own_theirs : slice_get y.accesses b ≡ Some theirs
  own_theirs = access-second x y b theirs asked.at_theirs

  mine_is : (d : Access) → get_or x.accesses a d ≡ mine
  mine_is d = get_or_from_slice_get x.accesses a mine d own_mine

  theirs_is : (e : Access) → get_or y.accesses b e ≡ theirs
  theirs_is e = get_or_from_slice_get y.accesses b theirs e own_theirs

  same_theirs : q.theirs ≡ theirs
  same_theirs = same_Some _ _ (sym (access-second x y b q.theirs q.asked.at_theirs) ∙ own_theirs)

  asked_pair : IsPair mine theirs
  asked_pair = record {
    table = asked.table;
    single = single_at y b theirs single_y own_theirs (subst MayTouch same_theirs (may_touch-second (between a b) q.mine q.theirs q.asks));
  }

-- what is said of the accesses at these places is right of the question
pub IsRight-from_IsJudged : (x y : Path) (a b : ℕ) (d e : Access) → IsQuestion (two x y) (between a b) → ChangesSingleCells x → ChangesSingleCells y → (v : Verdict) → IsJudged x.accesses y.accesses (get_or x.accesses a d) (get_or y.accesses b e) v → IsRight (two x y) (between a b) v
IsRight-from_IsJudged x y a b d e q single_x single_y v h mine theirs asked =
    right-from_judged x y a b mine theirs (asked_pair x y a b q single_y mine theirs asked) single_x single_y v
    (subst (λ (n : Access). IsJudged x.accesses y.accesses n theirs v) (mine_is x y a b q single_y mine theirs asked d)
    (subst (λ (n : Access). IsJudged x.accesses y.accesses (get_or x.accesses a d) n v) (theirs_is x y a b q single_y mine theirs asked e) h))

-- so is what is said of them alone, whether it is exposed
TellsExposed-from_open : (x y : Path) (a b : ℕ) (d e : Access) → IsQuestion (two x y) (between a b) → ChangesSingleCells x → ChangesSingleCells y → (told : Bool) → (told ≡ true) ↔ IsLeftOpen x.accesses y.accesses (get_or x.accesses a d) (get_or y.accesses b e) → TellsExposed (two x y) (between a b) told
TellsExposed-from_open x y a b d e q single_x single_y told h mine theirs asked =
    let open_is = exposed-open x y a b mine theirs (asked_pair x y a b q single_y mine theirs asked) single_x single_y in
    let own = subst (λ (n : Access). (told ≡ true) ↔ IsLeftOpen x.accesses y.accesses n theirs) (mine_is x y a b q single_y mine theirs asked d)
    (subst (λ (n : Access). (told ≡ true) ↔ IsLeftOpen x.accesses y.accesses (get_or x.accesses a d) n) (theirs_is x y a b q single_y mine theirs asked e) h) in
    (λ t. open_is.0 (own.0 t), λ k. own.1 (open_is.1 k))

-- the same of lists that are the paths' accesses
pub IsRight-from_lists : (x y : Path) (a b : ℕ) (xs ys : List Access) (d e : Access) → IsQuestion (two x y) (between a b) → ChangesSingleCells x → ChangesSingleCells y → xs ≡ x.accesses → ys ≡ y.accesses → (v : Verdict) → IsJudged xs ys (get_or xs a d) (get_or ys b e) v → IsRight (two x y) (between a b) v
IsRight-from_lists x y a b xs ys d e q single_x single_y is_xs is_ys v h =
    IsRight-from_IsJudged x y a b d e q single_x single_y v
    (subst (λ (l : List Access). IsJudged l y.accesses (get_or l a d) (get_or y.accesses b e) v) is_xs
    (subst (λ (l : List Access). IsJudged xs l (get_or xs a d) (get_or l b e) v) is_ys h))

pub TellsExposed-from_lists : (x y : Path) (a b : ℕ) (xs ys : List Access) (d e : Access) → IsQuestion (two x y) (between a b) → ChangesSingleCells x → ChangesSingleCells y → xs ≡ x.accesses → ys ≡ y.accesses → (told : Bool) → (told ≡ true) ↔ IsLeftOpen xs ys (get_or xs a d) (get_or ys b e) → TellsExposed (two x y) (between a b) told
TellsExposed-from_lists x y a b xs ys d e q single_x single_y is_xs is_ys told h =
    TellsExposed-from_open x y a b d e q single_x single_y told
    (subst (λ (l : List Access). (told ≡ true) ↔ IsLeftOpen l y.accesses (get_or l a d) (get_or y.accesses b e)) is_xs
    (subst (λ (l : List Access). (told ≡ true) ↔ IsLeftOpen xs l (get_or xs a d) (get_or l b e)) is_ys h))

-- ---- what is left open

pub fallen-not_open : (xs ys : List Access) (mine theirs : Access) (chain : List Node) → Falls (question_facts mine theirs) chain → IsLeftOpen xs ys mine theirs → ⊥
fallen-not_open xs ys mine theirs chain f h = no_way-from_Falls (question_facts mine theirs) chain f h.0

module _ (xs ys : List Access) (mine theirs : Access) (fs : List Fact) (is : fs ≡ question_facts mine theirs) where
  pub open-met : IsLeftOpen xs ys mine theirs → facts.IsConsistent fs
  open-met h = subst (λ (gs : List Fact). facts.IsConsistent gs) (sym is) h.0

  open-uncovered : facts.IsConsistent fs → IsNoCover fs mine.kind theirs.kind xs ys → IsLeftOpen xs ys mine theirs
  open-uncovered k none = (subst (λ (gs : List Fact). facts.IsConsistent gs) is k, subst (λ (gs : List Fact). IsNoCover gs mine.kind theirs.kind xs ys) is none)

  covered-not_open : (m t : ℕ) → IsCoverFound fs mine.kind theirs.kind xs ys m t → IsLeftOpen xs ys mine theirs → ⊥
  covered-not_open m t found h =
      let own = subst (λ (gs : List Fact). IsCoverFound gs mine.kind theirs.kind xs ys m t) is found in
      h.1 h.0 own.asks m t own.first.covers

  pub open-where_none : facts.IsConsistent fs → (found : Option (ℕ × ℕ)) (told : Bool) → IfSome found (λ c. IsCoverFound fs mine.kind theirs.kind xs ys c.0 c.1) → IfNone found (IsNoCover fs mine.kind theirs.kind xs ys) → is_some found ≡ not told → (told ≡ true) ↔ IsLeftOpen xs ys mine theirs
  open-where_none k (Some c) true some none is_found = absurd (false≢true (sym is_found))
  open-where_none k (Some c) false some none is_found = (λ t. absurd (false≢true t), λ h. absurd (covered-not_open c.0 c.1 some h))
  open-where_none k None true some none is_found = (λ _. open-uncovered k none, λ _. refl)
  open-where_none k None false some none is_found = absurd (false≢true is_found)

-- ---- where nothing covers

IsJudged-from_own : (xs ys : List Access) (mine theirs : Access) (v : Verdict) → IsUncovered (question_facts mine theirs) v → IsNoCover (question_facts mine theirs) mine.kind theirs.kind xs ys → IsJudged xs ys mine theirs v
IsJudged-from_own xs ys mine theirs (Apart chain) h none = h
IsJudged-from_own xs ys mine theirs (Covered m t chains) h none = absurd h
IsJudged-from_own xs ys mine theirs (Exposed sample) h none = (h, none)

pub IsJudged-from_uncovered : (xs ys : List Access) (mine theirs : Access) (fs : List Fact) (v : Verdict) → fs ≡ question_facts mine theirs → IsUncovered fs v → IsNoCover fs mine.kind theirs.kind xs ys → IsJudged xs ys mine theirs v
IsJudged-from_uncovered xs ys mine theirs fs v e h none =
    IsJudged-from_own xs ys mine theirs v (subst (λ (gs : List Fact). IsUncovered gs v) e h) (subst (λ (gs : List Fact). IsNoCover gs mine.kind theirs.kind xs ys) e none)

-- ---- at once

pub HasFall-from_lists : (x y : Path) (a b : ℕ) (xs ys : List Access) (d e : Access) → xs ≡ x.accesses → ys ≡ y.accesses → NumbersFall (two x y) (between a b) → HasFall (question_facts (get_or xs a d) (get_or ys b e))
HasFall-from_lists x y a b xs ys d e is_xs is_ys h =
    let first = get_or_from_slice_get x.accesses a h.mine d (access-first x y a h.mine h.asked.at_mine) in
    let second = get_or_from_slice_get y.accesses b h.theirs e (access-second x y b h.theirs h.asked.at_theirs) in
    subst (λ (l : List Access). HasFall (question_facts (get_or l a d) (get_or ys b e))) (sym is_xs)
    (subst (λ (l : List Access). HasFall (question_facts (get_or x.accesses a d) (get_or l b e))) (sym is_ys)
    (subst (λ (n : Access). HasFall (question_facts n (get_or y.accesses b e))) (sym first)
    (subst (λ (n : Access). HasFall (question_facts h.mine n)) (sym second) h.falls)))
