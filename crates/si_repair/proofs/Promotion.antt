-- Pairs whose exposed reads keeps cover, and where what is made of them gets too large.
use Rattle.std.proofs.Common.{◌≡◌, ℕ, ◌+◌, ◌<◌, ◌≤◌, true, false, List, [], ◌∷◌, ◌++◌, take, length, Contains, refl, sym, ap, subst, ◌∙◌, arith, slice_get, Some, None, Option, get_or}
use Rattle.std.specs.List.{All}
use Rattle.std.specs.Prelude.{IfNone, IfSome, is_some}
use Rattle.std.proofs.Math.Nat.{min-le_right}
use Rattle.std.proofs.lemmas.List.{length-map, length-take, length-take-le, get_or-map, get_or-take, map-append, take_all, take_more, take-map, take-take}
use Rattle.std.proofs.lemmas.List.Elements.{All-contains, All-map, All-nil, All-push, All-take, All-weaker}
use Rattle.std.proofs.lemmas.Option.{slice_get_within, get_or_from_slice_get, slice_get-get_or}
use Rattle.prog_tree.specs.Syntax.{DraftTree}
use Rattle.prog_tree.specs.Tree.{draft_tree}
use Rattle.prog_tree.specs.declared.program.Draft.{Draft}
use Rattle.prog_check.specs.Paths.{paths_of}
use Rattle.prog_check.specs.Sound.{IsSound}
use Rattle.repair_laws.specs.declared.plan.Pair.{Pair}
use Rattle.repair_laws.specs.Promoted.{promoted_by, IsPromoted}
use Rattle.repair_laws.specs.Refusals.{IsCoverable, IsTooLarge, IsTooLargeBy, StopReason, StopsPromotion, IsFirstStop}
use Rattle.repair_laws.specs.Refusals as why
use Rattle.repair_laws.specs.Safety.{MayPromote}
use Rattle.repair_laws.proofs.Promoting.{law_of_promoting}
use Rattle.repair_laws.proofs.RightLaws.{law_of_repair_sizes}
use Rattle.si_repair.specs.declared.repairs.fault.RepairFault.{RepairFault}
use Rattle.si_repair.specs.declared.repairs.fault.RepairFault.TheVariants as fault
use Rattle.si_repair.specs.declared.repairs.promotion.CoverablePair.{CoverablePair}
use Rattle.si_repair.specs.Promotion.{pairs_of, AreCoverable, AreGathered, HasItsQuestions, HasCoverableReads, IsRefusedWith, IsSoundWith}
use Rattle.si_repair.specs.Obstacles.{IsObstacleFault}
use Rattle.si_repair.specs.Repairing.{IsSafeRepair, StopsNowhere, IsRepairFault}
use Rattle.si_repair.proofs.Behind.{none_marked, promoted-none}
use Rattle.si_repair.proofs.Fewer.{fewer_marks_small}
use Rattle.si_repair.proofs.Limits.{IsWithinLimits, size_fault, small_fits, sound_small}
use Rattle.si_repair.proofs.Marks.{marks-none, marks-same}
use Rattle.si_repair.proofs.Repaired.{safe_repair}

-- a plan has one promoted draft
one-promoted : (draft : DraftTree) (plan : List Pair) (a b : DraftTree) → IsPromoted draft plan a → IsPromoted draft plan b → a ≡ b
one-promoted draft plan a b h k = h.2 ∙ ap (promoted_by draft) (marks-same (paths_of draft) plan h.0 k.0 h.1 k.1) ∙ sym k.2

-- ---- pairs that are coverable

pub none_coverable : (draft : DraftTree) → AreCoverable draft [] []
none_coverable draft = (refl, All-nil (HasCoverableReads draft))

pub one_more_coverable : (draft : DraftTree) (pairs : List Pair) (n : ℕ) (d : Pair) (coverable : List CoverablePair) (next : CoverablePair)
    → n < length pairs → next.pair ≡ get_or pairs n d → AreCoverable draft (take n pairs) coverable → HasCoverableReads draft next
    → AreCoverable draft (take (n + 1) pairs) (coverable ++ next ∷ [])
one_more_coverable draft pairs n d coverable next inside is before own = (
  map-append (λ (c : CoverablePair). c.pair) coverable (next ∷ []) ∙ (λ i. before.0 i ++ is i ∷ []) ∙ sym (take_more pairs n d inside),
  All-push (HasCoverableReads draft) coverable next before.1 own,
)

pub all_coverable : (draft : DraftTree) (pairs : List Pair) (n : ℕ) (coverable : List CoverablePair) → length pairs ≤ n → AreCoverable draft (take n pairs) coverable
    → AreCoverable draft pairs coverable
all_coverable draft pairs n coverable past own = subst (λ (l : List Pair). AreCoverable draft l coverable) (take_all n pairs past) own

-- their questions are those that are exposed
pub has_questions : (draft : DraftTree) (coverable : List CoverablePair) → All (HasCoverableReads draft) coverable → All (HasItsQuestions (paths_of draft)) coverable
has_questions draft coverable own = All-weaker (HasCoverableReads draft) (HasItsQuestions (paths_of draft)) (λ c h. h.1) coverable own

may_promote : (draft : DraftTree) (pairs : List Pair) (coverable : List CoverablePair) → AreCoverable draft pairs coverable → MayPromote draft pairs
may_promote draft pairs coverable own pair c =
    All-contains (IsCoverable draft) pairs pair
    (subst (λ (l : List Pair). All (IsCoverable draft) l) own.0
    (All-map (IsCoverable draft) (λ (x : CoverablePair). x.pair) coverable (All-weaker (HasCoverableReads draft) (λ (x : CoverablePair). IsCoverable draft x.pair) (λ x h. h.0) coverable own.1)))
    c

-- there are as many as they cover pairs
as_many : (draft : DraftTree) (pairs : List Pair) (coverable : List CoverablePair) → AreCoverable draft pairs coverable → length coverable ≡ length pairs
as_many draft pairs coverable own = sym (length-map coverable (λ (c : CoverablePair). c.pair)) ∙ ap length own.0

-- those that were gathered are the plan's first
pub gathered_firsts : (draft : DraftTree) (plan : List Pair) (coverable : List CoverablePair) (f : Option RepairFault) → AreGathered draft plan coverable f
    → AreCoverable draft (take (length coverable) plan) coverable
gathered_firsts draft plan coverable None own =
    let same = as_many draft plan coverable own in
    subst (λ (l : List Pair). AreCoverable draft l coverable) (sym (take_all (length coverable) plan (omega (arith, same)))) own
gathered_firsts draft plan coverable (Some f) (n, pair, at, own, h) =
    let inside = slice_get_within plan n pair at in
    let same : length coverable ≡ n = as_many draft (take n plan) coverable own ∙ length-take-le n plan (omega (arith, inside)) in
    subst (λ k. AreCoverable draft (take k plan) coverable) (sym same) own

pub coverable_firsts : (draft : DraftTree) (plan : List Pair) (coverable : List CoverablePair) (n : ℕ) → AreCoverable draft (take (length coverable) plan) coverable → n ≤ length coverable
    → AreCoverable draft (take n plan) (take n coverable)
coverable_firsts draft plan coverable n own inside = (
  sym (take-map (λ (c : CoverablePair). c.pair) n coverable) ∙ ap (take n) own.0 ∙ take-take n (length coverable) plan inside,
  All-take (HasCoverableReads draft) n coverable own.1,
)

-- of all first pairs that are coverable, the one at a place is the plan's there
pub coverable_at : (draft : DraftTree) (plan : List Pair) (coverable : List CoverablePair) (n : ℕ) (d : CoverablePair) → AreCoverable draft (take (length coverable) plan) coverable → n < length coverable
    → slice_get plan n ≡ Some (get_or coverable n d).pair
coverable_at draft plan coverable n d own inside =
    let pair = (get_or coverable n d).pair in
    let same = as_many draft (take (length coverable) plan) coverable own in
    let size = length-take (length coverable) plan in
    let most = min-le_right (length coverable) (length plan) in
    let within : n < length plan = omega (arith, inside, same, size, most) in
    slice_get-get_or plan n pair within
    ∙ ap Some (sym (get_or-take (length coverable) plan n pair inside) ∙ ap (λ (l : List Pair). get_or l n pair) (sym own.0) ∙ get_or-map (λ (c : CoverablePair). c.pair) coverable n d pair inside)

-- ---- where no pair stops

-- no pair of a plan before this place stops it
abbrev pub StopsBefore : DraftTree → List Pair → ℕ → Type 0
StopsBefore draft plan n =
    (k : ℕ) (pair : Pair) (reason : StopReason) → k < n → slice_get plan k ≡ Some pair → StopsPromotion draft plan k pair reason → ⊥

contains-first : (plan : List Pair) (n k : ℕ) (pair : Pair) → k < n → slice_get plan k ≡ Some pair → Contains (take n plan) pair
contains-first plan n k pair less at = (k, inside, get_or-take n plan k pair less ∙ get_or_from_slice_get plan k pair pair at)
  where
    inside : k < length (take n plan)
    inside = let size = length-take n plan in let within = slice_get_within plan k pair at in omega (arith, size, within, less)

-- what is in a shorter part of the plan is in a longer one
contains-longer : (plan : List Pair) (m n : ℕ) (pair : Pair) → m ≤ n → Contains (take m plan) pair → Contains (take n plan) pair
contains-longer plan m n pair less (k, inside, is) =
    let size = length-take m plan in
    let before : k < m = omega (arith, size, inside) in
    let within : k < length plan = omega (arith, size, inside) in
    contains-first plan n k pair (omega (arith, before, less)) (slice_get-get_or plan k pair within ∙ ap Some (sym (get_or-take m plan k pair before) ∙ is))

-- where what all these pairs make is sound, none of them stops the plan
pub promoted_at_once : (draft : DraftTree) (plan : List Pair) (n : ℕ) (coverable : List CoverablePair) (result : DraftTree)
    → AreCoverable draft (take n plan) coverable → IsPromoted draft (pairs_of coverable) result → IsSound result → StopsBefore draft plan n
promoted_at_once draft plan n coverable result own (marked, exposed, is) sound = passed
  where
    may : MayPromote draft (take n plan)
    may = may_promote draft (take n plan) coverable own

    fits : (k : ℕ) → k < n → IsTooLargeBy IsPromoted draft plan (k + 1) → ⊥
    fits k less (part, (marks, own_exposed, made), large) =
        let also : (program number : ℕ) → marks program number ≡ true → marked program number ≡ true =
        λ program number e.
        let h = (own_exposed program number).0 e in
        let more = contains-longer plan (k + 1) n h.0 (omega (arith, less)) h.1 in
        (exposed program number).1 (h.0, subst (λ (l : List Pair). Contains l h.0) (sym own.0) more, h.2, h.3, h.4) in
        small_fits (promoted_by draft marks)
        (fewer_marks_small draft marks marked also (subst (λ (d : DraftTree). IsWithinLimits d) is (sound_small result sound)))
        (subst (λ (d : DraftTree). IsTooLarge d) made large)

    passed : StopsBefore draft plan n
    passed k pair why.RangeRead less at h = (may pair (contains-first plan n k pair less at)).0 h
    passed k pair why.UnknownKey less at h = (may pair (contains-first plan n k pair less at)).1 h.1
    passed k pair why.BodyRead less at h = (may pair (contains-first plan n k pair less at)).2 h.2
    passed k pair why.TooLarge less at h = fits k less h.1

pub stops_nowhere : (draft : DraftTree) (plan : List Pair) → StopsBefore draft plan (length plan) → StopsNowhere (StopsPromotion draft plan) plan
stops_nowhere draft plan passed n pair reason at stops = passed n pair reason (slice_get_within plan n pair at) at stops

-- ---- what was made or not

pub sound_with : (draft : DraftTree) (pairs : List Pair) (o : Option Draft) → is_some o ≡ true → IfSome o (λ s. IsPromoted draft pairs (draft_tree s))
    → IfSome o (λ s. IsSound (draft_tree s)) → IsSoundWith draft pairs
sound_with draft pairs None some made sound = absurd (cc)
sound_with draft pairs (Some s) some made sound = (draft_tree s, made, sound)

pub refused_with : (draft : DraftTree) (pairs : List Pair) (o : Option Draft) → is_some o ≡ false → IfNone o (IsRefusedWith draft pairs) → IsRefusedWith draft pairs
refused_with draft pairs None none refused = refused
refused_with draft pairs (Some s) none refused = absurd (cc)

-- ---- the first pair that stops a plan

-- with no keeps a sound draft stays sound
pub sound_with_none : (draft : DraftTree) → IsSound draft → IsSoundWith draft []
sound_with_none draft sound = (draft, (none_marked, marks-none (paths_of draft), sym (promoted-none draft)), sound)

-- what is made of pairs that are coverable is refused for its size
too_large : (draft : DraftTree) (pairs : List Pair) (coverable : List CoverablePair) → IsSound draft → AreCoverable draft pairs coverable → (h : IsRefusedWith draft pairs) → IsTooLarge h.0
too_large draft pairs coverable sound own (result, made, (found, is, known)) =
    size_fault result found is ((law_of_repair_sizes draft pairs result sound).1 (may_promote draft pairs coverable own) made)

-- so there are some
pub some_coverable : (draft : DraftTree) (pairs : List Pair) (coverable : List CoverablePair) → IsSound draft → AreCoverable draft pairs coverable → IsRefusedWith draft (pairs_of coverable) → 0 < length coverable
some_coverable draft pairs [] sound own (result, made, refused) =
    let same = one-promoted draft [] result draft made (none_marked, marks-none (paths_of draft), sym (promoted-none draft)) in
    let large = too_large draft [] [] sound (none_coverable draft) (result, made, refused) in
    absurd (small_fits draft (sound_small draft sound) (subst (λ (d : DraftTree). IsTooLarge d) same large))
some_coverable draft pairs (c ∷ cs) sound own refused = omega arith

stopping : (draft : DraftTree) (plan : List Pair) (n : ℕ) (pair : Pair) (reason : StopReason) → slice_get plan n ≡ Some pair → StopsBefore draft plan n
    → StopsPromotion draft plan n pair reason → IsFirstStop (StopsPromotion draft plan) plan pair reason
stopping draft plan n pair reason at passed stops = record {
  place = n;
  at = at;
  stops = stops;
  first = passed;
}

-- the pair up to which what they make is refused
pub refused_at : (draft : DraftTree) (plan : List Pair) (n : ℕ) (pair : Pair) (coverable : List CoverablePair) → IsSound draft → slice_get plan n ≡ Some pair
    → AreCoverable draft (take (n + 1) plan) coverable → StopsBefore draft plan n → IsRefusedWith draft (take (n + 1) plan)
    → IsRepairFault (StopsPromotion draft plan) plan (fault.TooMany pair)
refused_at draft plan n pair coverable sound at own passed refused =
    let may = may_promote draft (take (n + 1) plan) coverable own pair (contains-first plan (n + 1) n pair (omega arith) at) in
    stopping draft plan n pair why.TooLarge at passed (may, (refused.0, refused.1, too_large draft (take (n + 1) plan) coverable sound own refused))

-- the pair that no keeps cover
pub obstacle_at : (draft : DraftTree) (plan : List Pair) (n : ℕ) (pair : Pair) → slice_get plan n ≡ Some pair → StopsBefore draft plan n
    → (f : RepairFault) → IsObstacleFault draft pair f → IsRepairFault (StopsPromotion draft plan) plan f
obstacle_at draft plan n pair at passed (fault.RangeRead p) h = stopping draft plan n p why.RangeRead (at ∙ ap Some (sym h.0)) passed (subst (λ (q : Pair). StopsPromotion draft plan n q why.RangeRead) (sym h.0) h.1)
obstacle_at draft plan n pair at passed (fault.UnknownKey p) h = stopping draft plan n p why.UnknownKey (at ∙ ap Some (sym h.0)) passed (subst (λ (q : Pair). StopsPromotion draft plan n q why.UnknownKey) (sym h.0) h.1)
obstacle_at draft plan n pair at passed (fault.BodyRead p) h = stopping draft plan n p why.BodyRead (at ∙ ap Some (sym h.0)) passed (subst (λ (q : Pair). StopsPromotion draft plan n q why.BodyRead) (sym h.0) h.1)
obstacle_at draft plan n pair at passed (fault.TooMany p) h = absurd h
obstacle_at draft plan n pair at passed fault.Memory h = tt

-- the pair that stopped the gathering stops the plan
pub gathered_stopped : (draft : DraftTree) (plan : List Pair) (coverable : List CoverablePair) (result : DraftTree) (f : RepairFault)
    → AreGathered draft plan coverable (Some f) → IsPromoted draft (pairs_of coverable) result → IsSound result → IsRepairFault (StopsPromotion draft plan) plan f
gathered_stopped draft plan coverable result f (n, pair, at, own, h) made sound =
    obstacle_at draft plan n pair at (promoted_at_once draft plan n coverable result own made sound) f h

-- ---- the set of a whole plan

pub wholly_promoted : (draft : DraftTree) (plan : List Pair) (coverable : List CoverablePair) (result : DraftTree) → AreCoverable draft plan coverable → IsPromoted draft (pairs_of coverable) result
    → IsPromoted draft plan result
wholly_promoted draft plan coverable result own made = subst (λ (l : List Pair). IsPromoted draft l result) own.0 made

pub stops_none : (draft : DraftTree) (plan : List Pair) (coverable : List CoverablePair) (result : DraftTree) → AreCoverable draft plan coverable → IsPromoted draft (pairs_of coverable) result → IsSound result
    → StopsNowhere (StopsPromotion draft plan) plan
stops_none draft plan coverable result own made sound =
    stops_nowhere draft plan
    (promoted_at_once draft plan (length plan) coverable result (subst (λ (l : List Pair). AreCoverable draft l coverable) (sym (take_all (length plan) plan (omega arith))) own) made sound)

pub promoted_safe : (draft : DraftTree) (plan : List Pair) (coverable : List CoverablePair) (result : DraftTree) → IsSound draft → AreCoverable draft plan coverable → IsPromoted draft (pairs_of coverable) result
    → IsSafeRepair draft plan result
promoted_safe draft plan coverable result sound own made =
    safe_repair draft plan result sound (law_of_promoting draft plan result sound (may_promote draft plan coverable own) (wholly_promoted draft plan coverable result own made))
