-- What is made of the pairs of a plan is one draft alone, and where it gets too large.
use Rattle.std.proofs.Common.{◌≡◌, ℕ, ◌+◌, ◌-◌, min, ◌<◌, ◌≤◌, ◌⊎◌, inl, inr, true, false, List, [], ◌∷◌, ◌++◌, map, length, get_or, take, drop, zero, suc, refl, sym, ap, subst, ◌∙◌, arith, append_assoc}
use Rattle.std.specs.Prelude.{Option, Some, None, IfNone, IfSome, is_some, slice_get, All}
use Rattle.std.proofs.Math.Nat.{min-le_right}
use Rattle.std.proofs.lemmas.Bool.{true≢false, cases_lt}
use Rattle.std.proofs.lemmas.List.{map-append, append-nil, length-append, length-map, length-take, length-take-le, take_more, take_all, take-map, take-take, take-append-drop}
use Rattle.std.proofs.lemmas.List.Elements.{All-head, All-tail, All-push, All-nil, All-take}
use Rattle.std.proofs.lemmas.Option.{slice_get_within}
use Rattle.prog_tree.specs.Syntax.{Name, ProgramTree, DraftTree}
use Rattle.prog_tree.specs.Tree.{draft_tree}
use Rattle.prog_tree.specs.declared.program.Draft.{Draft}
use Rattle.prog_check.specs.declared.path.Path.{Path}
use Rattle.prog_check.specs.Faults.{table_names}
use Rattle.prog_check.specs.Names.{is_among}
use Rattle.prog_check.specs.Paths.{paths_of}
use Rattle.prog_check.specs.Sound.{IsSound}
use Rattle.repair_laws.specs.declared.plan.NewTable.{NewTable}
use Rattle.repair_laws.specs.declared.plan.Pair.{Pair}
use Rattle.repair_laws.specs.Keys.{IsKeyOf, IsLeastForced}
use Rattle.repair_laws.specs.Materialised.{mat_name, plain_table, IsLeastFree, AreLeastFree, params_of, HasKey, AreNewTables, all_with_front, materialised_by, IsMaterialised}
use Rattle.repair_laws.specs.Refusals.{IsTooLarge, IsTooLargeBy, StopReason, StopsMaterialising}
use Rattle.repair_laws.specs.Refusals as why
use Rattle.repair_laws.proofs.Materialising.{law_of_materialising}
use Rattle.repair_laws.proofs.RightLaws.{law_of_repair_sizes}
use Rattle.si_repair.specs.declared.repairs.fault.RepairFault.TheVariants as fault
use Rattle.si_repair.specs.Names.{new_names, taken_names}
use Rattle.si_repair.specs.Checking.{IsRefused}
use Rattle.si_repair.specs.Repairing.{IsSafeRepair, StopsNowhere, IsRepairFault}
use Rattle.si_repair.proofs.Fewer.{fewer_met_small}
use Rattle.si_repair.proofs.Limits.{IsWithinLimits, size_fault, small_fits, sound_small}
use Rattle.si_repair.proofs.Repaired.{safe_repair}

-- ---- one name and one key

earlier-taken : (taken : List Name) (x y : Name) (f : IsLeastFree taken x) (g : IsLeastFree taken y) → f.0 < g.0 → ⊥
earlier-taken taken x y f g less =
    true≢false (sym (g.3 f.0 less) ∙ ap (is_among taken) (sym f.1) ∙ f.2)

same-free : (taken : List Name) (x y : Name) → IsLeastFree taken x → IsLeastFree taken y → x ≡ y
same-free taken x y f g = go (cases_lt f.0 g.0) (cases_lt g.0 f.0)
  where
    go : (f.0 < g.0) ⊎ (g.0 ≤ f.0) → (g.0 < f.0) ⊎ (f.0 ≤ g.0) → x ≡ y
    go (inl less) other = absurd (earlier-taken taken x y f g less)
    go (inr more) (inl less) = absurd (earlier-taken taken y x g f less)
    go (inr more) (inr less) =
        let same : f.0 ≡ g.0 = omega (arith, more, less) in
        f.1 ∙ ap mat_name same ∙ sym g.1

same-forced : (nodes : List Path) (pair : Pair) (firsts seconds : ℕ) (k l : ℕ × ℕ) → IsLeastForced nodes pair firsts seconds k.0 k.1 → IsLeastForced nodes pair firsts seconds l.0 l.1 → k ≡ l
same-forced nodes pair firsts seconds k l f g = go (f.least l.0 l.1 g.first_inside g.second_inside g.forced) (g.least k.0 k.1 f.first_inside f.second_inside f.forced)
  where
    go : (k.0 < l.0) ⊎ ((k.0 ≡ l.0) × (k.1 ≤ l.1)) → (l.0 < k.0) ⊎ ((l.0 ≡ k.0) × (l.1 ≤ k.1)) → k ≡ l
    go (inl less) (inl more) = absurd (omega (arith, less, more))
    go (inl less) (inr (same, more)) = absurd (omega (arith, less, same))
    go (inr (same, less)) (inl more) = absurd (omega (arith, more, same))
    go (inr (same, less)) (inr (again, more)) =
        let second : k.1 ≡ l.1 = omega (arith, less, more) in
        λ i. (same i, second i)

same-key : (nodes : List Path) (pair : Pair) (firsts seconds : ℕ) (k l : Option (ℕ × ℕ)) → IsKeyOf nodes pair firsts seconds k → IsKeyOf nodes pair firsts seconds l → k ≡ l
same-key nodes pair firsts seconds None None f g = refl
same-key nodes pair firsts seconds None (Some l) f g = absurd (f l.0 l.1 g.first_inside g.second_inside g.forced)
same-key nodes pair firsts seconds (Some k) None f g = absurd (g k.0 k.1 f.first_inside f.second_inside f.forced)
same-key nodes pair firsts seconds (Some k) (Some l) f g = ap Some (same-forced nodes pair firsts seconds k l f g)

-- ---- one draft

same-met : (draft : DraftTree) (taken : List Name) (made others : List NewTable) → map (λ (m : NewTable). m.pair) made ≡ map (λ (m : NewTable). m.pair) others
    → AreLeastFree taken (map (λ (m : NewTable). m.table) made) → AreLeastFree taken (map (λ (m : NewTable). m.table) others)
    → All (HasKey draft) made → All (HasKey draft) others → made ≡ others
same-met draft taken [] [] e f g h k = refl
same-met draft taken [] (y ∷ ys) e f g h k = absurd cc
same-met draft taken (x ∷ xs) [] e f g h k = absurd cc
same-met draft taken (x ∷ xs) (y ∷ ys) e f g h k =
    let pair : x.pair ≡ y.pair = cc in
    let pairs : map (λ (m : NewTable). m.pair) xs ≡ map (λ (m : NewTable). m.pair) ys = cc in
    let table = same-free taken x.table y.table f.0 g.0 in
    let names = subst (λ (name : Name). AreLeastFree (taken ++ name ∷ []) (map (λ (m : NewTable). m.table) ys)) (sym table) g.1 in
    let own = subst (λ (p : Pair). IsKeyOf (paths_of draft) p (params_of draft p.from) (params_of draft p.to) y.key) (sym pair) (All-head (HasKey draft) y ys k) in
    let key = same-key (paths_of draft) x.pair (params_of draft x.pair.from) (params_of draft x.pair.to) x.key y.key (All-head (HasKey draft) x xs h) own in
    let first : x ≡ y = λ i. record { pair = pair i; table = table i; key = key i } in
    let rest = same-met draft (taken ++ x.table ∷ []) xs ys pairs f.1 names (All-tail (HasKey draft) x xs h) (All-tail (HasKey draft) y ys k) in
    λ i. first i ∷ rest i

pub same_draft : (draft : DraftTree) (plan : List Pair) (one other : DraftTree) → IsMaterialised draft plan one → IsMaterialised draft plan other → one ≡ other
same_draft draft plan one other f g =
    let same = same-met draft (table_names draft) f.0 g.0 (f.1.pairs ∙ sym g.1.pairs) f.1.names g.1.names f.1.keys g.1.keys in
    f.2 ∙ ap (materialised_by draft) same ∙ sym g.2

-- ---- one more pair

free-push : (taken names : List Name) (name : Name) → AreLeastFree taken names → IsLeastFree (taken ++ names) name → AreLeastFree taken (names ++ name ∷ [])
free-push taken [] name f g = (subst (λ (l : List Name). IsLeastFree l name) (append-nil taken) g, tt)
free-push taken (x ∷ xs) name f g =
    (f.0, free-push (taken ++ x ∷ []) xs name f.1 (subst (λ (l : List Name). IsLeastFree l name) (sym (append_assoc taken (x ∷ []) xs)) g))

pub none_met : (draft : DraftTree) → AreNewTables draft [] []
none_met draft = record { pairs = refl; names = tt; keys = All-nil (HasKey draft) }

pub met_more : (draft : DraftTree) (plan : List Pair) (made : List NewTable) (m : NewTable) → AreNewTables draft plan made → IsLeastFree (taken_names draft made) m.table → HasKey draft m → AreNewTables draft (plan ++ m.pair ∷ []) (made ++ m ∷ [])
met_more draft plan made m met free key = record {
  pairs = map-append (λ (n : NewTable). n.pair) made (m ∷ []) ∙ ap (λ (l : List Pair). l ++ m.pair ∷ []) met.pairs;
  names = subst (AreLeastFree (table_names draft)) (sym (map-append (λ (n : NewTable). n.table) made (m ∷ []))) (free-push (table_names draft) (new_names made) m.table met.names free);
  keys = All-push (HasKey draft) made m met.keys key;
}

-- ---- size

-- nothing that the first `n` pairs of a plan make is too large
abbrev pub AreSmall : DraftTree → List Pair → ℕ → Type 0
AreSmall draft plan n = (k : ℕ) → k < n → IsTooLargeBy IsMaterialised draft plan (k + 1) → ⊥

free-first : (n : ℕ) (taken names : List Name) → AreLeastFree taken names → AreLeastFree taken (take n names)
free-first zero taken names f = tt
free-first (suc n) taken [] f = tt
free-first (suc n) taken (x ∷ xs) f = (f.0, free-first n (taken ++ x ∷ []) xs f.1)

-- the first pairs are met as they are among all
met_first : (draft : DraftTree) (plan : List Pair) (made : List NewTable) (n : ℕ) → AreNewTables draft plan made → AreNewTables draft (take n plan) (take n made)
met_first draft plan made n met = record {
  pairs = sym (take-map (λ (m : NewTable). m.pair) n made) ∙ ap (take n) met.pairs;
  names = subst (AreLeastFree (table_names draft)) (take-map (λ (m : NewTable). m.table) n made) (free-first n (table_names draft) (new_names made) met.names);
  keys = All-take (HasKey draft) n made met.keys;
}

-- where what all pairs make is sound, nothing that the first ones make is too large
pub small_whole : (draft : DraftTree) (plan : List Pair) (result : DraftTree) → IsSound result → IsMaterialised draft plan result → AreSmall draft plan (length plan)
small_whole draft plan result sound (made, met, is) k less (part, own, large) =
    let firsts = take (k + 1) made in
    let same = same_draft draft (take (k + 1) plan) part (materialised_by draft firsts) own (firsts, met_first draft plan made (k + 1) met, refl) in
    let whole = is ∙ ap (materialised_by draft) (sym (take-append-drop (k + 1) made)) in
    let small = fewer_met_small draft firsts (drop (k + 1) made) (subst (λ (d : DraftTree). IsWithinLimits d) whole (sound_small result sound)) in
    small_fits (materialised_by draft firsts) small (subst (λ (d : DraftTree). IsTooLarge d) same large)

-- the same of the first pairs alone
pub small_first : (draft : DraftTree) (plan : List Pair) (n : ℕ) (made : List NewTable) → AreNewTables draft (take n plan) made → IsSound (materialised_by draft made) → n ≤ length plan → AreSmall draft plan n
small_first draft plan n made met sound inside k less (part, own, large) =
    let few = length-take-le n plan inside in
    small_whole draft (take n plan) (materialised_by draft made) sound (made, met, refl) k (omega (arith, less, few))
    (part, subst (λ (l : List Pair). IsMaterialised draft l part) (sym (take-take (k + 1) n plan (omega (arith, less)))) own, large)

-- where none is, nothing stops the plan
pub stops_nowhere : (draft : DraftTree) (plan : List Pair) → AreSmall draft plan (length plan) → StopsNowhere (StopsMaterialising draft plan) plan
stops_nowhere draft plan small n pair why.RangeRead at stops = stops
stops_nowhere draft plan small n pair why.UnknownKey at stops = stops
stops_nowhere draft plan small n pair why.BodyRead at stops = stops
stops_nowhere draft plan small n pair why.TooLarge at stops = small n (slice_get_within plan n pair at) stops

-- what the first pairs make is refused for its size
too-large : (draft : DraftTree) (plan : List Pair) (result : DraftTree) → IsSound draft → IsMaterialised draft plan result → IsRefused result → IsTooLarge result
too-large draft plan result sound made (found, is, known) = size_fault result found is ((law_of_repair_sizes draft plan result sound).0 made)

-- a refusal names the first pair that stops the plan
pub refused_at : (draft : DraftTree) (plan : List Pair) (place : ℕ) (pair : Pair) (result : DraftTree)
    → IsSound draft → slice_get plan place ≡ Some pair → IsMaterialised draft (take (place + 1) plan) result → AreSmall draft plan place
    → IsRefused result → IsRepairFault (StopsMaterialising draft plan) plan (fault.TooMany pair)
refused_at draft plan place pair result sound at made small refused = record {
  place = place;
  at = at;
  stops = (result, made, too-large draft (take (place + 1) plan) result sound made refused);
  first = first;
}
  where
    first : (n : ℕ) (earlier : Pair) (reason : StopReason) → n < place → slice_get plan n ≡ Some earlier → StopsMaterialising draft plan n earlier reason → ⊥
    first n earlier why.RangeRead less here stops = stops
    first n earlier why.UnknownKey less here stops = stops
    first n earlier why.BodyRead less here stops = stops
    first n earlier why.TooLarge less here stops = small n less stops

-- ---- the pairs of a plan, one after another

no_front : (n : ℕ) (ps : List ProgramTree) → all_with_front [] n ps ≡ ps
no_front n [] = refl
no_front n (p ∷ ps) = ap (λ (l : List ProgramTree). p ∷ l) (no_front (n + 1) ps)

pub nothing_made : (draft : DraftTree) → materialised_by draft [] ≡ draft
nothing_made draft = λ i. record { tables = append-nil draft.tables i; programs = no_front 0 draft.programs i }

pub met_next : (draft : DraftTree) (items plan : List Pair) (n : ℕ) (d : Pair) (made : List NewTable) → items ≡ plan → n < length items → AreNewTables draft (take n plan ++ get_or items n d ∷ []) made → AreNewTables draft (take (n + 1) plan) made
met_next draft items plan n d made e inside met =
    subst (λ (l : List Pair). AreNewTables draft l made) (ap (λ (l : List Pair). take n l ++ get_or items n d ∷ []) (sym e) ∙ sym (take_more items n d inside) ∙ ap (take (n + 1)) e) met

pub met_all : (draft : DraftTree) (items plan : List Pair) (n : ℕ) (made : List NewTable) → items ≡ plan → length items ≤ n → AreNewTables draft (take n plan) made → AreNewTables draft plan made
met_all draft items plan n made e past met =
    subst (λ (l : List Pair). AreNewTables draft l made) (take_all n plan (subst (λ (l : List Pair). length l ≤ n) e past)) met

-- ---- the first pair that stops a plan

-- what was made of a draft is sound, and what was not is refused
pub sound_made : (d : DraftTree) (o : Option Draft) → is_some o ≡ true → IfSome o (λ s. draft_tree s ≡ d) → IfSome o (λ s. IsSound (draft_tree s)) → IsSound d
sound_made d None some made sound = absurd (cc)
sound_made d (Some s) some made sound = subst (λ (t : DraftTree). IsSound t) made sound

pub refused_made : (d : DraftTree) (o : Option Draft) → is_some o ≡ false → IfNone o (IsRefused d) → IsRefused d
refused_made d None none refused = refused
refused_made d (Some s) none refused = absurd (cc)

-- pairs that are met make a draft with a fault only where there are some
pub some_met : (draft : DraftTree) (plan : List Pair) (made : List NewTable) → IsSound draft → AreNewTables draft plan made → IsRefused (materialised_by draft made) → 0 < length made
some_met draft plan [] sound met refused =
    let large = too-large draft plan (materialised_by draft []) sound ([], met, refl) refused in
    absurd (small_fits draft (sound_small draft sound) (subst IsTooLarge (nothing_made draft) large))
some_met draft plan (x ∷ xs) sound met refused = omega arith

-- the first of the pairs that were met are the plan's first
pub met_firsts : (draft : DraftTree) (plan : List Pair) (made : List NewTable) (n : ℕ) → AreNewTables draft (take (length made) plan) made → n ≤ length made → AreNewTables draft (take n plan) (take n made)
met_firsts draft plan made n met inside =
    subst (λ (l : List Pair). AreNewTables draft l (take n made)) (take-take n (length made) plan inside) (met_first draft (take (length made) plan) made n met)

-- and their keys are those of programs
pub firsts_have_keys : (draft : DraftTree) (made : List NewTable) (n : ℕ) → All (HasKey draft) made → All (HasKey draft) (take n made)
firsts_have_keys draft made n keys = All-take (HasKey draft) n made keys

-- no more pairs are met than the plan has
pub few_met : (draft : DraftTree) (plan : List Pair) (made : List NewTable) → AreNewTables draft (take (length made) plan) made → length made ≤ length plan
few_met draft plan made met = subst (λ k. k ≤ length plan) (sym count) (min-le_right (length made) (length plan))
  where
    count : length made ≡ min (length made) (length plan)
    count = sym (length-map made (λ (m : NewTable). m.pair)) ∙ ap length met.pairs ∙ length-take (length made) plan

-- of all first pairs that are met, the one at a place is the plan's there
pub met_at : (draft : DraftTree) (plan : List Pair) (made : List NewTable) (n : ℕ) (d : NewTable) → AreNewTables draft (take (length made) plan) made → n < length made → slice_get plan n ≡ Some (get_or made n d).pair
met_at draft plan made n d met inside = go plan made n met.pairs inside
  where
    go : (plan : List Pair) (made : List NewTable) (n : ℕ) → map (λ (m : NewTable). m.pair) made ≡ take (length made) plan → n < length made → slice_get plan n ≡ Some (get_or made n d).pair
    go plan [] n e inside = absurd (omega (arith, inside))
    go [] (m ∷ ms) n e inside = absurd cc
    go (p ∷ ps) (m ∷ ms) zero e inside =
        let own : m.pair ≡ p = cc in
        ap Some (sym own)
    go (p ∷ ps) (m ∷ ms) (suc n) e inside =
        let rest : map (λ (o : NewTable). o.pair) ms ≡ take (length ms) ps = cc in
        go ps ms n rest (omega (arith, inside))

-- where all pairs that fit make a sound draft, these are all that there are
pub met_whole : (draft : DraftTree) (plan : List Pair) (made : List NewTable) → AreNewTables draft (take (1 + (64 - length draft.tables)) plan) made → IsSound (materialised_by draft made) → AreNewTables draft plan made
met_whole draft plan made met sound = go (cases_lt (length plan) most)
  where
    most : ℕ
    most = 1 + (64 - length draft.tables)

    few : length draft.tables + length made ≤ 64
    few =
        let tables = (sound_small (materialised_by draft made) sound).tables in
        let new = λ (m : NewTable). plain_table m.table in
        let all = length-append draft.tables (map new made) in
        let own = length-map made new in
        omega (arith, tables, all, own)

    count : length made ≡ length (take most plan)
    count = sym (length-map made (λ (m : NewTable). m.pair)) ∙ ap length met.pairs

    go : (length plan < most) ⊎ (most ≤ length plan) → AreNewTables draft plan made
    go (inl all) = subst (λ (l : List Pair). AreNewTables draft l made) (take_all most plan (omega (arith, all))) met
    go (inr more) =
        let own = length-take-le most plan more in
        absurd (omega (arith, few, count, own))

-- what these make, where that is sound, is what the whole plan makes
pub all_made : (draft : DraftTree) (plan first : List Pair) (made : List NewTable) (result : DraftTree) → first ≡ take (1 + (64 - length draft.tables)) plan → AreNewTables draft first made → result ≡ materialised_by draft made → IsSound result → IsMaterialised draft plan result
all_made draft plan first made result is met own sound =
    (made, met_whole draft plan made (subst (λ (l : List Pair). AreNewTables draft l made) is met) (subst IsSound own sound), own)

-- ---- what is promised of the result

pub materialised_safe : (draft : DraftTree) (plan : List Pair) (result : DraftTree) → IsSound draft → IsMaterialised draft plan result → IsSafeRepair draft plan result
materialised_safe draft plan result sound made = safe_repair draft plan result sound (law_of_materialising draft plan result sound made)
