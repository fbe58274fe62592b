-- A plan is made pair by pair: what each turn keeps.
use Rattle.std.proofs.Common.{◌≡◌, ◌↔◌, ℕ, ◌+◌, ◌<◌, ◌≤◌, ◌⊎◌, inl, inr, Bool, true, ltb, eqb, ◌&&◌, ◌||◌, List, [], ◌∷◌, ◌++◌, length, Contains, sym, subst, ap, arith}
use Rattle.std.specs.Prelude.{All}
use Rattle.std.proofs.lemmas.Bool.{cases_lt, cases_order, or_cases, or_left, or_right, and_parts, and_from, ltb-true, lt-ltb, eqb-true, eq-eqb}
use Rattle.std.proofs.lemmas.List.Elements.{Contains-append_left, Contains-push, Contains-push_cases}
use Rattle.std.proofs.lemmas.Option.{slice_get_within}
use Rattle.prog_tree.specs.Syntax.{DraftTree}
use Rattle.prog_check.specs.declared.path.Path.{Path}
use Rattle.prog_check.specs.Paths.{paths_of}
use Rattle.repair_laws.specs.declared.plan.Pair.{Pair}
use Rattle.repair_laws.specs.Striking.{IsVulnerablePair, IsPairBefore, IsDangerousWithout}
use Rattle.repair_laws.specs.Plans.{IsHeldAt, IsPlan}
use Rattle.repair_laws.specs.Closing.{pair_from, ClosesWithout, IsPlanFor, IsHeldNow, AndThis, GoesOn}
use Rattle.repair_laws.proofs.KeepsOn.{program_of_path}
use Rattle.repair_laws.proofs.PlanLaws.{not_before_itself}
use Rattle.repair_laws.proofs.ClosingLaws.{closing, law_of_plan_steps}
use Rattle.si_repair.specs.declared.plans.closing.ProgramTriple.{ProgramTriple}
use Rattle.si_repair.specs.Planning.{AreOfPrograms, first_pair, second_pair, ClosesTriple, AreClosing, IsOpenAtTurn, LacksPair, AreWithout, IsBeforeTurn, IsOutside, IsPartialPlan}
use Rattle.si_repair.specs.Repairing.{IsInRange}
use Rattle.si_repair.proofs.Searching.{all-contained}

-- ---- the order of pairs

-- a pair that doesn't stand behind another stands before it, or is it
at_most : (p turn : Pair) → (IsPairBefore turn p → ⊥) → AndThis (IsBeforeTurn turn) turn p
at_most p turn not = go (cases_order p.from turn.from) (cases_order p.to turn.to)
  where
    go : (p.from ≡ turn.from) ⊎ ((p.from < turn.from) ⊎ (turn.from < p.from)) → (p.to ≡ turn.to) ⊎ ((p.to < turn.to) ⊎ (turn.to < p.to)) → AndThis (IsBeforeTurn turn) turn p
    go (inl e) (inl f) = inr (λ i. record { from = e i; to = f i })
    go (inl e) (inr (inl l)) = inl (inr (e, l))
    go (inl e) (inr (inr l)) = absurd (not (inr (sym e, l)))
    go (inr (inl l)) o = inl (inl l)
    go (inr (inr l)) o = absurd (not (inl l))

not_behind : (p turn : Pair) → AndThis (IsBeforeTurn turn) turn p → IsPairBefore turn p → ⊥
not_behind p turn (inl (inl a)) (inl b) = omega (arith, a, b)
not_behind p turn (inl (inl a)) (inr b) = let e = b.0 in omega (arith, a, e)
not_behind p turn (inl (inr a)) (inl b) = let e = a.0 in omega (arith, e, b)
not_behind p turn (inl (inr a)) (inr b) = let k = a.1 in let l = b.1 in omega (arith, k, l)
not_behind p turn (inr e) b = not_before_itself turn (subst (λ (q : Pair). IsPairBefore turn q) e b)

is_before : Pair → Pair → Bool
is_before turn p = ltb p.from turn.from || (eqb p.from turn.from && ltb p.to turn.to)

before-from_test : (turn p : Pair) → is_before turn p ≡ true → IsBeforeTurn turn p
unfolding is_before
before-from_test turn p h = go (or_cases (ltb p.from turn.from) (eqb p.from turn.from && ltb p.to turn.to) h)
  where
    go : (ltb p.from turn.from ≡ true) ⊎ ((eqb p.from turn.from && ltb p.to turn.to) ≡ true) → IsBeforeTurn turn p
    go (inl k) = inl (ltb-true p.from turn.from k)
    go (inr k) = let both = and_parts (eqb p.from turn.from) (ltb p.to turn.to) k in inr (eqb-true p.from turn.from both.0, ltb-true p.to turn.to both.1)

test-from_before : (turn p : Pair) → IsBeforeTurn turn p → is_before turn p ≡ true
unfolding is_before
test-from_before turn p (inl l) = or_left (ltb p.from turn.from) (eqb p.from turn.from && ltb p.to turn.to) (lt-ltb p.from turn.from l)
test-from_before turn p (inr (e, l)) = or_right (ltb p.from turn.from) (eqb p.from turn.from && ltb p.to turn.to) (and_from (eqb p.from turn.from) (ltb p.to turn.to) (eq-eqb p.from turn.from e) (lt-ltb p.to turn.to l))

module _ (nodes : List Path) where
  closes_vulnerable : (t : ProgramTriple) → ClosesTriple nodes t → IsVulnerablePair nodes (first_pair t) × IsVulnerablePair nodes (second_pair t)
  closes_vulnerable t (x, y, z, fx, fy, fz, d) = ((x, y, (fx, fy), d.first), (y, z, (fy, fz), d.second))

  pub vulnerable_within : (programs : ℕ) → AreOfPrograms programs nodes → (p : Pair) → IsVulnerablePair nodes p → (p.from < programs) × (p.to < programs)
  vulnerable_within programs are p (x, y, of, v) = (are x p.from of.0, are y p.to of.1)

  -- ---- further pairs that have no vulnerable edge

  plan-wider : (plan : List Pair) (A B : Pair → Type 0) → ((p : Pair) → A p → B p) → ((p : Pair) → B p → A p ⊎ (IsVulnerablePair nodes p → ⊥)) → IsPlanFor nodes plan A → IsPlanFor nodes plan B
  plan-wider plan A B more back is = record { rises = is.rises; inside = λ p c. more p (is.inside p c); each = λ p b. go p (back p b) }
    where
      go : (p : Pair) → A p ⊎ (IsVulnerablePair nodes p → ⊥) → Contains plan p ↔ (IsVulnerablePair nodes p × IsDangerousWithout nodes (IsHeldAt plan p))
      go p (inl a) = is.each p a
      go p (inr not) = (λ c. (is.each p (is.inside p c)).0 c, λ h. absurd (not h.0))

  pub partial-wider : (plan : List Pair) (triples : List ProgramTriple) (A B : Pair → Type 0) → ((p : Pair) → A p → B p) → ((p : Pair) → B p → A p ⊎ (IsVulnerablePair nodes p → ⊥)) → IsPartialPlan nodes plan triples A → IsPartialPlan nodes plan triples B
  partial-wider plan triples A B more back is = record {
    is_plan = plan-wider plan A B more back is.is_plan;
    are_left = is.are_left;
    ahead = λ t c a b. go t c (back (first_pair t) a) (back (second_pair t) b);
  }
    where
      go : (t : ProgramTriple) → Contains triples t → A (first_pair t) ⊎ (IsVulnerablePair nodes (first_pair t) → ⊥) → A (second_pair t) ⊎ (IsVulnerablePair nodes (second_pair t) → ⊥) → ⊥
      go t c (inl a) (inl b) = is.ahead t c a b
      go t c (inl a) (inr not) = not (closes_vulnerable t ((is.are_left t).0 c).0).1
      go t c (inr not) o = not (closes_vulnerable t ((is.are_left t).0 c).0).0

  -- ---- one turn

  module _ (plan : List Pair) (triples : List ProgramTriple) (turn : Pair) (is : IsPartialPlan nodes plan triples (IsBeforeTurn turn)) where
    tested : IsPlanFor nodes plan (λ p. is_before turn p ≡ true)
    tested = plan-wider plan (IsBeforeTurn turn) (λ p. is_before turn p ≡ true) (test-from_before turn) (λ p h. inl (before-from_test turn p h)) is.is_plan

    goes_on : GoesOn nodes plan (λ p. is_before turn p ≡ true) turn
    goes_on = law_of_plan_steps nodes plan (is_before turn) turn tested (λ p h. before-from_test turn p h)

    untested : (list : List Pair) → IsPlanFor nodes list (AndThis (λ p. is_before turn p ≡ true) turn) → IsPlanFor nodes list (AndThis (IsBeforeTurn turn) turn)
    untested list h = plan-wider list (AndThis (λ p. is_before turn p ≡ true) turn) (AndThis (IsBeforeTurn turn) turn) to (λ p k. inl (from p k)) h
      where
        to : (p : Pair) → AndThis (λ q. is_before turn q ≡ true) turn p → AndThis (IsBeforeTurn turn) turn p
        to p (inl k) = inl (before-from_test turn p k)
        to p (inr e) = inr e

        from : (p : Pair) → AndThis (IsBeforeTurn turn) turn p → AndThis (λ q. is_before turn q ≡ true) turn p
        from p (inl k) = inl (test-from_before turn p k)
        from p (inr e) = inr e

    -- a structure is left at the turn just where an open triple has no pair behind it
    open-from_danger : IsDangerousWithout nodes (IsHeldNow plan turn) → IsOpenAtTurn triples turn
    open-from_danger danger = go ((closing nodes (IsHeldNow plan turn)).0 danger)
      where
        go : ClosesWithout nodes (IsHeldNow plan turn) → IsOpenAtTurn triples turn
        go (first, second, third, closes, one, other) =
            let t : ProgramTriple = record { first = first; second = second; third = third } in
            let c = (is.are_left t).1 (closes, (λ h. one (inl h), λ h. other (inl h))) in
            (c.0, t, c.1, c.2, (λ h. one (inr h), λ h. other (inr h)))

    danger-from_open : IsOpenAtTurn triples turn → IsDangerousWithout nodes (IsHeldNow plan turn)
    danger-from_open (k, t, inside, at, (one, other)) =
        let h = (is.are_left t).0 (k, inside, at) in
        (closing nodes (IsHeldNow plan turn)).1 (t.first, t.second, t.third, h.0, λ s. out (first_pair t) h.1.0 one s, λ s. out (second_pair t) h.1.1 other s)
      where
        out : (p : Pair) → (Contains plan p → ⊥) → (IsPairBefore turn p → ⊥) → IsHeldNow plan turn p → ⊥
        out p outside ahead (inl c) = outside c
        out p outside ahead (inr b) = ahead b

    vulnerable-from_open : IsOpenAtTurn triples turn → IsVulnerablePair nodes turn
    vulnerable-from_open (k, t, inside, at, (one, other)) = go (at_most (first_pair t) turn one) (at_most (second_pair t) turn other)
      where
        both : IsVulnerablePair nodes (first_pair t) × IsVulnerablePair nodes (second_pair t)
        both = closes_vulnerable t ((is.are_left t).0 (k, inside, at)).0

        go : AndThis (IsBeforeTurn turn) turn (first_pair t) → AndThis (IsBeforeTurn turn) turn (second_pair t) → IsVulnerablePair nodes turn
        go (inl a) (inl b) = absurd (is.ahead t (k, inside, at) a b)
        go (inl a) (inr e) = subst (λ (p : Pair). IsVulnerablePair nodes p) e both.1
        go (inr e) o = subst (λ (p : Pair). IsVulnerablePair nodes p) e both.0

    pub turn-left : (IsOpenAtTurn triples turn → ⊥) → IsPartialPlan nodes plan triples (AndThis (IsBeforeTurn turn) turn)
    turn-left none = record {
      is_plan = untested plan (goes_on.left (λ v d. none (open-from_danger d)));
      are_left = is.are_left;
      ahead = λ t c a b. none (c.0, t, c.1, c.2, (not_behind (first_pair t) turn a, not_behind (second_pair t) turn b));
    }

    pub turn-put : (rest : List ProgramTriple) → IsOpenAtTurn triples turn → AreWithout triples turn rest → IsPartialPlan nodes (plan ++ turn ∷ []) rest (AndThis (IsBeforeTurn turn) turn)
    turn-put rest some without = record {
      is_plan = untested (plan ++ turn ∷ []) (goes_on.put (vulnerable-from_open some) (danger-from_open some));
      are_left = λ t. (λ c. to t ((without t).0 c), λ h. from t h);
      ahead = λ t c a b. let w = (without t).0 c in is.ahead t w.0 (earlier (first_pair t) a w.1.0) (earlier (second_pair t) b w.1.1);
    }
      where
        outside : (p : Pair) → (Contains plan p → ⊥) → (p ≡ turn → ⊥) → Contains (plan ++ turn ∷ []) p → ⊥
        outside p old other c = go (Contains-push_cases plan turn p c)
          where
            go : Contains plan p ⊎ (turn ≡ p) → ⊥
            go (inl h) = old h
            go (inr e) = other (sym e)

        to : (t : ProgramTriple) → Contains triples t × LacksPair turn t → ClosesTriple nodes t × IsOutside (plan ++ turn ∷ []) t
        to t (c, lacks) = let h = (is.are_left t).0 c in (h.0, (outside (first_pair t) h.1.0 lacks.0, outside (second_pair t) h.1.1 lacks.1))

        other : (p : Pair) → (Contains (plan ++ turn ∷ []) p → ⊥) → p ≡ turn → ⊥
        other p out e = out (subst (λ (q : Pair). Contains (plan ++ turn ∷ []) q) (sym e) (Contains-push plan turn))

        from : (t : ProgramTriple) → ClosesTriple nodes t × IsOutside (plan ++ turn ∷ []) t → Contains rest t
        from t (closes, out) =
            (without t).1 (
              (is.are_left t).1 (closes, (λ c. out.0 (Contains-append_left plan (turn ∷ []) (first_pair t) c), λ c. out.1 (Contains-append_left plan (turn ∷ []) (second_pair t) c))),
              (other (first_pair t) out.0, other (second_pair t) out.1),
            )

        earlier : (p : Pair) → AndThis (IsBeforeTurn turn) turn p → (p ≡ turn → ⊥) → IsBeforeTurn turn p
        earlier p (inl b) not = b
        earlier p (inr e) not = absurd (not e)

  -- ---- turn after turn

  pub next-turn : (from to : ℕ) (plan : List Pair) (triples : List ProgramTriple) → IsPartialPlan nodes plan triples (AndThis (IsBeforeTurn (pair_from from to)) (pair_from from to)) → IsPartialPlan nodes plan triples (IsBeforeTurn (pair_from from (to + 1)))
  next-turn from to plan triples is =
      partial-wider plan triples (AndThis (IsBeforeTurn (pair_from from to)) (pair_from from to)) (IsBeforeTurn (pair_from from (to + 1))) forth (λ p h. inl (back p h)) is
    where
      forth : (p : Pair) → AndThis (IsBeforeTurn (pair_from from to)) (pair_from from to) p → IsBeforeTurn (pair_from from (to + 1)) p
      forth p (inl (inl l)) = inl l
      forth p (inl (inr h)) = let l = h.1 in inr (h.0, omega (arith, l))
      forth p (inr e) = let f : p.to ≡ to = ap (λ (q : Pair). q.to) e in inr (ap (λ (q : Pair). q.from) e, omega (arith, f))

      at : (p : Pair) → p.from ≡ from → (p.to ≡ to) ⊎ ((p.to < to) ⊎ (to < p.to)) → p.to < to + 1 → AndThis (IsBeforeTurn (pair_from from to)) (pair_from from to) p
      at p e (inl f) l = inr (λ i. record { from = e i; to = f i })
      at p e (inr (inl k)) l = inl (inr (e, k))
      at p e (inr (inr k)) l = absurd (omega (arith, k, l))

      back : (p : Pair) → IsBeforeTurn (pair_from from (to + 1)) p → AndThis (IsBeforeTurn (pair_from from to)) (pair_from from to) p
      back p (inl l) = inl (inl l)
      back p (inr h) = at p h.0 (cases_order p.to to) h.1

  module _ (programs : ℕ) (are : AreOfPrograms programs nodes) where
    pub next-program : (from to : ℕ) (plan : List Pair) (triples : List ProgramTriple) → programs ≤ to → IsPartialPlan nodes plan triples (IsBeforeTurn (pair_from from to)) → IsPartialPlan nodes plan triples (IsBeforeTurn (pair_from (from + 1) 0))
    next-program from to plan triples past is =
        partial-wider plan triples (IsBeforeTurn (pair_from from to)) (IsBeforeTurn (pair_from (from + 1) 0)) forth back is
      where
        forth : (p : Pair) → IsBeforeTurn (pair_from from to) p → IsBeforeTurn (pair_from (from + 1) 0) p
        forth p (inl l) = inl (omega (arith, l))
        forth p (inr h) = let e = h.0 in inl (omega (arith, e))

        at : (p : Pair) → p.from < from + 1 → (p.from ≡ from) ⊎ ((p.from < from) ⊎ (from < p.from)) → (p.to < to) ⊎ (to ≤ p.to) → IsBeforeTurn (pair_from from to) p ⊎ (IsVulnerablePair nodes p → ⊥)
        at p l (inl e) (inl k) = inl (inr (e, k))
        at p l (inl e) (inr k) = inr (λ v. let w = (vulnerable_within programs are p v).1 in omega (arith, w, k, past))
        at p l (inr (inl k)) o = inl (inl k)
        at p l (inr (inr k)) o = absurd (omega (arith, k, l))

        back : (p : Pair) → IsBeforeTurn (pair_from (from + 1) 0) p → IsBeforeTurn (pair_from from to) p ⊎ (IsVulnerablePair nodes p → ⊥)
        back p (inl l) = at p l (cases_order p.from from) (cases_lt p.to to)
        back p (inr h) = let l = h.1 in absurd (omega (arith, l))

    pub start : (triples : List ProgramTriple) → AreClosing nodes programs triples → IsPartialPlan nodes [] triples (IsBeforeTurn (pair_from 0 0))
    start triples closing_are = record {
      is_plan = record { rises = tt; inside = λ p c. let k = c.1 in absurd (omega (arith, k)); each = λ p b. absurd (nothing p b) };
      are_left = λ t. (λ c. (((closing_are t).0 c).3, (λ k. let l = k.1 in omega (arith, l), λ k. let l = k.1 in omega (arith, l))), λ h. (closing_are t).1 (whole t h.0));
      ahead = λ t c a b. nothing (first_pair t) a;
    }
      where
        nothing : (p : Pair) → IsBeforeTurn (pair_from 0 0) p → ⊥
        nothing p (inl l) = omega (arith, l)
        nothing p (inr h) = let l = h.1 in omega (arith, l)

        whole : (t : ProgramTriple) → ClosesTriple nodes t → (t.first < programs) × (t.second < programs) × (t.third < programs) × ClosesTriple nodes t
        whole t h =
            let v = closes_vulnerable t h in
            let one = vulnerable_within programs are (first_pair t) v.0 in
            let two = vulnerable_within programs are (second_pair t) v.1 in
            (one.0, one.1, two.1, h)

    pub end : (n : ℕ) (plan : List Pair) (triples : List ProgramTriple) → programs ≤ n → IsPartialPlan nodes plan triples (IsBeforeTurn (pair_from n 0)) → IsPlan nodes plan
    end n plan triples past is =
        let all = plan-wider plan (IsBeforeTurn (pair_from n 0)) (λ p. Unit {0}) (λ p h. tt) (λ p h. back p (cases_lt p.from n)) is.is_plan in
        record { rises = all.rises; each = λ p. all.each p tt }
      where
        back : (p : Pair) → (p.from < n) ⊎ (n ≤ p.from) → IsBeforeTurn (pair_from n 0) p ⊎ (IsVulnerablePair nodes p → ⊥)
        back p (inl l) = inl (inl l)
        back p (inr l) = inr (λ v. let w = (vulnerable_within programs are p v).0 in omega (arith, w, l, past))

-- ---- the plan of a draft

pub all_of_programs : (draft : DraftTree) → AreOfPrograms (length draft.programs) (paths_of draft)
all_of_programs draft x program (path, at, is) =
    let o = program_of_path draft.tables 0 draft.programs x path at in
    let l = slice_get_within draft.programs o.number o.program o.at in
    let e = o.numbered in
    omega (arith, l, e, is)

pub in_range : (draft : DraftTree) (plan : List Pair) → IsPlan (paths_of draft) plan → All (IsInRange draft) plan
in_range draft plan is = all-contained (IsInRange draft) plan (λ p c. vulnerable_within (paths_of draft) (length draft.programs) (all_of_programs draft) p ((is.each p).0 c).0)

pub planned : (draft : DraftTree) (nodes : List Path) (programs : ℕ) (triples : List ProgramTriple) (plan : List Pair) → nodes ≡ paths_of draft → programs ≡ length draft.programs → AreClosing nodes programs triples →
    ((paths : List Path) → AreOfPrograms programs paths → AreClosing paths programs triples → IsPlan paths plan) → IsPlan (paths_of draft) plan
planned draft nodes programs triples plan same count closing_are made =
    made (paths_of draft) (subst (λ n. AreOfPrograms n (paths_of draft)) (sym count) (all_of_programs draft)) (subst (λ (paths : List Path). AreClosing paths programs triples) same closing_are)
