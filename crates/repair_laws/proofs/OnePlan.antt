-- A list of paths has one plan.
use Rattle.std.proofs.Common.{◌≡◌, ℕ, ◌⊎◌, inl, inr, List, [], ◌∷◌, ◌++◌, refl, sym, subst, arith, append_assoc, Contains}
use Rattle.std.proofs.lemmas.List.Elements.{Contains-append_left, Contains-append_right, Contains-append_cases, Contains-push_cases, All-contains}
use Rattle.prog_check.specs.declared.path.Path.{Path}
use Rattle.repair_laws.specs.declared.plan.Pair.{Pair}
use Rattle.repair_laws.specs.Striking.{IsVulnerablePair, IsPairBefore, IsDangerousWithout}
use Rattle.repair_laws.specs.Plans.{PairsRise, IsHeldAt, IsPlan, LawOfOnePlan}
use Rattle.repair_laws.proofs.PlanLaws.{order_of, before-trans, not_both, not_before_itself, danger-fewer}
use Rattle.prog_paths.proofs.Rising.{rises-right, rises-across}
use Rattle.prog_tree.proofs.Elements.{contains_nothing}

-- the first of some pairs that rise, or one behind it
behind-first : (q : Pair) (qs : List Pair) → PairsRise (q ∷ qs) → (p : Pair) → IsPairBefore p q → (r : Pair) → Contains (q ∷ qs) r → IsPairBefore p r
behind-first q qs h p before r c = go (Contains-append_cases (q ∷ []) qs r c)
  where
    own : Contains {X = Pair} [] r ⊎ (q ≡ r) → IsPairBefore p r
    own (inl n) = absurd (contains_nothing r n)
    own (inr e) = subst (λ (t : Pair). IsPairBefore p t) e before

    go : Contains (q ∷ []) r ⊎ Contains qs r → IsPairBefore p r
    go (inl k) = own (Contains-push_cases [] q r k)
    go (inr k) = before-trans p q r before (All-contains (IsPairBefore q) qs r h.0 k)

module _ (nodes : List Path) where
  -- of two plans that begin with the same pairs, none goes on with a pair that the other has not
  skipped : (first ps qs : List Pair) (p : Pair) → IsPlan nodes (first ++ p ∷ ps) → IsPlan nodes (first ++ qs) → ((r : Pair) → Contains qs r → IsPairBefore p r) → ⊥
  skipped first ps qs p one other behind = misplaced (Contains-append_cases first qs p ((other.each p).1 (turn.0, danger-fewer nodes (IsHeldAt (first ++ qs) p) (IsHeldAt (first ++ p ∷ ps) p) fewer turn.1)))
    where
      turn : IsVulnerablePair nodes p × IsDangerousWithout nodes (IsHeldAt (first ++ p ∷ ps) p)
      turn = (one.each p).0 (Contains-append_right first (p ∷ ps) p (0, omega arith, refl))

      fewer : (r : Pair) → IsHeldAt (first ++ qs) p r → IsHeldAt (first ++ p ∷ ps) p r
      fewer r (inr later) = inr later
      fewer r (inl (c, before)) = go (Contains-append_cases first qs r c)
        where
          go : Contains first r ⊎ Contains qs r → IsHeldAt (first ++ p ∷ ps) p r
          go (inl k) = inl (Contains-append_left first (p ∷ ps) r k, before)
          go (inr k) = absurd (not_both r p before (behind r k))

      misplaced : Contains first p ⊎ Contains qs p → ⊥
      misplaced (inl k) = not_before_itself p (rises-across IsPairBefore first (p ∷ ps) p p one.rises k (0, omega arith, refl))
      misplaced (inr k) = not_before_itself p (behind p k)

  longer : (first : List Pair) (p : Pair) (ps : List Pair) → IsPlan nodes (first ++ p ∷ ps) → IsPlan nodes ((first ++ p ∷ []) ++ ps)
  longer first p ps is = subst (λ (l : List Pair). IsPlan nodes l) (sym (append_assoc first (p ∷ []) ps)) is

  one_rest : (first ps qs : List Pair) → IsPlan nodes (first ++ ps) → IsPlan nodes (first ++ qs) → ps ≡ qs
  one_rest first [] [] h k = refl
  one_rest first (p ∷ ps) [] h k = absurd (skipped first ps [] p h k (λ r c. absurd (contains_nothing r c)))
  one_rest first [] (q ∷ qs) h k = absurd (skipped first qs [] q k h (λ r c. absurd (contains_nothing r c)))
  one_rest first (p ∷ ps) (q ∷ qs) h k = go (λ e. one_rest (first ++ p ∷ []) ps qs (longer first p ps h) (moved e)) (order_of p q)
    where
      moved : p ≡ q → IsPlan nodes ((first ++ p ∷ []) ++ qs)
      moved e = subst (λ (r : Pair). IsPlan nodes ((first ++ r ∷ []) ++ qs)) (sym e) (longer first q qs k)

      go : (p ≡ q → ps ≡ qs) → IsPairBefore p q ⊎ (p ≡ q) ⊎ IsPairBefore q p → p ∷ ps ≡ q ∷ qs
      go rest (inl before) = absurd (skipped first ps (q ∷ qs) p h k (behind-first q qs (rises-right IsPairBefore first (q ∷ qs) k.rises) p before))
      go rest (inr (inl e)) = let r = rest e in λ i. e i ∷ r i
      go rest (inr (inr before)) = absurd (skipped first qs (p ∷ ps) q k h (behind-first p ps (rises-right IsPairBefore first (p ∷ ps) h.rises) q before))

pub law_of_one_plan : LawOfOnePlan
law_of_one_plan nodes one other is also = one_rest nodes [] one other is also
