-- Tallies in which each key was noted as often.
use Rattle.std.proofs.Common.{◌≡◌, ◌∙◌, ◌↔◌, ◌⊎◌, inl, inr, ℕ, Bool, cond, List, [], ◌∷◌, refl, sym, ap, subst, slice_index_or, ◌+◌, min, if◌then◌else◌}
use Rattle.std.specs.Prelude.{Some, unwrap_or}
use Rattle.std.specs.BTreeMap.{is_at}
use Rattle.std.specs.Cmp.{IsTotalOrder}
use Rattle.std.specs.Map.{lookup}
use Rattle.std.specs.Ordering.{is_eq}
use Rattle.std.specs.declared.cmp.Ordering.{Ordering}
use Rattle.std.specs.declared.cmp.Ordering.TheVariants.{Less, Equal, Greater}
use Rattle.std.proofs.lemmas.List.Elements.{All-cons, All-head, All-tail}
use Rattle.si_workers.specs.Tally.{AreSameCounts, IsCovered, count_in, more, most}

module _ {K : Type 0} (cmp : K → K → Ordering) where
  -- the note is noted as often in a tally
  abbrev IsNoted : List (K × ℕ) → K × ℕ → Type 0
  IsNoted other note = count_in cmp other note.0 ≡ note.1

  -- what is left of a tally is covered where all of it is
  abbrev pub IsAsCovered : (left one other : List (K × ℕ)) → Type 0
  IsAsCovered left one other = IsCovered cmp left other ↔ IsCovered cmp one other

  pub covered_first : (left one other : List (K × ℕ)) → left ≡ one → IsAsCovered left one other
  covered_first left one other is = (λ h. subst (λ (es : List (K × ℕ)). IsCovered cmp es other) is h, λ h. subst (λ (es : List (K × ℕ)). IsCovered cmp es other) (sym is) h)

  pub covered_more :
      (left rest one other : List (K × ℕ)) (key : K) (told count : ℕ) → left ≡ (key, count) ∷ rest → told ≡ count_in cmp other key → told ≡ count →
      IsAsCovered left one other → IsAsCovered rest one other
  covered_more left rest one other key told count is counted noted same = (
    λ h. same.0 (subst (λ (es : List (K × ℕ)). IsCovered cmp es other) (sym is) (All-cons (IsNoted other) (key, count) rest (sym counted ∙ noted) h)),
    λ h. All-tail (IsNoted other) (key, count) rest (subst (λ (es : List (K × ℕ)). IsCovered cmp es other) is (same.1 h)),
  )

  module _ (total : IsTotalOrder cmp) where
    -- equal keys are counted alike
    counted_alike : (t : List (K × ℕ)) (q key : K) → cmp q key ≡ Equal → count_in cmp t q ≡ count_in cmp t key
    counted_alike t q key e = ap (λ (test : K → Bool). unwrap_or (lookup test t) 0) (λ i x. is_eq (total.congr q key x e i))

    -- what comes of a note of a key
    pub noted_more :
        (old new : List (K × ℕ)) (key : K) (times count : ℕ) → count ≡ min (count_in cmp old key + times) most →
        ((q : K) → lookup (is_at (cmp q)) new ≡ cond (is_at (cmp key) q) (Some count) (lookup (is_at (cmp q)) old)) → (q : K) →
        count_in cmp new q ≡ more cmp key times q (count_in cmp old q)
    noted_more old new key times count is gets q = ap (λ o. unwrap_or o 0) (gets q) ∙ by_order (cmp key q) refl
      where
        there : Ordering → ℕ
        there r = unwrap_or (cond (is_eq r) (Some count) (lookup (is_at (cmp q)) old)) 0

        grown : Ordering → ℕ
        grown r = if is_eq r then min (count_in cmp old q + times) most else count_in cmp old q

        by_order : (r : Ordering) → cmp key q ≡ r → there (cmp key q) ≡ grown (cmp key q)
        by_order Equal e = ap there e ∙ is ∙ ap (λ n. min (n + times) most) (counted_alike old key q e) ∙ sym (ap grown e)
        by_order Less e = ap there e ∙ sym (ap grown e)
        by_order Greater e = ap there e ∙ sym (ap grown e)

    -- a key is counted as in a tally that covers, or it was not noted
    counted_there : (one other : List (K × ℕ)) → IsCovered cmp one other → (q : K) → (count_in cmp one q ≡ count_in cmp other q) ⊎ (count_in cmp one q ≡ 0)
    counted_there [] other h q = inr refl
    counted_there (note ∷ one) other h q = by_first (cmp q note.0) refl (counted_there one other (All-tail (IsNoted other) note one h) q)
      where
        first : Ordering → ℕ
        first r = unwrap_or (cond (is_eq r) (Some note.1) (lookup (is_at (cmp q)) one)) 0

        by_first :
            (r : Ordering) → cmp q note.0 ≡ r → (count_in cmp one q ≡ count_in cmp other q) ⊎ (count_in cmp one q ≡ 0) →
            (count_in cmp (note ∷ one) q ≡ count_in cmp other q) ⊎ (count_in cmp (note ∷ one) q ≡ 0)
        by_first Equal e more = inl (ap first e ∙ sym (counted_alike other q note.0 e ∙ All-head (IsNoted other) note one h))
        by_first Less e (inl same) = inl (ap first e ∙ same)
        by_first Less e (inr none) = inr (ap first e ∙ none)
        by_first Greater e (inl same) = inl (ap first e ∙ same)
        by_first Greater e (inr none) = inr (ap first e ∙ none)

    -- tallies of which each covers the other count alike
    pub same_counts : (one other : List (K × ℕ)) → IsCovered cmp one other → IsCovered cmp other one → AreSameCounts cmp one other
    same_counts one other h k q = either (counted_there one other h q) (counted_there other one k q)
      where
        either : (count_in cmp one q ≡ count_in cmp other q) ⊎ (count_in cmp one q ≡ 0) → (count_in cmp other q ≡ count_in cmp one q) ⊎ (count_in cmp other q ≡ 0) → count_in cmp one q ≡ count_in cmp other q
        either (inl same) there = same
        either (inr none) (inl same) = sym same
        either (inr none) (inr nothing) = none ∙ sym nothing

  -- and the converse
  pub covered : (one other : List (K × ℕ)) → IsCovered cmp one one → AreSameCounts cmp one other → IsCovered cmp one other
  covered one other own same = λ k d lt. sym (same (slice_index_or one k d).0) ∙ own k d lt
