-- The account of all passes, and what each step makes of it.
use Rattle.std.proofs.Common.{◌≡◌, ℕ, ◌+◌, ◌-◌, ◌<◌, ◌≤◌, List, [], ◌∷◌, ◌++◌, length, set, refl, sym, ap, ◌∙◌, arith, length-append, if◌then◌else◌, nat_lt, cond, ◌==◌}
use Rattle.std.specs.Prelude.{sum_by}
use Rattle.std.proofs.lemmas.Bool.Decides.{nat_tests}
use Rattle.std.proofs.lemmas.List.Concat.{length-flat_map}
use Rattle.std.proofs.lemmas.List.Sums.{sum_by-append, sum_by_push, sum_by-le-sum_by, count_by-le-length}
use mathlib.Core.Option.{some}
use lib.ListN.{get_elem?}
use Rattle.job_counter.specs.declared.holding.Holding.{Holding}
use Rattle.job_counter.specs.Holdings.{times, AreEachOnceBelow, AreDistinct, left_of_all, numbers_of_all, IsAccount, holding, after_draw, both_of}
use Rattle.job_counter.proofs.Totals.{total_set, total_least, numbers_total}

-- The account pass by pass: a step changes one or two terms of each sum
pub record IsSummed (budget n : ℕ) (ps : List Holding) : Type 0 where
  pub drawn : sum_by (λ p. length p.numbers) ps ≡ n
  pub adds_up : n + left_of_all ps ≡ budget
  pub once : (x : ℕ) → sum_by (λ p. times x p.numbers) ps ≡ (if nat_lt x n then 1 else 0)

summed : (budget n : ℕ) (ps : List Holding) → IsAccount budget n ps → IsSummed budget n ps
summed budget n ps a = record {
  drawn = sym (length-flat_map (λ (p : Holding). p.numbers) ps) ∙ a.drawn;
  adds_up = omega (arith, a.adds_up, a.drawn);
  once = λ x. sym (numbers_total _ ps) ∙ a.once x;
}

put_together : (budget n : ℕ) (ps : List Holding) → IsSummed budget n ps → IsAccount budget n ps
put_together budget n ps s =
    let held : length (numbers_of_all ps) ≡ n = length-flat_map (λ (p : Holding). p.numbers) ps ∙ s.drawn in
    record { drawn = held; adds_up = omega (arith, s.adds_up); once = λ x. numbers_total _ ps ∙ s.once x }

-- where each sum stays, the account stays
same_account : (budget n : ℕ) (ps qs : List Holding) → IsAccount budget n ps
    → left_of_all qs ≡ left_of_all ps
    → sum_by (λ p. length p.numbers) qs ≡ sum_by (λ p. length p.numbers) ps
    → ((x : ℕ) → sum_by (λ p. times x p.numbers) qs ≡ sum_by (λ p. times x p.numbers) ps)
    → IsAccount budget n qs
same_account budget n ps qs a left held numbers =
    let s = summed budget n ps a in
    put_together budget n qs (record { drawn = held ∙ s.drawn; adds_up = ap (λ k. n + k) left ∙ s.adds_up; once = λ x. numbers x ∙ s.once x })

module _ (budget n : ℕ) (ps : List Holding) (i : ℕ) (p : Holding) (a : IsAccount budget n ps) (at : get_elem? ps i ≡ some p) where
  -- no pass has more draws left than the budget
  pub left_fits : p.left ≤ budget
  left_fits = let s = summed budget n ps a in omega (arith, s.adds_up, total_least (λ q. q.left) ps i p at)

  pub distinct : AreDistinct p.numbers
  distinct x =
      let s = summed budget n ps a in
      let least : times x p.numbers ≤ sum_by (λ q. times x q.numbers) ps = total_least (λ q. times x q.numbers) ps i p at in
      grind (arith, nat_tests, s.once x)

  -- pass i draws the number n
  pub account_draw : 0 < p.left → IsAccount budget (n + 1) (set ps i (after_draw p n))
  account_draw some_left =
      let s = summed budget n ps a in
      let q = after_draw p n in
      let set_of : (f : Holding → ℕ) → sum_by f (set ps i q) + f p ≡ sum_by f ps + f q = λ f. total_set f ps i p q at in
      put_together budget (n + 1) (set ps i q) (record {
        drawn = omega (arith, s.drawn, set_of (λ r. length r.numbers), length-append p.numbers (n ∷ []));
        adds_up = omega (arith, s.adds_up, set_of (λ r. r.left), total_least (λ r. r.left) ps i p at);
        once = λ x.
            let e : sum_by (λ r. times x r.numbers) (set ps i q) ≡ (if nat_lt x n then 1 else 0) + times x (n ∷ []) = omega (arith, s.once x, set_of (λ r. times x r.numbers), sum_by-append (λ y. cond (y == x) 1 0) p.numbers (n ∷ [])) in
            e ∙ grind (arith, nat_tests);
      })

  -- pass i gives draws to a new pass
  pub account_split : (give : ℕ) → give ≤ p.left → IsAccount budget n (set ps i (holding (p.left - give) p.numbers) ++ holding give [] ∷ [])
  account_split give room =
      let kept = holding (p.left - give) p.numbers in
      let given = holding give [] in
      let same : (f : Holding → ℕ) → f kept + f given ≡ f p → sum_by f (set ps i kept ++ given ∷ []) ≡ sum_by f ps =
      λ f e. omega (arith, total_set f ps i p kept at, sum_by_push f (set ps i kept) given, e) in
      same_account budget n ps _ a (same (λ q. q.left) (omega arith)) (same (λ q. length q.numbers) (omega arith)) (λ x. same (λ q. times x q.numbers) (omega arith))

  -- pass i takes in what pass j holds
  pub account_join : (j : ℕ) (q : Holding) → get_elem? (set ps i (both_of p q)) j ≡ some q → IsAccount budget n (set (set ps i (both_of p q)) j (holding 0 []))
  account_join j q there =
      let both = both_of p q in
      let none = holding 0 [] in
      let same : (f : Holding → ℕ) → f both ≡ f p + f q → f none ≡ 0 → sum_by f (set (set ps i both) j none) ≡ sum_by f ps =
      λ f e z. omega (arith, total_set f ps i p both at, total_set f (set ps i both) j q none there, e, z) in
      same_account budget n ps _ a (same (λ r. r.left) refl refl) (same (λ r. length r.numbers) (length-append p.numbers q.numbers) refl) (λ x. same (λ r. times x r.numbers) (sum_by-append (λ y. cond (y == x) 1 0) p.numbers q.numbers) refl)

  -- where pass i has the whole budget, the others have none of it
  pub below_where_whole : length p.numbers + p.left ≡ budget → AreEachOnceBelow p.numbers n
  below_where_whole whole x =
      let s = summed budget n ps a in
      let none = holding 0 [] in
      let rest = set ps i none in
      let set_of : (f : Holding → ℕ) → sum_by f rest + f p ≡ sum_by f ps + f none = λ f. total_set f ps i p none at in
      let fewer : sum_by (λ r. times x r.numbers) rest ≤ sum_by (λ r. length r.numbers) rest = sum_by-le-sum_by (λ r. times x r.numbers) (λ r. length r.numbers) rest (λ r. count_by-le-length (λ y. y == x) r.numbers) in
      let bare : sum_by (λ r. length r.numbers) rest ≡ 0 = omega (arith, s.drawn, s.adds_up, set_of (λ r. length r.numbers), total_least (λ r. r.left) ps i p at) in
      let e : times x p.numbers ≡ sum_by (λ r. times x r.numbers) ps = omega (arith, set_of (λ r. times x r.numbers)) in
      e ∙ s.once x
