-- Each step on the counter's word keeps its rule.
use Rattle.std.proofs.Common.{◌≡◌, ℕ, ◌+◌, ◌-◌, ◌<◌, ◌≤◌, ◌%◌, ◌^◌, List, [], ◌∷◌, length, set, refl, sym, ap, ◌∙◌, subst, arith}
use Rattle.std.specs.Prelude.{slice_set, slice_index}
use mathlib.Core.Option.{some, some-injective}
use lib.ListN.{get_elem?}
use Rattle.atomic_table.specs.Table.{State, keeps, Allows, Splits, Joins}
use Rattle.atomic_table.proofs.Lists.{set_again}
use Rattle.job_counter.specs.declared.holding.Holding.{Holding}
use Rattle.job_counter.specs.Holdings.{AreEachOnceBelow, AreDistinct, IsAccount, IsInAccount, IsCounterRule, holding, after_draw, both_of}
use Rattle.job_counter.proofs.Totals.{contains_at, get_set}
use Rattle.job_counter.proofs.Accounts.{left_fits, distinct, account_draw, account_split, account_join, below_where_whole}

module _ (budget i : ℕ) (p : Holding) where
  abbrev Rule : State ℕ Holding → Type 0
  Rule s = IsCounterRule budget s.words s.views

  pub draws : (slots most : ℕ) (c : List (ℕ × ℕ)) → most ≡ budget → 0 < p.left
      → Allows Rule slots i (p, c) 0 (λ n. (n + 1) % 2 ^ 64) (λ n after. (after ≡ (after_draw p n, c)) × AreDistinct after.0.numbers × (n < most))
  draws slots most c whole some_left s rule len at small =
      let n = rule.count in
      let drawn = account_draw budget n s.views i p rule.account at some_left in
      let next : (n + 1) % 2 ^ 64 ≡ n + 1 = omega (arith, rule.fits, drawn.adds_up, drawn.drawn) in
      let P : List ℕ → Type 0 = λ ws. IsCounterRule budget (slice_set ws 0 ((slice_index ws 0 + 1) % 2 ^ 64)) (set s.views i (after_draw p (slice_index ws 0))) in
      let Q : List ℕ → Type 0 = λ ws. AreDistinct (after_draw p (slice_index ws 0)).numbers × (slice_index ws 0 < most) in
      let below : n < most = omega (arith, whole, drawn.adds_up, drawn.drawn) in
      let told = subst Q (sym rule.word) (distinct budget (n + 1) _ i (after_draw p n) drawn (get_set s.views i p (after_draw p n) at), below) in (
        after_draw p (slice_index s.words 0),
        keeps,
        tt,
        subst P (sym rule.word) (record { fits = rule.fits; count = n + 1; word = ap (λ (k : ℕ). k ∷ []) next; account = drawn }),
        (refl, told.0, told.1),
      )

  pub looks : (slots : ℕ) (c : List (ℕ × ℕ)) → Allows Rule slots i (p, c) 0 (λ n. n) (λ n after. (after ≡ (p, c)) × (after.0.left < 2 ^ 64) × AreDistinct after.0.numbers)
  looks slots c s rule len at small =
      let P : List ℕ → Type 0 = λ ws. IsCounterRule budget (slice_set ws 0 (slice_index ws 0)) s.views in (
        p,
        keeps,
        tt,
        rw (set_again s.views i p at) (subst P (sym rule.word) (record { fits = rule.fits; count = rule.count; word = refl; account = rule.account })),
        (refl, omega (arith, rule.fits, left_fits budget rule.count s.views i p rule.account at), distinct budget rule.count s.views i p rule.account at),
      )

  pub splits : (give : ℕ) → give ≤ p.left → Splits Rule i p (holding (p.left - give) p.numbers) (holding give [])
  splits give room s rule at = record { fits = rule.fits; count = rule.count; word = rule.word; account = account_split budget rule.count s.views i p rule.account at give room }

  pub joins : (j : ℕ) (q : Holding) → Joins Rule i p j q (both_of p q) (holding 0 [])
  joins j q s rule at ne there = record { fits = rule.fits; count = rule.count; word = rule.word; account = account_join budget rule.count s.views i p rule.account at j q there }

  -- the last state, in which pass i is one of all, as `close` finds it
  pub count_closed : (s : State ℕ Holding) (ws : List ℕ) (n : ℕ) (rule : Rule s) → s.words ≡ ws → get_elem? ws 0 ≡ some n → rule.count ≡ n
  count_closed s ws n rule words found =
      let here : rule.count ∷ [] ≡ ws = sym rule.word ∙ words in
      some-injective rule.count n (ap (λ (l : List ℕ). get_elem? l 0) here ∙ found)

  pub closes : (s : State ℕ Holding) (ws : List ℕ) (n : ℕ) → Rule s → get_elem? s.views i ≡ some p → s.words ≡ ws → get_elem? ws 0 ≡ some n
      → IsInAccount budget n p
  closes s ws n rule at words found = (s.views, subst (λ k. IsAccount budget k s.views) (count_closed s ws n rule words found) rule.account, contains_at s.views i p at)

  pub closes_whole : (s : State ℕ Holding) (ws : List ℕ) (n : ℕ) → Rule s → get_elem? s.views i ≡ some p → s.words ≡ ws → get_elem? ws 0 ≡ some n
      → length p.numbers + p.left ≡ budget → AreEachOnceBelow p.numbers n
  closes_whole s ws n rule at words found whole =
      let account = subst (λ k. IsAccount budget k s.views) (count_closed s ws n rule words found) rule.account in
      below_where_whole budget n s.views i p account at whole
