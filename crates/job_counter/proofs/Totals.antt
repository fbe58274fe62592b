-- What all passes hold together, where one of them changes or one is added.
use Rattle.std.proofs.Common.{◌≡◌, ℕ, zero, suc, ◌+◌, ◌<◌, ◌≤◌, List, [], ◌∷◌, length, get_or, set, refl, sym, ap, arith}
use Rattle.std.specs.Prelude.{sum_by, Contains}
use Rattle.std.proofs.lemmas.List.Sums.{sum_by-cons, sum_by-append, sum_by-set, get_or-le-sum_by}
use Rattle.std.proofs.lemmas.List.Elements.{Contains-get_or}
use mathlib.Core.Option.{some, some-ne-none, some-injective}
use lib.ListN.{get_elem?}
use Rattle.atomic_table.proofs.Lists.{set_here}
use Rattle.job_counter.specs.declared.holding.Holding.{Holding}
use Rattle.job_counter.specs.Holdings.{numbers_of_all}

-- a look-up, in the words of std's lemmas
index_at : (ps : List Holding) (i : ℕ) (p : Holding) → get_elem? ps i ≡ some p → (i < length ps) × (get_or ps i p ≡ p)
index_at [] i p at = absurd (some-ne-none p (sym at))
index_at (q ∷ ps) zero p at = (omega arith, some-injective q p at)
index_at (q ∷ ps) (suc i) p at = let rest = index_at ps i p at in (omega (arith, rest.0), rest.1)

pub contains_at : (ps : List Holding) (i : ℕ) (p : Holding) → get_elem? ps i ≡ some p → Contains ps p
contains_at ps i p at = let h = index_at ps i p at in rw h.1 at (Contains-get_or ps i p h.0)

pub get_set : (ps : List Holding) (i : ℕ) (p q : Holding) → get_elem? ps i ≡ some p → get_elem? (set ps i q) i ≡ some q
get_set ps i p q at = set_here ps i q (index_at ps i p at).0

-- f of all passes, where pass i changes from p to q
pub total_set : (f : Holding → ℕ) (ps : List Holding) (i : ℕ) (p q : Holding) → get_elem? ps i ≡ some p → sum_by f (set ps i q) + f p ≡ sum_by f ps + f q
total_set f ps i p q at = let h = index_at ps i p at in omega (arith, sum_by-set f ps i q p h.0, ap f h.1)

-- one pass has at most what all have
pub total_least : (f : Holding → ℕ) (ps : List Holding) (i : ℕ) (p : Holding) → get_elem? ps i ≡ some p → f p ≤ sum_by f ps
total_least f ps i p at = let h = index_at ps i p at in omega (arith, get_or-le-sum_by f ps i p h.0, ap f h.1)

-- the numbers that all hold, weighed by h, pass by pass
pub numbers_total : (h : ℕ → ℕ) (ps : List Holding) → sum_by h (numbers_of_all ps) ≡ sum_by (λ p. sum_by h p.numbers) ps
numbers_total h [] = refl
numbers_total h (p ∷ ps) = omega (arith, sum_by-append h p.numbers (numbers_of_all ps), numbers_total h ps, sum_by-cons (λ (q : Holding). sum_by h q.numbers) p ps)
