-- Counts of what passes a test, as far as a u64 can tell.
use Rattle.std.proofs.Common.{◌≡◌, ◌↔◌, ℕ, ◌<◌, min, Bool, List, length, arith, nat_lt, ◌==◌}
use Rattle.std.specs.Prelude.{IsTrue}
use Rattle.std.proofs.lemmas.Bool.Decides.{Decides-eqb, Decides-ltb}
use Rattle.std.specs.List.{count_by}
use Rattle.std.proofs.lemmas.List.Sums.{count_by-le-length}
use Rattle.si_workers.specs.Tally.{most}

-- two counts, of which one is of so few, are the same where they are told the same
pub same_counts : {X : Type 0} (p : X → Bool) (xs : List X) (n kept told : ℕ) → length xs < most → kept ≡ min (count_by p xs) most → told ≡ min n most → (kept ≡ told) ↔ (count_by p xs ≡ n)
same_counts p xs n kept told few e f =
    let k = count_by-le-length p xs in (λ same. omega arith, λ same. omega arith)

-- the same by tests
pub same_told : {X : Type 0} (p : X → Bool) (xs : List X) (n kept told : ℕ) → length xs < most → kept ≡ min (count_by p xs) most → told ≡ min n most → IsTrue (kept == told) ↔ (count_by p xs ≡ n)
same_told p xs n kept told few e f =
    let d = Decides-eqb kept told in
    let k = same_counts p xs n kept told few e f in
    (λ t. k.0 (d.0 t), λ s. d.1 (k.1 s))

pub positive_told : (n count : ℕ) → count ≡ min n most → IsTrue (nat_lt 0 count) ↔ (0 < n)
positive_told n count e =
    let d = Decides-ltb 0 count in
    (λ t. let k = d.0 t in omega arith, λ s. d.1 (omega arith))

-- a count is 1 where it is told as 1
pub one_told : (n count : ℕ) → count ≡ min n most → IsTrue (count == 1) ↔ (n ≡ 1)
one_told n count e =
    let d = Decides-eqb count 1 in
    (λ t. let k = d.0 t in omega arith, λ s. d.1 (omega arith))
