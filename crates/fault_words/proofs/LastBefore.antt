-- The last place that passes a test, one place further to the front.
use Rattle.std.proofs.Common.{◌≡◌, ◌<◌, ◌-◌, ℕ, zero, suc, Bool, true, false, Some, refl, arith}
use Rattle.fault_words.specs.Blocks.{last_before}

pub passes_at : (test : ℕ → Bool) (place : ℕ) → 0 < place → test (place - 1) ≡ true → last_before test place ≡ Some (place - 1)
passes_at test zero front passes = absurd (omega (arith, front))
passes_at test (suc place) front passes =
    let back : suc place - 1 ≡ place = omega arith in rw back (rw (rw back at passes) refl)

pub fails_at : (test : ℕ → Bool) (place : ℕ) → 0 < place → test (place - 1) ≡ false → last_before test place ≡ last_before test (place - 1)
fails_at test zero front fails = absurd (omega (arith, front))
fails_at test (suc place) front fails =
    let back : suc place - 1 ≡ place = omega arith in rw back (rw (rw back at fails) refl)
