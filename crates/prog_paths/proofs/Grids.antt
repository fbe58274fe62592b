-- What a square table joins that joins just those nodes of which a test is true.
use Rattle.std.proofs.Common.{◌≡◌, ℕ, ◌<◌, Bool, true, sym, ◌∙◌, arith}
use Rattle.order_facts.specs.Square.{Grid, Joins, IsSquareOf}

module _ (s : Grid) (size : ℕ) (test : ℕ → ℕ → Bool) (is : IsSquareOf s size test) where
  pub test-from_joined : (x y : ℕ) → Joins s x y → test x y ≡ true
  test-from_joined x y j =
      let same = is.size_is in
      sym (is.entries x y (omega (arith, same, j.from_inside)) (omega (arith, same, j.to_inside))) ∙ j.joined

  pub joined-from_test : (x y : ℕ) → x < size → y < size → test x y ≡ true → Joins s x y
  joined-from_test x y from to h =
      let same = is.size_is in
      record { from_inside = omega (arith, same, from); to_inside = omega (arith, same, to); joined = is.entries x y from to ∙ h }
