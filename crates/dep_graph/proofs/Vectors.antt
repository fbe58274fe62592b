-- Worked examples of the definitions, told by hand.
use Rattle.std.proofs.Common.{◌≡◌, ℕ, Bool, true, false, ◌&&◌, ◌||◌, [], ◌∷◌, inl, inr, refl, arith}
use Rattle.std.specs.Prelude.{◌==◌}
use Rattle.prog_paths.specs.StaticGraph.{IsAtMost}
use Rattle.dep_graph.specs.Ways.{IsWay}
use Rattle.dep_graph.specs.Counting.{IsCountOf, none, counted, passed}
use Rattle.dep_graph.proofs.Closing.{leads_through}

-- 0 to 4 to 2 stands before 0 to 5 to 1
before : IsAtMost (0 ∷ 4 ∷ 2 ∷ []) (0 ∷ 5 ∷ 1 ∷ [])
before = inr (refl, inl (omega arith))

-- one of the numbers below two is 0
one_of_two : IsCountOf (λ k. k ≡ 0) 2 1
one_of_two = passed (λ e. absurd (omega arith)) (counted refl none)

-- edges from 0 to 1 and from 1 to 2
two_edges : ℕ → ℕ → Bool
two_edges x y = (x == 0 && y == 1) || (x == 1 && y == 2)

-- 0 leads to 2 through the nodes below 2, and not through those below 1
by_way_of_1 : leads_through two_edges 2 0 2 ≡ true
unfolding leads_through two_edges
by_way_of_1 = refl

not_by_0 : leads_through two_edges 1 0 2 ≡ false
unfolding leads_through two_edges
not_by_0 = refl

-- a way of one node leads from it to itself
stays : IsWay (λ x y. two_edges x y ≡ true) 3 3 (3 ∷ [])
stays = (refl, refl)
