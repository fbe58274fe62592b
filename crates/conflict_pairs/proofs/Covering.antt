-- Chains of a cover, pair by pair.
use Rattle.std.proofs.Common.{◌≡◌, ◌≤◌, ◌+◌, List, [], ◌∷◌, ◌++◌, length, sym, subst, ap, ◌∙◌, arith}
use Rattle.std.specs.Prelude.{All}
use Rattle.std.proofs.lemmas.List.Elements.{All-push}
use Rattle.order_facts.specs.declared.steps.Node.{Node}
use Rattle.order_facts.specs.declared.steps.Fact.{Fact}
use Rattle.order_facts.specs.Chain.{IsChain, RunsBetween}
use Rattle.prog_check.specs.declared.path.Term.{Term}
use Rattle.prog_paths.specs.Facts.{mine_node, their_node}
use Rattle.prog_paths.specs.Shown.{Runs, ShowEqual}
use Rattle.conflict_pairs.specs.Verdicts.{IsShortest}

-- one more pair, and two more chains
pub ShowEqual-push : (facts : List Fact) (pairs : List (Term × Term)) (chains : List (List Node)) (p : Term × Term) (there back : List Node) → Runs facts (mine_node p.0) (their_node p.1) there → Runs facts (their_node p.1) (mine_node p.0) back → ShowEqual facts pairs chains → ShowEqual facts (pairs ++ p ∷ []) ((chains ++ there ∷ []) ++ back ∷ [])
ShowEqual-push facts [] [] p there back r s h = (r, s, tt)
ShowEqual-push facts [] (a ∷ rest) p there back r s h = absurd h
ShowEqual-push facts (q ∷ qs) [] p there back r s h = absurd h
ShowEqual-push facts (q ∷ qs) (a ∷ []) p there back r s h = absurd h
ShowEqual-push facts (q ∷ qs) (a ∷ b ∷ chains) p there back r s h = (h.0, h.1, ShowEqual-push facts qs chains p there back r s h.2)

-- the same of three lists of chains, each with one more than the last
pub ShowEqual-two : (facts : List Fact) (old mid new : List (List Node)) (p : Term × Term) (from to : Node) (there back : List Node) → from ≡ mine_node p.0 → to ≡ their_node p.1 → mid ≡ old ++ there ∷ [] → new ≡ mid ++ back ∷ [] → Runs facts from to there → Runs facts to from back → (pairs : List (Term × Term)) → ShowEqual facts pairs old → ShowEqual facts (pairs ++ p ∷ []) new
ShowEqual-two facts old mid new p from to there back is_from is_to first second r s pairs h =
    let run = subst (λ (n : Node). Runs facts n (their_node p.1) there) is_from (subst (λ (n : Node). Runs facts from n there) is_to r) in
    let turn = subst (λ (n : Node). Runs facts n (mine_node p.0) back) is_to (subst (λ (n : Node). Runs facts to n back) is_from s) in
    subst (λ (c : List (List Node)). ShowEqual facts (pairs ++ p ∷ []) c) (sym (second ∙ ap (λ (c : List (List Node)). c ++ back ∷ []) first)) (ShowEqual-push facts pairs old p there back run turn h)

-- ---- chains with the fewest nodes

pub IsShortest-from_fewest : (facts : List Fact) (from to : Node) (chain : List Node) → RunsBetween from to chain → ((other : List Node) → IsChain facts other → RunsBetween from to other → length chain ≤ length other) → IsShortest facts chain
IsShortest-from_fewest facts from to [] r fewest x y other s o = absurd r
IsShortest-from_fewest facts from to (a ∷ rest) r fewest x y other s o =
    let first = sym s.0 ∙ r.0 in
    let last = sym s.1 ∙ r.1 in
    fewest other o.0 (subst (λ (n : Node). RunsBetween n to other) first (subst (λ (n : Node). RunsBetween x n other) last o.1))

-- no chain between two nodes that are not one has fewer than two
pub two-fewest : (from to : Node) → (from ≡ to → ⊥) → (other : List Node) → RunsBetween from to other → 2 ≤ length other
two-fewest from to apart [] r = absurd r
two-fewest from to apart (a ∷ []) r = absurd (apart (sym r.0 ∙ r.1))
two-fewest from to apart (a ∷ b ∷ rest) r = omega arith

-- two more chains
pub shortest-two : (facts : List Fact) (old mid new : List (List Node)) (there back : List Node) → mid ≡ old ++ there ∷ [] → new ≡ mid ++ back ∷ [] → IsShortest facts there → IsShortest facts back → All (IsShortest facts) old → All (IsShortest facts) new
shortest-two facts old mid new there back first second s t h =
    subst (λ (c : List (List Node)). All (IsShortest facts) c) (sym second)
    (All-push (IsShortest facts) mid back (subst (λ (c : List (List Node)). All (IsShortest facts) c) (sym first) (All-push (IsShortest facts) old there h s)) t)
