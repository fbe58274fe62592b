-- Always on to the least node that is nearer: a least way.
use Rattle.std.proofs.Common.{◌≡◌, ℕ, List, [], ◌∷◌, length, ◌<◌, ◌≤◌, ◌+◌, ◌⊎◌, inl, inr, Option, Some, refl, sym, ap, subst, ◌∙◌, arith}
use Rattle.std.proofs.lemmas.Bool.{cases_lt}
use Rattle.order_facts.specs.Square.{Grid, Joins}
use Rattle.prog_paths.specs.StaticGraph.{IsAtMost}
use Rattle.dep_graph.specs.Ways.{LeadsOn, IsWay, IsLeastWay}
use Rattle.dep_graph.specs.Distances.{distance_at, IsDistanceOfWay, KnowsWithin, StepsNearer, IsLeastNearer}
use Rattle.dep_graph.proofs.Rounds.{least_known}

-- the node that a way of at most so many steps leads to next is that many steps from the end
StepsNearer-next : (edges : Grid) (end rounds : ℕ) (distances : List (Option ℕ)) → KnowsWithin edges end distances rounds → (node steps : ℕ) → distance_at distances node ≡ Some (steps + 1) → (next : ℕ) (rest : List ℕ) → Joins edges node next → LeadsOn (Joins edges) next rest end → length rest ≤ steps → StepsNearer edges distances node steps next
StepsNearer-next edges end rounds distances k node steps at next rest edge leads short =
    let within = (k.right node (steps + 1) at).within in
    let a = k.all next rest leads (omega arith) in
    let few = a.2 in
    let back = k.right next a.0 a.1 in
    let long = least_known edges end rounds distances k node (steps + 1) at (next ∷ back.nodes) (edge, back.leads) in
    let exact = back.long in
    let same : a.0 ≡ steps = omega arith in
    record { edge = edge; near = a.1 ∙ ap Some same }

-- from a node that is not the end some edge leads nearer
pub some_nearer : (edges : Grid) (end rounds : ℕ) (distances : List (Option ℕ)) → KnowsWithin edges end distances rounds → (node steps : ℕ) → distance_at distances node ≡ Some (steps + 1) → (w : ℕ) × StepsNearer edges distances node steps w
some_nearer edges end rounds distances k node steps at = go way.nodes way.long way.leads
  where
    way : IsDistanceOfWay edges end rounds node (steps + 1)
    way = k.right node (steps + 1) at

    go : (nodes : List ℕ) → length nodes ≡ steps + 1 → LeadsOn (Joins edges) node nodes end → (w : ℕ) × StepsNearer edges distances node steps w
    go [] long leads = absurd (omega arith)
    go (next ∷ rest) long leads = (next, StepsNearer-next edges end rounds distances k node steps at next rest leads.0 leads.1 (omega arith))

-- the end itself is a least way to the end
pub IsLeastWay-end : (edges : Grid) (end rounds : ℕ) (distances : List (Option ℕ)) → KnowsWithin edges end distances rounds → (node : ℕ) → distance_at distances node ≡ Some 0 → IsLeastWay (Joins edges) node end (node ∷ [])
IsLeastWay-end edges end rounds distances k node at = record {
  way = (refl, same way.nodes way.long way.leads);
  shortest = shortest;
  least = least;
}
  where
    way : IsDistanceOfWay edges end rounds node 0
    way = k.right node 0 at

    same : (nodes : List ℕ) → length nodes ≡ 0 → LeadsOn (Joins edges) node nodes end → node ≡ end
    same [] long leads = leads
    same (next ∷ rest) long leads = absurd (omega arith)

    shortest : (others : List ℕ) → IsWay (Joins edges) node end others → length (node ∷ []) ≤ length others
    shortest [] w = absurd w
    shortest (b ∷ bs) w = omega arith

    least : (others : List ℕ) → IsWay (Joins edges) node end others → length others ≡ length (node ∷ []) → IsAtMost (node ∷ []) others
    least [] w e = absurd w
    least (b ∷ bs) w e = inr (sym w.0, tt)

-- a least way from the least nearer node, with the node before it, is a least way
pub IsLeastWay-onward : (edges : Grid) (end rounds : ℕ) (distances : List (Option ℕ)) → KnowsWithin edges end distances rounds → (node steps next : ℕ) → distance_at distances node ≡ Some (steps + 1) → IsLeastNearer edges distances node steps next → (rest : List ℕ) → IsLeastWay (Joins edges) next end (next ∷ rest) → IsLeastWay (Joins edges) node end (node ∷ next ∷ rest)
IsLeastWay-onward edges end rounds distances k node steps next at near rest l = record {
  way = (refl, (near.nearer.edge, l.way.1));
  shortest = shortest;
  least = least;
}
  where
    short : length rest ≤ steps
    short =
        let way = k.right next steps near.nearer.near in
        let s = l.shortest (next ∷ way.nodes) (refl, way.leads) in
        let exact = way.long in
        omega arith

    shortest : (others : List ℕ) → IsWay (Joins edges) node end others → length (node ∷ next ∷ rest) ≤ length others
    shortest [] w = absurd w
    shortest (b ∷ bs) w =
        let long = least_known edges end rounds distances k node (steps + 1) at bs (subst (λ n. LeadsOn (Joins edges) n bs end) w.0 w.1) in
        let few : length rest ≤ steps = short in
        omega arith

    after : (w : ℕ) (ws : List ℕ) → StepsNearer edges distances node steps w → LeadsOn (Joins edges) w ws end → length ws ≡ length rest → IsAtMost (next ∷ rest) (w ∷ ws)
    after w ws n leads e = go (cases_lt next w)
      where
        go : (next < w) ⊎ (w ≤ next) → IsAtMost (next ∷ rest) (w ∷ ws)
        go (inl i) = inl i
        go (inr i) =
            let first = near.least w n in
            l.least (w ∷ ws) (omega arith, leads) (omega arith)

    least : (others : List ℕ) → IsWay (Joins edges) node end others → length others ≡ length (node ∷ next ∷ rest) → IsAtMost (node ∷ next ∷ rest) others
    least [] w e = absurd w
    least (b ∷ []) w e = absurd (omega arith)
    least (b ∷ w ∷ ws) way e =
        let edge : Joins edges node w = subst (λ n. Joins edges n w) way.0 way.1.0 in
        let few : length rest ≤ steps = short in
        let n = StepsNearer-next edges end rounds distances k node steps at w ws edge way.1.1 (omega arith) in
        inr (sym way.0, after w ws n way.1.1 (omega arith))
