-- The graph's answers, in the words of the definitions on paths.
use Rattle.std.proofs.Common.{◌≡◌, ◌↔◌, ℕ, ◌<◌, List, length, Bool, true, sym, subst, ◌∙◌, arith}
use Rattle.std.specs.Prelude.{IsTrue}
use Rattle.prog_check.specs.declared.path.Path.{Path}
use Rattle.prog_paths.specs.StaticGraph.{StaticEdge, IsVulnerable, Leads, IsDangerousAt, IsDangerous}
use Rattle.order_facts.specs.Square.{Grid, entry, Joins}
use Rattle.dep_graph.specs.declared.triple.Triple.{Triple}
use Rattle.dep_graph.specs.declared.danger.Danger.{Danger}
use Rattle.dep_graph.specs.Counting.{IsCountOf}
use Rattle.dep_graph.specs.Triple.{ClosesAt, IsLeastTriple}
use Rattle.dep_graph.specs.Ways.{IsLeastWay}
use Rattle.dep_graph.specs.Edges.{IsTableOf, IsGraphOf}
use Rattle.dep_graph.specs.Danger.{IsLeastExposed, IsLeastDanger}
use Rattle.dep_graph.proofs.Counts.{IsCountOf-same}
use Rattle.dep_graph.proofs.Alike.{IsWithin, Leads-within, IsLeastWay-alike}

-- an entry of a table says whether two of its nodes are related
module _ (s : Grid) (nodes : ℕ) (related : ℕ → ℕ → Type 0) (is : IsTableOf s nodes related) where
  entry-right : (x y : ℕ) → x < nodes → y < nodes → (r : Bool) → r ≡ entry s x y → IsTrue r ↔ related x y
  entry-right x y p q r e =
      let size = is.size_is in
      (λ h. (is.joins x y).0 (record { from_inside = omega arith; to_inside = omega arith; joined = sym e ∙ h }), λ h. e ∙ ((is.joins x y).1 h).joined)

module _ (paths : List Path) (edges vulnerable reach : Grid) (k : IsGraphOf paths edges vulnerable reach) where
  pub edge-right : (x y : ℕ) → x < length paths → y < length paths → (r : Bool) → r ≡ entry edges x y → IsTrue r ↔ StaticEdge paths x y
  edge-right = entry-right edges (length paths) (StaticEdge paths) k.edges_are

  pub vulnerable-right : (x y : ℕ) → x < length paths → y < length paths → (r : Bool) → r ≡ entry vulnerable x y → IsTrue r ↔ IsVulnerable paths x y
  vulnerable-right = entry-right vulnerable (length paths) (IsVulnerable paths) k.vulnerable_are

  static-joined : IsWithin (Joins edges) (StaticEdge paths)
  static-joined x y = (k.edges_are.joins x y).0

  joined-static : IsWithin (StaticEdge paths) (Joins edges)
  joined-static x y = (k.edges_are.joins x y).1

  -- what the table of reaching joins, edges lead to
  reach-joined : (x y : ℕ) → x < length paths → y < length paths → (entry reach x y ≡ true) ↔ Leads (StaticEdge paths) x y
  reach-joined x y p q =
      let size = k.edges_are.size_is in
      let walks = k.reach_is.walks x y (omega arith) (omega arith) in
      (λ e. Leads-within _ _ static-joined x y (walks.0 e), λ w. walks.1 (Leads-within _ _ joined-static x y w))

  pub reaches-right : (x y : ℕ) → x < length paths → y < length paths → (r : Bool) → r ≡ entry reach x y → IsTrue r ↔ Leads (StaticEdge paths) x y
  reaches-right x y p q r e = let walks = reach-joined x y p q in (λ h. walks.0 (sym e ∙ h), λ w. e ∙ walks.1 w)

  pub level-right : (x count : ℕ) → x < length paths → IsCountOf (λ u. entry reach u x ≡ true) reach.size count → IsCountOf (λ u. Leads (StaticEdge paths) u x) (length paths) count
  level-right x count inside c =
      IsCountOf-same (λ u. entry reach u x ≡ true) (λ u. Leads (StaticEdge paths) u x) (length paths) count (λ u l. reach-joined u x l inside)
      (subst (λ n. IsCountOf (λ u. entry reach u x ≡ true) n count) (k.reach_is.size ∙ k.edges_are.size_is) c)

  dangerous-right : (x y z : ℕ) → ClosesAt vulnerable reach x y z → IsDangerousAt (StaticEdge paths) (IsVulnerable paths) x y z
  dangerous-right x y z c = record {
    first = (k.vulnerable_are.joins x y).0 c.first;
    second = (k.vulnerable_are.joins y z).0 c.second;
    back =
        let size = k.vulnerable_are.size_is in
        let a = c.first.from_inside in
        let b = c.second.to_inside in
        (reach-joined z x (omega arith) (omega arith)).0 c.back.joined;
  }

  closes-right : (x y z : ℕ) → IsDangerousAt (StaticEdge paths) (IsVulnerable paths) x y z → ClosesAt vulnerable reach x y z
  closes-right x y z d =
      let first = (k.vulnerable_are.joins x y).1 d.first in
      let second = (k.vulnerable_are.joins y z).1 d.second in
      let a = first.from_inside in
      let b = second.to_inside in
      let of_edges = k.edges_are.size_is in
      let of_vulnerable = k.vulnerable_are.size_is in
      let of_reach = k.reach_is.size in
      record {
        first = first;
        second = second;
        back = record {
          from_inside = omega arith;
          to_inside = omega arith;
          joined = (reach-joined z x (omega arith) (omega arith)).1 d.back;
        };
      }

  pub none-right : ((x y z : ℕ) → ClosesAt vulnerable reach x y z → ⊥) → IsDangerous paths → ⊥
  none-right none d = none d.0 d.1 d.2 (closes-right d.0 d.1 d.2 d.3)

  pub danger-right : (d : Danger) (triple : Triple) → d.x ≡ triple.x → d.y ≡ triple.y → d.z ≡ triple.z → IsLeastTriple vulnerable reach triple → IsLeastExposed paths d.x d.y d.first → IsLeastExposed paths d.y d.z d.second → IsLeastWay (Joins edges) d.z d.x d.back → IsLeastDanger paths d
  danger-right d triple x y z l first second back = record {
    dangerous = dangerous-right d.x d.y d.z (rw (x, y, z) l.closes);
    least = λ a b c h. rw (x, y, z) (l.least a b c (closes-right a b c h));
    first = first;
    second = second;
    back = IsLeastWay-alike (Joins edges) (StaticEdge paths) static-joined joined-static d.z d.x d.back back;
  }

-- what holds of two nodes of the paths within holds of the paths that are seen
pub seen_at : (own seen : List Path) (P : List Path → Type 0) (x y : ℕ) → own ≡ seen → x < length seen → y < length seen → (x < length own → y < length own → P own) → P seen
seen_at own seen P x y is p q right =
    subst P is (right (subst (λ (l : List Path). x < length l) (sym is) p) (subst (λ (l : List Path). y < length l) (sym is) q))
