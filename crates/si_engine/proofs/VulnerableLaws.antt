-- A read-write dependency between concurrent instances is a vulnerable edge.
use Rattle.std.proofs.Common.{◌≡◌, ◌≢◌, ℕ, List, inl, inr, sym, subst, ◌∙◌, arith}
use Rattle.std.specs.Prelude.{Some, slice_get}
use Rattle.std.proofs.lemmas.Option.{slice_get_within, get_or_from_slice_get, same_Some}
use Rattle.prog_tree.specs.declared.cell.Cell.{Cell}
use Rattle.prog_tree.specs.Syntax.{DraftTree}
use Rattle.prog_tree.specs.Table.{TableState}
use Rattle.prog_check.specs.declared.path.Access.{Access}
use Rattle.prog_check.specs.declared.path.Path.{Path}
use Rattle.prog_check.specs.Paths.{paths_of}
use Rattle.prog_paths.specs.Meeting.{Assignment, IsTime, cell_under, MayCover, AreSameCell, MeetAsOwn}
use Rattle.prog_paths.specs.Own.{AreOwn}
use Rattle.prog_paths.specs.StaticGraph.{IsAccessOf, IsCovered, IsExposed, IsVulnerable, AsksReadWrite}
use Rattle.prog_tree.proofs.Elements.{contains_at}
use Rattle.prog_paths.proofs.Own.{law_of_own_unknowns, law_of_covers}
use Rattle.history_book.specs.Dependencies.{start_at}
use Rattle.history_book.specs.History.{Instance}
use Rattle.history_book.proofs.DependencyLaws.{Looks, Changes, DependsOn}
use Rattle.serial_orders.proofs.DependencyRelations.{ReadWriteBy}
use Rattle.si_engine.specs.Robustness.{HasCommitted, AreConcurrent, IsHistory, FollowsNode, LawOfVulnerableEdges}
use Rattle.si_engine.proofs.EdgeLaws.{asked_read_write}
use Rattle.si_engine.proofs.AccessLaws.{TouchesAt, Holds, none_shared, meets, asked_with}
use Rattle.si_engine.proofs.MissedLaws.{depends_on, misses_depends, sees_overwritten}

-- accesses that are the same single cell have one cell
same_cell : (v w : Assignment) (a b : Access) → AreSameCell v a w b → cell_under v a ≡ cell_under w b
same_cell v w a b s =
    let t = s.table in let f = s.first in let g = s.second in λ i. record { table = t i; first = f i; second = g i }

module _ (set : DraftTree) (opening : TableState) (h : List Instance) (is : IsHistory set opening h) where
  -- an access of a node is one of the path that the instance follows
  on_path : (i : ℕ) (f : FollowsNode set opening h i) (n : ℕ) (a : Access) → IsAccessOf (paths_of set) f.node n a →
      slice_get f.path.accesses n ≡ Some a
  on_path i f n a at =
      subst (λ (p : Path). slice_get p.accesses n ≡ Some a) (same_Some at.0 f.path (sym at.1 ∙ f.path_at)) at.2

  own_unknowns : (i : ℕ) (f : FollowsNode set opening h i) → AreOwn f.path.accesses
  own_unknowns i f =
      subst (λ (p : Path). AreOwn p.accesses) (get_or_from_slice_get (paths_of set) f.node f.path f.path f.path_at)
      (law_of_own_unknowns set f.node f.path (slice_get_within (paths_of set) f.node f.path f.path_at))

  -- an access that covers has one cell at all times of another access, and the instance touches that cell
  touches_cover : (i : ℕ) (f : FollowsNode set opening h i) (c : Cell) (t : Holds set opening h is i f c)
      (time : Assignment) → IsTime t.access f.v time → (n : ℕ) (a : Access) → IsAccessOf (paths_of set) f.node n a →
      MayCover a → TouchesAt set opening h is i (cell_under time a)
  touches_cover i f c t time at_time n a at covers =
      subst (λ (x : Cell). TouchesAt set opening h is i x) (sym same) (f.follows.touched n a here covers)
    where
      here : slice_get f.path.accesses n ≡ Some a
      here = on_path i f n a at

      same : cell_under time a ≡ cell_under f.v a
      same =
          law_of_covers f.path.accesses (own_unknowns i f) t.access a (contains_at f.path.accesses t.number t.access t.at)
          (contains_at f.path.accesses n a here) covers f.v time at_time

  module _ (i j : ℕ) (one : HasCommitted h i) (other : HasCommitted h j) (differ : i ≢ j) (both : AreConcurrent h i j) where
    -- of two concurrent instances one depends on the other by a look alone
    by_look : DependsOn set opening h i j →
        ReadWriteBy Cell (start_at h) (Looks set opening h) (Changes set opening h) i j
    by_look (inr (inr w)) = w
    by_look (inr (inl w)) = let s = w.seen in let u = both.1 in absurd (omega arith)
    by_look (inl w) = absurd (sees_overwritten set opening h is.lawful i j one other both.1 w)

    module _ (f : FollowsNode set opening h i) (g : FollowsNode set opening h j) where
      -- where two accesses meet at some times, no cover has one cell at these
      not_covered : (c : Cell) (t : Holds set opening h is i f c) (s : Holds set opening h is j g c) →
          MeetAsOwn f.v g.v t.access s.access → IsCovered (paths_of set) f.node g.node t.access s.access → ⊥
      not_covered c t s meet cover =
          let same = same_cell meet.0 meet.1 cover.of_first cover.of_second (cover.same meet.0 meet.1 meet.4) in
          let mine = touches_cover i f c t meet.0 meet.2 cover.first cover.of_first cover.at_first cover.first_covers in
          let theirs =
          touches_cover j g c s meet.1 meet.3 cover.second cover.of_second cover.at_second cover.second_covers in
          none_shared set opening h is i j (cell_under meet.0 cover.of_first) one other differ both mine
          (subst (λ (x : Cell). TouchesAt set opening h is j x) (sym same) theirs)

      pub vulnerable_of : ReadWriteBy Cell (start_at h) (Looks set opening h) (Changes set opening h) i j →
          IsVulnerable (paths_of set) f.node g.node
      vulnerable_of w =
          let q = asked_read_write set opening h is i j one other f g w in
          let meet = meets set opening h is i j f g q.0 q.1 q.2 in
          asked_with set opening h is i j f g q.0 q.1 q.2 (λ _. AsksReadWrite) (IsExposed (paths_of set)) q.3
          ((meet.0, meet.1, meet.4), not_covered q.0 q.1 q.2 meet)

pub law_of_vulnerable_edges : LawOfVulnerableEdges
law_of_vulnerable_edges set opening h is i j one other differ both test mine theirs =
    let d = depends_on set opening h is.lawful i j other (misses_depends set opening h i j differ test) in
    vulnerable_of set opening h is i j one other differ both mine theirs
    (by_look set opening h is i j one other differ both d)
