-- Each dependency of a lawful history has a question of its static edge, and a read-write dependency between concurrent
-- instances is a vulnerable edge.
use Rattle.std.proofs.Common.{ℕ, List, ◌⊎◌, inl, inr, ap, arith}
use Rattle.std.specs.Prelude.{is_some}
use Rattle.prog_tree.specs.declared.cell.Cell.{Cell}
use Rattle.prog_tree.specs.Syntax.{DraftTree}
use Rattle.prog_tree.specs.Table.{TableState}
use Rattle.prog_check.specs.Paths.{paths_of}
use Rattle.prog_paths.specs.StaticGraph.{QuestionNumbers, AsksReadWrite, AsksWriteRead, AsksWriteWrite, IsInOrder}
use Rattle.prog_paths.proofs.Turned.{turned, in_order-or_turned}
use Rattle.history_book.specs.Dependencies.{start_at}
use Rattle.history_book.specs.History.{Instance}
use Rattle.history_book.proofs.DependencyLaws.{Looks, Changes, DependsOn}
use Rattle.serial_orders.proofs.DependencyRelations.{WriteWriteBy, WriteReadBy, ReadWriteBy}
use Rattle.si_engine.specs.Robustness.{Grows, HasCommitted, IsHistory, FollowsNode, EdgeUnder, LawOfStaticEdges}
use Rattle.si_engine.proofs.GrowLaws.{Has, ChangesAt}
use Rattle.si_engine.proofs.InsertLaws.{law_of_inserts, law_of_single_inserts}
use Rattle.si_engine.proofs.AccessLaws.{HoldsLook, HoldsChange, Holds, looked, changed_in, grow_at, plain_at, question_of, asked}
use Rattle.si_engine.proofs.MissedLaws.{depends_on, starts}

module _ (set : DraftTree) (opening : TableState) (h : List Instance) (is : IsHistory set opening h) where
  module _ (i j : ℕ) (one : HasCommitted h i) (other : HasCommitted h j) (f : FollowsNode set opening h i) (g : FollowsNode set opening h j) where
    -- ---- both change a cell

    from_write_write : WriteWriteBy Cell (Changes set opening h) i j → EdgeUnder f.v g.v (paths_of set) f.node g.node
    from_write_write w = go (changed_in set opening h is i f c first) (changed_in set opening h is j g c second)
      where
        c : Cell
        c = w.cell

        first : ChangesAt set opening h is i c
        first = ap is_some w.first.1

        second : ChangesAt set opening h is j c
        second = ap is_some w.second.1

        same_never : Grows set c.table → ⊥
        same_never grow =
            let same = law_of_single_inserts set opening h is i j c one other grow first second in
            let b = w.before in omega arith

        go : HoldsChange set opening h is i f c → HoldsChange set opening h is j g c →
            EdgeUnder f.v g.v (paths_of set) f.node g.node
        go (t, inl k) (s, inl l) = cases (in_order-or_turned q)
          where
            q : QuestionNumbers
            q = question_of set opening h is i j f g c t s

            cases : IsInOrder q ⊎ IsInOrder (turned q) → EdgeUnder f.v g.v (paths_of set) f.node g.node
            cases (inl o) = inr (inr (inl (asked set opening h is i j f g c t s AsksWriteWrite (k, l, o))))
            cases (inr o) = inr (inr (inr (asked set opening h is j i g f c s t AsksWriteWrite (l, k, o))))
        go (t, inl k) (s, inr l) =
            absurd (plain_at set opening h is i f c t k (grow_at set opening h is j g c s (inr (inr l.0))))
        go (t, inr k) (s, inl l) =
            absurd (plain_at set opening h is j g c s l (grow_at set opening h is i f c t (inr (inr k.0))))
        go (t, inr k) (s, inr l) = absurd (same_never (grow_at set opening h is i f c t (inr (inr k.0))))

    -- ---- the second's snapshot has a change of the first

    from_write_read : WriteReadBy Cell (start_at h) (Looks set opening h) (Changes set opening h) i j →
        EdgeUnder f.v g.v (paths_of set) f.node g.node
    from_write_read w = go (looked set opening h is j g c w.look) (changed_in set opening h is i f c change)
      where
        c : Cell
        c = w.cell

        change : ChangesAt set opening h is i c
        change = ap is_some w.change.1

        there : Grows set c.table → Has set opening h is (start_at h j) c
        there grow =
            let low = starts set opening h is.lawful j other in
            let last = other.1 in
            (law_of_inserts set opening h is i c one grow change (start_at h j) (omega arith)).1 w.seen

        go : HoldsLook set opening h is j g c → HoldsChange set opening h is i f c →
            EdgeUnder f.v g.v (paths_of set) f.node g.node
        go (s, inl l) (t, inl k) = inr (inl (asked set opening h is j i g f c s t (λ q. AsksWriteRead) (inl (l, inl k))))
        go (s, inl l) (t, inr k) = inr (inl (asked set opening h is j i g f c s t (λ q. AsksWriteRead) (inl (l, inr k.0))))
        go (s, inr (inl l)) (t, inl k) =
            absurd (plain_at set opening h is i f c t k (grow_at set opening h is j g c s (inl l.0)))
        go (s, inr (inl l)) (t, inr k) = inr (inl (asked set opening h is j i g f c s t (λ q. AsksWriteRead) (inr (l.0, k.0))))
        go (s, inr (inr (inl l))) t = absurd (l.1 (there (grow_at set opening h is j g c s (inr (inl l.0)))))
        go (s, inr (inr (inr l))) t = absurd (l.1 (there (grow_at set opening h is j g c s (inr (inr l.0)))))

    -- ---- the first's snapshot lacks a change of the second

    -- an access of the first and one of the second that hold one cell, and ask about a read-write dependency
    abbrev pub AskedReadWrite : Type 0
    AskedReadWrite =
        (c : Cell) × (t : Holds set opening h is i f c) × (s : Holds set opening h is j g c)
        × AsksReadWrite t.access.kind s.access.kind

    pub asked_read_write : ReadWriteBy Cell (start_at h) (Looks set opening h) (Changes set opening h) i j →
        AskedReadWrite
    asked_read_write w = go (looked set opening h is i f c w.look) (changed_in set opening h is j g c change)
      where
        c : Cell
        c = w.cell

        change : ChangesAt set opening h is j c
        change = ap is_some w.change.1

        -- a row that the first one's snapshot has, the second did not add
        seen_then_added : Grows set c.table → Has set opening h is (start_at h i) c → ⊥
        seen_then_added grow has =
            let low = starts set opening h is.lawful i one in
            let last = one.1 in
            let from = (law_of_inserts set opening h is j c other grow change (start_at h i) (omega arith)).0 has in
            let unseen = w.unseen in
            omega arith

        both_added : Grows set c.table → ChangesAt set opening h is i c → ⊥
        both_added grow mine = w.other (law_of_single_inserts set opening h is i j c one other grow mine change)

        go : HoldsLook set opening h is i f c → HoldsChange set opening h is j g c → AskedReadWrite
        go (t, inl k) (s, inl l) = (c, t, s, inl (k, inl l))
        go (t, inl k) (s, inr l) = (c, t, s, inl (k, inr l.0))
        go (t, inr (inl k)) (s, inl l) =
            absurd (plain_at set opening h is j g c s l (grow_at set opening h is i f c t (inl k.0)))
        go (t, inr (inl k)) (s, inr l) = absurd (seen_then_added (grow_at set opening h is i f c t (inl k.0)) k.1)
        go (t, inr (inr (inl k))) (s, inl l) =
            absurd (plain_at set opening h is j g c s l (grow_at set opening h is i f c t (inr (inl k.0))))
        go (t, inr (inr (inl k))) (s, inr l) = (c, t, s, inr (k.0, l.0))
        go (t, inr (inr (inr k))) (s, inl l) =
            absurd (plain_at set opening h is j g c s l (grow_at set opening h is i f c t (inr (inr k.0))))
        go (t, inr (inr (inr k))) (s, inr l) =
            absurd (both_added (grow_at set opening h is i f c t (inr (inr k.0))) k.2)

    -- ---- all three

    pub edge_of : DependsOn set opening h i j → EdgeUnder f.v g.v (paths_of set) f.node g.node
    edge_of (inl w) = from_write_write w
    edge_of (inr (inl w)) = from_write_read w
    edge_of (inr (inr w)) =
        let q = asked_read_write w in inl (asked set opening h is i j f g q.0 q.1 q.2 (λ _. AsksReadWrite) q.3)

pub law_of_static_edges : LawOfStaticEdges
law_of_static_edges set opening h is i j one other test mine theirs =
    edge_of set opening h is i j one other mine theirs
    (depends_on set opening h is.lawful i j other test)
