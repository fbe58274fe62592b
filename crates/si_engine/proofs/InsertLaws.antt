-- A row of a grow table that an instance changes is there from its commit on, and at no time before.
use Rattle.std.proofs.Common.{◌≡◌, ℕ, ◌+◌, ◌-◌, ◌<◌, ◌≤◌, List, ◌⊎◌, inl, inr, length, sym, subst, arith}
use Rattle.std.proofs.lemmas.Bool.{cases_lt}
use Rattle.prog_tree.specs.declared.cell.Cell.{Cell}
use Rattle.prog_tree.specs.Syntax.{DraftTree}
use Rattle.prog_tree.specs.Table.{TableState}
use Rattle.history_book.specs.Dependencies.{start_at}
use Rattle.history_book.specs.History.{Instance}
use Rattle.si_engine.specs.Robustness.{HasCommitted, IsHistory, FollowsNode, Grows, LawOfInserts, LawOfSingleInserts}
use Rattle.si_engine.proofs.GrowLaws.{Has, ChangesAt, stays, added, appeared}
use Rattle.si_engine.proofs.AccessLaws.{HoldsChange, first_toucher_wins, changed_in, plain_at}
use Rattle.si_engine.proofs.MissedLaws.{starts}
use Rattle.si_engine.proofs.NodeLaws.{law_of_nodes}

module _ (set : DraftTree) (opening : TableState) (h : List Instance) (is : IsHistory set opening h) where
  module _ (j : ℕ) (c : Cell) (one : HasCommitted h j) (grow : Grows set c.table) (change : ChangesAt set opening h is j c) where
    -- the snapshot of the instance has no row there
    lacked : Has set opening h is (start_at h j) c → ⊥
    lacked has = go (changed_in set opening h is j f c change)
      where
        f : FollowsNode set opening h j
        f = law_of_nodes set opening h is j one

        go : HoldsChange set opening h is j f c → ⊥
        go (t, inl k) = plain_at set opening h is j f c t k grow
        go (t, inr k) = k.1 has

    there : (n : ℕ) → n ≤ length h → j ≤ n → Has set opening h is n c
    there n within from = stays set opening h is j n c grow from within (added set opening h is j c grow one change)

    not_before : (n : ℕ) → n < j → Has set opening h is n c → ⊥
    not_before n before has = go (cases_lt (start_at h j) n)
      where
        within : n ≤ length h
        within = let last = one.1 in omega arith

        go : (start_at h j < n) ⊎ (n ≤ start_at h j) → ⊥
        go (inr seen) =
            let low = starts set opening h is.lawful j one in
            let last = one.1 in
            lacked (stays set opening h is n (start_at h j) c grow seen (omega arith) has)
        go (inl after) =
            let apart : start_at h j + (n - start_at h j) ≡ n = omega arith in
            let t =
            appeared set opening h is (start_at h j) (n - start_at h j) c (omega arith) lacked
            (subst (λ k. Has set opening h is k c) (sym apart) has) in
            let above = t.1 in
            let below = t.2 in
            first_toucher_wins set opening h is t.0 j c t.3 one above (omega arith) (inl t.4) (inl change)

    from_commit : (n : ℕ) → n ≤ length h → Has set opening h is n c → j ≤ n
    from_commit n within has = go (cases_lt n j)
      where
        go : (n < j) ⊎ (j ≤ n) → j ≤ n
        go (inl before) = absurd (not_before n before has)
        go (inr from) = from

pub law_of_inserts : LawOfInserts
law_of_inserts set opening h is j c one grow change n within =
    (from_commit set opening h is j c one grow change n within, there set opening h is j c one grow change n within)

pub law_of_single_inserts : LawOfSingleInserts
law_of_single_inserts set opening h is i j c one other grow mine theirs =
    let first =
    from_commit set opening h is i c one grow mine j other.1
    (there set opening h is j c other grow theirs j other.1 (omega arith)) in
    let second =
    from_commit set opening h is j c other grow theirs i one.1
    (there set opening h is i c one grow mine i one.1 (omega arith)) in
    omega arith
