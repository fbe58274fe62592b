-- Worked examples of the static graphs of the ledger set, which has no dangerous structure, and of the report set, which has.
use Rattle.std.specs.Prelude.{◌≡◌, ℕ, List, [], ◌∷◌, Some, ◌⊎◌}
use Rattle.std.specs.List.{AllByRecursion}
use Rattle.std.proofs.Common.{refl, subst, arith, inl, inr, suc, zero, true}
use Rattle.std.proofs.lemmas.Int.{ints}
use lib.Signed.{≤ℤ_refl}
use Rattle.prog_tree.specs.Number.{least, greatest}
use Rattle.prog_check.specs.declared.path.Kind.{Kind}
use Rattle.prog_check.specs.declared.path.Kind.TheVariants.{Reads, Sees, Lacks, Writes, Adds}
use Rattle.prog_check.specs.declared.path.Term.TheVariants.{Param, Literal}
use Rattle.prog_check.specs.declared.path.Access.{Access}
use Rattle.prog_check.specs.declared.path.Path.{Path}
use Rattle.prog_check.proofs.PathVectors.{at_one, at_two, path}
use Rattle.prog_paths.specs.Meeting.{MeetsUnder, CanMeet, MayTouch}
use Rattle.prog_paths.specs.StaticGraph.{IsAccessOf, QuestionNumbers, AsksReadWrite, AsksWriteRead, AsksWriteWrite, HasQuestion, StaticEdge, IsCovered, IsExposed, IsVulnerable, Leads, here, onward, IsDangerous}
use Rattle.prog_paths.proofs.GraphVectors.{all_of, zero_cell, zeros_of_i64, of_node, has_question, meet_at_zero, CoversNothing, CoversIn, reads_cover_nothing}

-- ---- the sets

-- lacks closed[d]; insert entry[d, e] = v;
abbrev post : Path
post = path 0 [] (at_one Lacks 0 (Param 0) 0 ∷ at_two Adds 1 (Param 0) (Param 1) 1 ∷ [])

-- insert closed[d] = 1;
abbrev close : Path
close = path 1 [] (at_one Adds 0 (Param 0) 0 ∷ [])

-- all entries of one day
abbrev entries : ℕ → Access
entries place =
    record { kind = Reads; table = 1; first = record { low = Param 0; high = Param 0 }; second = Some (record { low = Literal least; high = Literal greatest }); place = place; sure = true }

-- let s = sum entry[d, least..greatest]; reply s;
abbrev total : Path
total = path 2 [] (entries 0 ∷ [])

-- let c = need closed[d]; and then what Total does
abbrev report : Path
report = path 2 [] (at_one Sees 0 (Param 0) 0 ∷ entries 1 ∷ [])

abbrev ledger : List Path
ledger = post ∷ close ∷ total ∷ []

abbrev reports : List Path
reports = post ∷ close ∷ report ∷ []

-- ---- the report set is dangerous

-- an entry of the day may be added
entries_meet : MeetsUnder (all_of 0) (all_of 0) (entries 1) (at_two Adds 1 (Param 0) (Param 1) 1)
entries_meet = record {
  mine_of_i64 = zeros_of_i64;
  theirs_of_i64 = zeros_of_i64;
  meet = (
    zero_cell 1,
    record { table = refl; first = (≤ℤ_refl _, ≤ℤ_refl _); second = (omega (arith, ints), omega (arith, ints)) },
    record { table = refl; first = (≤ℤ_refl _, ≤ℤ_refl _); second = (≤ℤ_refl _, ≤ℤ_refl _) },
  );
}

sees_cover_nothing : (a : Access) → a.kind ≡ Sees → CoversNothing a
sees_cover_nothing a e h = touches h.1
  where
    touches : MayTouch a → ⊥
    touches (inl k) = absurd (cc)
    touches (inr (inl k)) = absurd (cc)
    touches (inr (inr k)) = absurd (cc)

lacks_cover_nothing : (a : Access) → a.kind ≡ Lacks → CoversNothing a
lacks_cover_nothing a e h = touches h.1
  where
    touches : MayTouch a → ⊥
    touches (inl k) = absurd (cc)
    touches (inr (inl k)) = absurd (cc)
    touches (inr (inr k)) = absurd (cc)

-- the report changes nothing
report_before_post : IsVulnerable reports 2 0
report_before_post =
    has_question (record { x = 2; a = 1; y = 0; b = 1 }) report post (entries 1) (at_two Adds 1 (Param 0) (Param 1) 1)
    refl refl refl refl refl (inl (refl, inr refl)) ((all_of 0, all_of 0, entries_meet), not_covered)
  where
    not_covered : IsCovered reports 2 0 (entries 1) (at_two Adds 1 (Param 0) (Param 1) 1) → ⊥
    not_covered c =
        of_node CoversNothing reports 2 report refl
        (sees_cover_nothing (at_one Sees 0 (Param 0) 0) refl, (reads_cover_nothing (entries 1) refl, tt)) c.first c.of_first c.at_first c.first_covers

-- Post adds entries alone and Close closed days
post_before_close : IsVulnerable reports 0 1
post_before_close =
    has_question (record { x = 0; a = 0; y = 1; b = 0 }) post close (at_one Lacks 0 (Param 0) 0) (at_one Adds 0 (Param 0) 0)
    refl refl refl refl refl (inr (refl, refl)) ((all_of 0, all_of 0, meet_at_zero Lacks Adds 0 0 0 0 0), not_covered)
  where
    not_covered : IsCovered reports 0 1 (at_one Lacks 0 (Param 0) 0) (at_one Adds 0 (Param 0) 0) → ⊥
    not_covered c =
        let mine : c.of_first.table ≡ 1 =
        of_node (CoversIn 1) reports 0 post refl
        (λ m. absurd (lacks_cover_nothing (at_one Lacks 0 (Param 0) 0) refl m), (λ m. refl, tt)) c.first c.of_first c.at_first c.first_covers in
        let theirs : c.of_second.table ≡ 0 = of_node (CoversIn 0) reports 1 close refl (λ m. refl, tt) c.second c.of_second c.at_second c.second_covers in
        let same : c.of_first.table ≡ c.of_second.table = (c.same (all_of 0) (all_of 0) (meet_at_zero Lacks Adds 0 0 0 0 0)).table in
        absurd (omega arith)

-- the report sees the day that Close adds
close_before_report : StaticEdge reports 1 2
close_before_report =
    inr (inl (has_question (record { x = 2; a = 0; y = 1; b = 0 }) report close (at_one Sees 0 (Param 0) 0) (at_one Adds 0 (Param 0) 0)
    refl refl refl refl refl (inr (refl, refl)) (all_of 0, all_of 0, meet_at_zero Sees Adds 0 0 0 0 0)))

reports_are_dangerous : IsDangerous reports
reports_are_dangerous = (2, 0, 1, record { first = report_before_post; second = post_before_close; back = onward close_before_report here })

-- ---- the ledger set is not

-- what holds of each access of each node holds of any
of_nodes : (P : Access → Type 0) (nodes : List Path) → AllByRecursion (λ p. AllByRecursion P p.accesses) nodes → (x k : ℕ) (a : Access) → IsAccessOf nodes x k a → P a
of_nodes P [] h x k a (p, is, got) = absurd (cc)
of_nodes P (q ∷ later) h zero k a at = of_node P (q ∷ later) 0 q refl h.0 k a at
of_nodes P (q ∷ later) h (suc x) k a (p, is, got) = of_nodes P later h.1 x k a (p, is, got)

module _ (asks : QuestionNumbers → Kind → Kind → Type 0) (P : QuestionNumbers → Access → Access → Type 0) (x y : ℕ) where
  mine_at : (h : HasQuestion asks P ledger x y) → IsAccessOf ledger x h.question.a h.mine
  mine_at h = subst (λ (n : ℕ). IsAccessOf ledger n h.question.a h.mine) h.from h.asked.at_mine

  theirs_at : (h : HasQuestion asks P ledger x y) → IsAccessOf ledger y h.question.b h.theirs
  theirs_at h = subst (λ (n : ℕ). IsAccessOf ledger n h.question.b h.theirs) h.to h.asked.at_theirs

-- only entries are read, and nothing is seen
abbrev SeesEntries : Access → Type 0
SeesEntries a = (a.kind ≡ Reads) ⊎ (a.kind ≡ Sees) → a.table ≡ 1

abbrev IsAdding : Access → Type 0
IsAdding a = a.kind ≡ Adds

abbrev IsNoWrite : Access → Type 0
IsNoWrite a = a.kind ≡ Writes → ⊥

no_write : (k : Kind) → (k ≡ Reads) ⊎ (k ≡ Lacks) ⊎ (k ≡ Adds) → k ≡ Writes → ⊥
no_write k (inl e) h = absurd (cc)
no_write k (inr (inl e)) h = absurd (cc)
no_write k (inr (inr e)) h = absurd (cc)

unseen : (k : Kind) → (k ≡ Lacks) ⊎ (k ≡ Adds) → (k ≡ Reads) ⊎ (k ≡ Sees) → ⊥
unseen k (inl e) (inl h) = absurd (cc)
unseen k (inl e) (inr h) = absurd (cc)
unseen k (inr e) (inl h) = absurd (cc)
unseen k (inr e) (inr h) = absurd (cc)

ledger_has_no_write : (x k : ℕ) (a : Access) → IsAccessOf ledger x k a → IsNoWrite a
ledger_has_no_write =
    of_nodes IsNoWrite ledger
    ((no_write Lacks (inr (inl refl)), (no_write Adds (inr (inr refl)), tt)), ((no_write Adds (inr (inr refl)), tt), ((no_write Reads (inl refl), tt), tt)))

ledger_sees_entries : (x k : ℕ) (a : Access) → IsAccessOf ledger x k a → SeesEntries a
ledger_sees_entries =
    of_nodes SeesEntries ledger
    ((λ s. absurd (unseen Lacks (inl refl) s), (λ s. refl, tt)), ((λ s. absurd (unseen Adds (inr refl) s), tt), ((λ s. refl, tt), tt)))

abbrev AddsClosed : Access → Type 0
AddsClosed a = (a.kind ≡ Adds) × (a.table ≡ 0)

close_adds : (k : ℕ) (a : Access) → IsAccessOf ledger 1 k a → AddsClosed a
close_adds = of_node AddsClosed ledger 1 close refl ((refl, refl), tt)

-- what adds asks for no read-write dependency
adds_ask_nothing : (a b : Kind) → a ≡ Adds → AsksReadWrite a b → ⊥
adds_ask_nothing a b e (inl h) =
    let reads = h.0 in
    absurd (cc)
adds_ask_nothing a b e (inr h) =
    let lacks = h.0 in
    absurd (cc)

seen_of : (a b : Kind) → AsksWriteRead a b → (a ≡ Reads) ⊎ (a ≡ Sees)
seen_of a b (inl h) = inl h.0
seen_of a b (inr h) = inr h.0

-- nothing depends on Close, for nothing in the set sees a closed day
no_edge_from_close : (y : ℕ) → StaticEdge ledger 1 y → ⊥
no_edge_from_close y (inl h) = adds_ask_nothing h.mine.kind h.theirs.kind (close_adds h.question.a h.mine (mine_at (λ q. AsksReadWrite) (λ q a b. CanMeet a b) 1 y h)).0 h.kinds
no_edge_from_close y (inr (inl h)) =
    let closed = (close_adds h.question.b h.theirs (theirs_at (λ q. AsksWriteRead) (λ q a b. CanMeet a b) y 1 h)).1 in
    let entry = ledger_sees_entries y h.question.a h.mine (mine_at (λ q. AsksWriteRead) (λ q a b. CanMeet a b) y 1 h) (seen_of h.mine.kind h.theirs.kind h.kinds) in
    let same = h.asked.table in
    absurd (omega arith)
no_edge_from_close y (inr (inr (inl h))) = ledger_has_no_write 1 h.question.a h.mine (mine_at AsksWriteWrite (λ q a b. CanMeet a b) 1 y h) h.kinds.0
no_edge_from_close y (inr (inr (inr h))) = ledger_has_no_write y h.question.a h.mine (mine_at AsksWriteWrite (λ q a b. CanMeet a b) y 1 h) h.kinds.0

no_vulnerable_from_close : (y : ℕ) → IsVulnerable ledger 1 y → ⊥
no_vulnerable_from_close y h = adds_ask_nothing h.mine.kind h.theirs.kind (close_adds h.question.a h.mine (mine_at (λ q. AsksReadWrite) (IsExposed ledger) 1 y h)).0 h.kinds

changed_of : (a b : Kind) → AsksReadWrite a b → (b ≡ Writes) ⊎ (b ≡ Adds)
changed_of a b (inl h) = h.1
changed_of a b (inr h) = inr h.1

abbrev ChangesNothing : Access → Type 0
ChangesNothing a = (a.kind ≡ Writes) ⊎ (a.kind ≡ Adds) → ⊥

reads_change_nothing : (k : Kind) → k ≡ Reads → (k ≡ Writes) ⊎ (k ≡ Adds) → ⊥
reads_change_nothing k e (inl h) = absurd (cc)
reads_change_nothing k e (inr h) = absurd (cc)

-- Total changes nothing, so nothing precedes it as a reader
no_vulnerable_to_total : (x : ℕ) → IsVulnerable ledger x 2 → ⊥
no_vulnerable_to_total x h =
    of_node ChangesNothing ledger 2 total refl (reads_change_nothing Reads refl, tt) h.question.b h.theirs
    (theirs_at (λ q. AsksReadWrite) (IsExposed ledger) x 2 h) (changed_of h.mine.kind h.theirs.kind h.kinds)

abbrev AsksOfClosed : Access → Type 0
AsksOfClosed a = (a.kind ≡ Adds → ⊥) → a.table ≡ 0

abbrev AddsEntries : Access → Type 0
AddsEntries a = (a.kind ≡ Writes) ⊎ (a.kind ≡ Adds) → a.table ≡ 1

lacks_changes_nothing : (k : Kind) → k ≡ Lacks → (k ≡ Writes) ⊎ (k ≡ Adds) → ⊥
lacks_changes_nothing k e (inl h) = absurd (cc)
lacks_changes_nothing k e (inr h) = absurd (cc)

-- Post depends on no other Post: it lacks a closed day, and adds an entry
no_vulnerable_in_post : IsVulnerable ledger 0 0 → ⊥
no_vulnerable_in_post h =
    let mine : h.mine.table ≡ 0 =
    of_node AsksOfClosed ledger 0 post refl (λ n. refl, (λ n. absurd (n refl), tt)) h.question.a h.mine (mine_at (λ q. AsksReadWrite) (IsExposed ledger) 0 0 h)
    (λ e. adds_ask_nothing h.mine.kind h.theirs.kind e h.kinds) in
    let theirs : h.theirs.table ≡ 1 =
    of_node AddsEntries ledger 0 post refl (λ c. absurd (lacks_changes_nothing Lacks refl c), (λ c. refl, tt)) h.question.b h.theirs (theirs_at (λ q. AsksReadWrite) (IsExposed ledger) 0 0 h)
    (changed_of h.mine.kind h.theirs.kind h.kinds) in
    let same = h.asked.table in
    absurd (omega arith)

-- a node of no place has no access
no_vulnerable_past : (x k : ℕ) → IsVulnerable ledger x (suc (suc (suc k))) → ⊥
no_vulnerable_past x k h = nowhere (theirs_at (λ q. AsksReadWrite) (IsExposed ledger) x (suc (suc (suc k))) h)
  where
    nowhere : IsAccessOf ledger (suc (suc (suc k))) h.question.b h.theirs → ⊥
    nowhere (p, is, got) = absurd (cc)

-- behind Close nothing goes on
no_way_from_close : (x : ℕ) → Leads (StaticEdge ledger) 1 x → (y : ℕ) → IsVulnerable ledger x y → ⊥
no_way_from_close x here y v = no_vulnerable_from_close y v
no_way_from_close x (onward e rest) y v = no_edge_from_close _ e

ledger_is_not_dangerous : IsDangerous ledger → ⊥
ledger_is_not_dangerous (x, y, z, d) = go y z d.first d.second d.back
  where
    go : (y z : ℕ) → IsVulnerable ledger x y → IsVulnerable ledger y z → Leads (StaticEdge ledger) z x → ⊥
    go zero zero first second back = no_vulnerable_in_post second
    go zero (suc zero) first second back = no_way_from_close x back 0 first
    go zero (suc (suc zero)) first second back = no_vulnerable_to_total 0 second
    go zero (suc (suc (suc k))) first second back = no_vulnerable_past 0 k second
    go (suc zero) z first second back = no_vulnerable_from_close z second
    go (suc (suc zero)) z first second back = no_vulnerable_to_total x first
    go (suc (suc (suc k))) z first second back = no_vulnerable_past x k first
