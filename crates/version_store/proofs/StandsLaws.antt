-- What a store answers, for each history that it stands for.
use Rattle.std.proofs.Common.{◌≡◌, ◌∙◌, ℕ, ℤ, ◌+◌, ◌-◌, ◌^◌, ◌<◌, ◌≤◌, min, max, Bool, true, false, cond, not, List, [], ◌∷◌, ◌++◌, length, take, refl, ap, sym, subst, arith, length-append}
use Rattle.std.specs.Prelude.{Option, Some, None, fold}
use Rattle.std.specs.List.Sorted.{IsStrictlySortedBy}
use Rattle.prog_tree.specs.declared.cell.Cell.{Cell}
use Rattle.prog_tree.specs.declared.cell.Region.{Region}
use Rattle.prog_tree.specs.ChangeSet.{ChangeSet, change_at, changed}
use Rattle.prog_tree.specs.Evaluation.{rows_left}
use Rattle.prog_tree.specs.Table.{cell_cmp, cells_of, is_in, is_cell_among, TableState, IsTableState, row_at, rows_in}
use Rattle.prog_tree.proofs.TableStates.{IsTableState-changed, IsTableState-rows_in, IsTableState-rows_left, same_state, row_at-where, row_at-rows_left}
use Rattle.version_store.specs.Clash.{last_touch}
use Rattle.version_store.specs.Commits.{state_at}
use Rattle.version_store.specs.Reading.{chain_at, value_at, last_number, with_commit, with_mark_by, with_change_by, with_opening_row, IsBelow, TrimsAll}
use Rattle.version_store.specs.Regions.{seen_in, seen_left, IsSeen}
use Rattle.version_store.specs.StandsFor.{VersionChain, no_chain, StoreView, StandsFor, AreCommits, chain_of, trimmed, size, EachHolds}
use Rattle.version_store.specs.Trimming.{shown, versions_kept, marks_kept, touches_by, touches_above, within, beyond}
use Rattle.version_store.specs.Versions.{retained, reclaimed}
use Rattle.version_store.proofs.CountLaws.{size_retained, retained-open, retained-push}
use Rattle.version_store.proofs.PendingLaws.{touches-push, beyond_floor, untouched}
use Rattle.version_store.proofs.TrimLaws.{trimmed_again, trimmed_below, value_trimmed, last_trimmed, kept_push, marks_push}
use Rattle.version_store.proofs.VersionLaws.{value_at-chain_of, last_number-chain_of, chain_of-push, chain_below}

pub reads_state :
    (s : StoreView) (opening : TableState) (ws : List ChangeSet) → StandsFor s opening ws → (n : ℕ) → s.floor ≤ n → (c : Cell) →
    value_at n (chain_at s.chains c) ≡ row_at (state_at opening ws n) c
reads_state s opening ws h n above c = ap (value_at n) (h.chains c) ∙ value_trimmed s.floor n above (chain_of opening ws c) ∙ value_at-chain_of opening ws c n

-- above a start from the floor on, the last numbers are those of the whole history
pub last_seen :
    (s : StoreView) (opening : TableState) (ws : List ChangeSet) → StandsFor s opening ws → (n : ℕ) → s.floor ≤ n → (c : Cell) →
    max n (last_number (chain_at s.chains c)) ≡ max n (last_touch c 1 ws)
last_seen s opening ws h n above c =
    ap (λ (x : VersionChain). max n (last_number x)) (h.chains c) ∙ last_trimmed s.floor n above (chain_of opening ws c) ∙ ap (max n) (last_number-chain_of opening ws c)

state_in_order : (m : TableState) (ws : List ChangeSet) → IsTableState m → IsTableState (fold (λ x w. changed x w.cells) m ws)
state_in_order m [] h = h
state_in_order m (w ∷ ws) h = state_in_order (changed m w.cells) ws (IsTableState-changed m w.cells h)

-- rows in order that have what the region has are those of the state
pub scans_state :
    (s : StoreView) (opening : TableState) (ws : List ChangeSet) → StandsFor s opening ws → (region : Region) (n : ℕ) → s.floor ≤ n → (rows : TableState) → IsTableState rows →
    ((c : Cell) → row_at rows c ≡ seen_in region n c (chain_at s.chains c)) → rows ≡ rows_in region (state_at opening ws n)
scans_state s opening ws h region n above rows ordered has =
    let m = state_at opening ws n in
    same_state rows (rows_in region m) ordered (IsTableState-rows_in region m (state_in_order opening (take n ws) h.ordered))
    (λ c. has c ∙ ap (λ v. cond (is_in region c) v None) (reads_state s opening ws h n above c) ∙ sym (row_at-where (is_in region) m c))

-- the rows of a region but for own cells are what is seen of the chains but for them
pub sees_left :
    (s : StoreView) (opening : TableState) (ws : List ChangeSet) → StandsFor s opening ws → (region : Region) (own : List Cell) (n : ℕ) → s.floor ≤ n →
    IsSeen (seen_left region own n) s.chains (rows_left region own (state_at opening ws n))
sees_left s opening ws h region own n above =
    let m = state_at opening ws n in (
      IsTableState-rows_left region own m (state_in_order opening (take n ws) h.ordered),
      λ c. row_at-rows_left region own m c ∙ ap (λ v. cond (not (is_cell_among own c)) (cond (is_in region c) v None) None) (sym (reads_state s opening ws h n above c))
          ∙ go (is_cell_among own c) (seen_in region n c (chain_at s.chains c)),
    )
  where
    go : (b : Bool) (o : Option ℤ) → cond (not b) o None ≡ cond b None o
    go true o = refl
    go false o = refl

-- rows in order that have all that the chains have are the state
pub gives_state :
    (s : StoreView) (opening : TableState) (ws : List ChangeSet) → StandsFor s opening ws → (n : ℕ) → s.floor ≤ n → (rows : TableState) → IsTableState rows →
    ((c : Cell) → row_at rows c ≡ value_at n (chain_at s.chains c)) → rows ≡ state_at opening ws n
gives_state s opening ws h n above rows ordered has =
    same_state rows (state_at opening ws n) ordered (state_in_order opening (take n ws) h.ordered) (λ c. has c ∙ reads_state s opening ws h n above c)

-- a store of opening rows alone
pub stands-open :
    (s : StoreView) (opening : TableState) → IsTableState opening → ((c : Cell) → chain_at s.chains c ≡ with_opening_row (row_at opening c) no_chain) → EachHolds s.chains →
    s.pending ≡ [] → s.commits ≡ 0 → s.floor ≡ 0 → s.versions ≡ length opening → StandsFor s opening []
stands-open s opening ordered chains holds pending commits floor versions = record {
  ordered = ordered;
  each = tt;
  chains = λ c. chains c ∙ go (row_at opening c) ∙ ap (λ f. trimmed f (chain_of opening [] c)) (sym floor);
  holds = holds;
  pending = pending;
  commits = commits;
  floor = omega (arith, commits, floor);
  versions = versions ∙ sym (retained-open opening) ∙ ap (λ f. length (retained opening [] f)) (sym floor);
}
  where
    go : (o : Option ℤ) → with_opening_row o no_chain ≡ trimmed 0 record { versions = shown 0 o ++ []; marks = [] }
    go None = refl
    go (Some v) = refl

-- a commit above the floor is added to a trimmed chain as to the whole one
trimmed-commit : (f n : ℕ) (w : ChangeSet) (c : Cell) (chain : VersionChain) → f < n → trimmed f (with_commit n w c chain) ≡ with_commit n w c (trimmed f chain)
trimmed-commit f n w c chain above = go (change_at w c) (is_cell_among w.kept c)
  where
    go : (o : Option (Option ℤ)) (kept : Bool) → trimmed f (with_mark_by n kept (with_change_by n o chain)) ≡ with_mark_by n kept (with_change_by n o (trimmed f chain))
    go None false i = trimmed f chain
    go None true i = record { versions = versions_kept f [] chain.versions; marks = marks_push f n chain.marks above i }
    go (Some x) false i = record { versions = kept_push f n x [] chain.versions above i; marks = marks_kept f chain.marks }
    go (Some x) true i = record { versions = kept_push f n x [] chain.versions above i; marks = marks_push f n chain.marks above i }

each-push : (ws : List ChangeSet) (w : ChangeSet) → AreCommits ws → IsStrictlySortedBy cell_cmp (cells_of w.cells) → AreCommits (ws ++ w ∷ [])
each-push [] w each sorted = (sorted, tt)
each-push (v ∷ ws) w each sorted = (each.0, each-push ws w each.1 sorted)

-- chains with one more commit
pub stands-push :
    (s t : StoreView) (opening : TableState) (ws : List ChangeSet) (w : ChangeSet) → StandsFor s opening ws → IsStrictlySortedBy cell_cmp (cells_of w.cells) →
    ((c : Cell) → chain_at t.chains c ≡ with_commit (s.commits + 1) w c (chain_at s.chains c)) → (EachHolds s.chains → EachHolds t.chains) → t.pending ≡ s.pending ++ touches_by (s.commits + 1) w →
    t.commits ≡ s.commits + 1 → t.floor ≡ s.floor → t.versions ≡ s.versions + length w.cells → StandsFor t opening (ws ++ w ∷ [])
stands-push s t opening ws w h sorted chains holds pending commits floor versions = record {
  ordered = h.ordered;
  each = each-push ws w h.each sorted;
  chains = λ c.
      chains c
      ∙ ap (with_commit (s.commits + 1) w c) (h.chains c)
      ∙ ap (λ n. with_commit (n + 1) w c (trimmed s.floor (chain_of opening ws c))) h.commits
      ∙ sym (trimmed-commit s.floor (length ws + 1) w c (chain_of opening ws c) (omega (arith, low)))
      ∙ ap (trimmed s.floor) (sym (chain_of-push opening ws w c))
      ∙ ap (λ f. trimmed f (chain_of opening (ws ++ w ∷ []) c)) (sym floor);
  holds = holds h.holds;
  pending =
      pending
      ∙ (λ i. h.pending i ++ touches_by (place i) w)
      ∙ sym (touches-push s.floor 1 ws w (omega (arith, low)))
      ∙ ap (λ f. touches_above f 1 (ws ++ w ∷ [])) (sym floor);
  commits = omega (arith, commits, h.commits, length-append ws (w ∷ []));
  floor = omega (arith, commits, floor, h.floor);
  versions =
      versions ∙ ap (λ n. n + length w.cells) h.versions ∙ sym (retained-push opening ws w s.floor low) ∙ ap (λ f. length (retained opening (ws ++ w ∷ []) f)) (sym floor);
}
  where
    low : s.floor ≤ length ws
    low = omega (arith, h.floor, h.commits)

    place : s.commits + 1 ≡ 1 + length ws
    place = omega (arith, h.commits)

-- chains that are as before wherever they had only lesser numbers than the next
pub stands-kept :
    (s t : StoreView) (opening : TableState) (ws : List ChangeSet) → StandsFor s opening ws →
    ((c : Cell) → IsBelow (s.commits + 1) (chain_at s.chains c) → chain_at t.chains c ≡ chain_at s.chains c) → (EachHolds s.chains → EachHolds t.chains) → t.pending ≡ s.pending → t.commits ≡ s.commits →
    t.floor ≡ s.floor → t.versions ≡ s.versions → StandsFor t opening ws
stands-kept s t opening ws h chains holds pending commits floor versions = record {
  ordered = h.ordered;
  each = h.each;
  chains = λ c. chains c (below c) ∙ h.chains c ∙ ap (λ f. trimmed f (chain_of opening ws c)) (sym floor);
  holds = holds h.holds;
  pending = pending ∙ h.pending ∙ ap (λ f. touches_above f 1 ws) (sym floor);
  commits = commits ∙ h.commits;
  floor = omega (arith, commits, floor, h.floor);
  versions = versions ∙ h.versions ∙ ap (λ f. length (retained opening ws f)) (sym floor);
}
  where
    below : (c : Cell) → IsBelow (s.commits + 1) (chain_at s.chains c)
    below c =
        subst (λ (x : VersionChain). IsBelow (s.commits + 1) x) (sym (h.chains c))
        (subst (λ (n : ℕ). IsBelow (n + 1) (trimmed s.floor (chain_of opening ws c))) (sym h.commits) (trimmed_below s.floor (length ws) (chain_of opening ws c) (chain_below opening ws c)))

-- ---- a vacuum

-- each chain is what a vacuum at the new floor leaves of the whole one
vacuumed_chain : (s t : StoreView) (opening : TableState) (ws : List ChangeSet) (g : ℕ) → StandsFor s opening ws → s.floor ≤ g →
    TrimsAll g (within g s.pending) s.chains t.chains → (c : Cell) → chain_at t.chains c ≡ trimmed g (chain_of opening ws c)
vacuumed_chain s t opening ws g h rises trims c = trims idle c ∙ whole c
  where
    whole : (c : Cell) → trimmed g (chain_at s.chains c) ≡ trimmed g (chain_of opening ws c)
    whole c = ap (trimmed g) (h.chains c) ∙ trimmed_again s.floor g rises (chain_of opening ws c)

    idle : (c : Cell) → is_cell_among (within g s.pending) c ≡ false → trimmed g (chain_at s.chains c) ≡ chain_at s.chains c
    idle c none =
        whole c
        ∙ untouched s.floor g rises opening ws c (ap (λ ts. is_cell_among (within g ts) c) (sym h.pending) ∙ none)
        ∙ sym (h.chains c)

-- the count and the store after a vacuum
pub stands-vacuum :
    (s t : StoreView) (opening : TableState) (ws : List ChangeSet) (g count : ℕ) → StandsFor s opening ws → s.floor ≤ g → g ≤ s.commits →
    IsStrictlySortedBy cell_cmp (cells_of s.chains) → IsStrictlySortedBy cell_cmp (cells_of t.chains) → TrimsAll g (within g s.pending) s.chains t.chains →
    (EachHolds s.chains → EachHolds t.chains) → t.pending ≡ beyond g s.pending → t.commits ≡ s.commits → t.floor ≡ g → size t.chains ≤ size s.chains → s.versions < 2 ^ 64 →
    count ≡ min (size s.chains - size t.chains) (2 ^ 64 - 1) → t.versions ≡ s.versions - count →
    StandsFor t opening ws × (count ≡ reclaimed opening ws s.floor g)
stands-vacuum s t opening ws g count h rises within_commits sorted sorted_after trims holds pending commits floor falls fits counted versions = (
  record {
    ordered = h.ordered;
    each = h.each;
    chains = λ c. after c ∙ ap (λ f. trimmed f (chain_of opening ws c)) (sym floor);
    holds = holds h.holds;
    pending = pending ∙ ap (beyond g) h.pending ∙ beyond_floor s.floor g 1 ws rises ∙ ap (λ f. touches_above f 1 ws) (sym floor);
    commits = commits ∙ h.commits;
    floor = omega (arith, commits, floor, within_commits);
    versions = omega (arith, versions, counted, falls, fits, before_size, after_size, h.versions) ∙ ap (λ f. length (retained opening ws f)) (sym floor);
  },
  omega (arith, counted, falls, fits, before_size, after_size, h.versions),
)
  where
    after : (c : Cell) → chain_at t.chains c ≡ trimmed g (chain_of opening ws c)
    after = vacuumed_chain s t opening ws g h rises trims

    before_size : size s.chains ≡ length (retained opening ws s.floor)
    before_size = size_retained s.chains opening ws s.floor h.ordered h.each sorted h.chains

    after_size : size t.chains ≡ length (retained opening ws g)
    after_size = size_retained t.chains opening ws g h.ordered h.each sorted_after after
