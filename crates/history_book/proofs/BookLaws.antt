-- A book stays true.
use Rattle.std.proofs.Common.{◌≡◌, ℕ, suc, ◌+◌, ◌<◌, ◌≤◌, cond, List, [], ◌∷◌, ◌++◌, length, refl, ap, sym, ◌∙◌, subst, true≢false, arith}
use Rattle.std.specs.Prelude.{All, Option, Some, IsSome, None, is_some}
use Rattle.std.specs.BTreeMap.{is_at}
use Rattle.std.specs.List.{range_with_len}
use Rattle.std.specs.List.Sorted.{IsStrictlySortedBy}
use Rattle.std.specs.Map.{keys_of, lookup}
use Rattle.std.specs.Cmp.{nat_cmp_is}
use Rattle.std.specs.Ordering.{nat_cmp, is_eq}
use Rattle.std.specs.declared.cmp.Ordering.TheVariants.{Equal}
use Rattle.std.proofs.lemmas.List.{length-append, length-map, map-append, append-nil}
use Rattle.std.proofs.lemmas.List.Elements.{All-push, All-weaker}
use Rattle.prog_tree.specs.declared.program.Draft.{Draft}
use Rattle.prog_tree.specs.ChangeSet.{ChangeSet}
use Rattle.prog_tree.specs.Tree.{draft_tree}
use Rattle.version_store.specs.Clash.{IsClash}
use Rattle.version_store.specs.StandsFor.{StoreView, StandsFor}
use Rattle.history_book.specs.History.{Instance, commits_of, IsCalled, IsLawful}
use Rattle.history_book.specs.Runs.{IsCommit}
use Rattle.history_book.specs.TrueBook.{IsTrueRow, IsTrueEnding, committed, IsTrueActive, IsTrueBook, IsStored}
use Rattle.history_book.specs.Ticket.{TicketView}
use Rattle.history_book.specs.View.{BookView, instance_of, history_of, commits_in, done_in, active_at, without, least_start, most_endings}
use Rattle.history_book.specs.declared.instances.row.Ending.{Ending}
use Rattle.history_book.specs.declared.instances.row.Ending.TheVariants as ending
use Rattle.history_book.specs.declared.instances.row.HistoryRow.{HistoryRow}
use Rattle.history_book.proofs.ActiveLaws.{Entry, All-removed, length-removed, fewer-removed, All-found, with_start-is, least-from, least-below, least-within}
use Rattle.history_book.proofs.EndingLaws.{true_rows-push, true_row-push, true_endings-push, committed-append, range-push}
use Rattle.history_book.proofs.HistoryLaws.{length-commits_of, commits_of-push, lawful-push}

pub true-begin :
    (v : BookView) (i : Instance) (active : List Entry) → IsTrueBook v → IsCalled (draft_tree v.set) i → v.floor ≤ i.start → i.start ≤ length v.rows →
    length v.endings + length v.active < most_endings → active ≡ v.active ++ (v.begun, i) ∷ [] → IsStrictlySortedBy nat_cmp (keys_of active) →
    IsTrueBook (record v { active = active; begun = v.begun + 1 })
true-begin v i active book called above within room is by_number =
    let new : BookView = record v { active = active; begun = v.begun + 1 } in
    let this : IsTrueActive new (v.begun, i) = record { called = called; floor = above; start = within; number = omega arith } in
    let before : All (IsTrueActive new) v.active =
    All-weaker (IsTrueActive v) (IsTrueActive new)
    (λ entry old. record { called = old.called; floor = old.floor; start = old.start; number = omega (arith, old.number) }) v.active book.active in
    record {
      lawful = book.lawful;
      rows = book.rows;
      endings = book.endings;
      numbered = book.numbered;
      active = subst (All (IsTrueActive new)) (sym is) (All-push (IsTrueActive new) v.active (v.begun, i) before this);
      by_number = by_number;
      floor = book.floor;
      few = let more : length active ≡ length v.active + 1 = omega (arith, ap length is, length-append v.active ((v.begun, i) ∷ [])) in omega arith;
    }

pub true-withdrawn :
    (v : BookView) (number : ℕ) (active : List Entry) → IsTrueBook v → active ≡ without number v.active → IsStrictlySortedBy nat_cmp (keys_of active) →
    IsTrueBook (record v { active = active })
true-withdrawn v number active book is by_number =
    let new : BookView = record v { active = active } in
    let before : All (IsTrueActive new) v.active =
    All-weaker (IsTrueActive v) (IsTrueActive new)
    (λ entry old. record { called = old.called; floor = old.floor; start = old.start; number = old.number }) v.active book.active in
    record {
      lawful = book.lawful;
      rows = book.rows;
      endings = book.endings;
      numbered = book.numbered;
      active = subst (All (IsTrueActive new)) (sym is) (All-removed (is_at (nat_cmp number)) (IsTrueActive new) v.active before);
      by_number = by_number;
      floor = book.floor;
      few = omega (arith, ap length is, fewer-removed (is_at (nat_cmp number)) v.active, book.few);
    }

-- one ending more in the place of an active instance
still_few : (endings new : List Ending) (e : Ending) (active left : List Entry) (number : ℕ) → length endings + length active ≤ most_endings →
    IsSome (lookup (is_at (nat_cmp number)) active) → new ≡ endings ++ e ∷ [] → left ≡ without number active → length new + length left ≤ most_endings
still_few endings new e active left number few found more is =
    omega (arith, ap length more, length-append endings (e ∷ []), ap length is, length-removed (is_at (nat_cmp number)) active found)

pub true-ended :
    (v : BookView) (number : ℕ) (e : Ending) (endings : List Ending) (active : List Entry) → IsTrueBook v →
    IsSome (lookup (is_at (nat_cmp number)) v.active) → IsTrueEnding (draft_tree v.set) v.opening (history_of v.rows) e → committed (e ∷ []) ≡ [] →
    endings ≡ v.endings ++ e ∷ [] → active ≡ without number v.active → IsStrictlySortedBy nat_cmp (keys_of active) →
    IsTrueBook (record v { endings = endings; active = active })
true-ended v number e endings active book found this none more is by_number =
    let P = IsTrueEnding (draft_tree v.set) v.opening (history_of v.rows) in
    let rest = true-withdrawn v number active book is by_number in
    let new : BookView = record v { endings = endings; active = active } in
    record {
      lawful = book.lawful;
      rows = book.rows;
      endings = subst (All P) (sym more) (All-push P v.endings e book.endings this);
      numbered = ap committed more ∙ committed-append v.endings (e ∷ []) ∙ ap (λ ns. committed v.endings ++ ns) none ∙ append-nil (committed v.endings) ∙ book.numbered;
      active =
          All-weaker (IsTrueActive (record v { active = active })) (IsTrueActive new)
          (λ entry old. record { called = old.called; floor = old.floor; start = old.start; number = old.number }) active rest.active;
      by_number = by_number;
      floor = book.floor;
      few = still_few v.endings endings e v.active active number book.few found more is;
    }

-- the history with one more row
pub history-push : (rows : List HistoryRow) (row : HistoryRow) → history_of (rows ++ row ∷ []) ≡ history_of rows ++ instance_of row ∷ []
history-push rows row = map-append instance_of rows (row ∷ [])

pub true-committed :
    (v : BookView) (number : ℕ) (row : HistoryRow) (w : ChangeSet) (rows : List HistoryRow) (endings : List Ending) (active : List Entry) (floor : ℕ) → IsTrueBook v →
    IsSome (lookup (is_at (nat_cmp number)) v.active) → IsCommit v row w → rows ≡ v.rows ++ row ∷ [] →
    endings ≡ v.endings ++ ending.Committed (length v.rows + 1) ∷ [] → active ≡ without number v.active → IsStrictlySortedBy nat_cmp (keys_of active) → floor ≡ v.floor →
    IsTrueBook (record v { rows = rows; endings = endings; active = active; floor = floor })
true-committed v number row w rows endings active floor book found commit one_row more is by_number low =
    let set = draft_tree v.set in
    let h = history_of v.rows in
    let i = instance_of row in
    let long = h ++ i ∷ [] in
    let rest = true-withdrawn v number active book is by_number in
    let new : BookView = record v { rows = rows; endings = endings; active = active; floor = floor } in
    let history : history_of rows ≡ long = ap history_of one_row ∙ history-push v.rows row in
    let size : length h ≡ length v.rows = length-map v.rows instance_of in
    let row_start : row.start ≤ length h = commit.is_true.start in
    let longer : length rows ≡ suc (length v.rows) = omega (arith, ap length one_row, length-append v.rows (row ∷ [])) in
    let apart : IsClash (commits_in v) i.start (done_in v i).changes None = subst (λ x. IsClash (commits_in v) i.start x None) commit.changes commit.apart in
    let rows_in_long : All (IsTrueRow set v.opening long) rows =
    subst (All (IsTrueRow set v.opening long)) (sym one_row)
    (All-push (IsTrueRow set v.opening long) v.rows row (true_rows-push set v.opening h i v.rows book.rows) (true_row-push set v.opening h i row commit.is_true)) in
    let endings_in_long : All (IsTrueEnding set v.opening long) endings =
    subst (All (IsTrueEnding set v.opening long)) (sym more)
    (All-push (IsTrueEnding set v.opening long) v.endings (ending.Committed (length v.rows + 1)) (true_endings-push set v.opening h i v.endings book.endings) tt) in
    let next : 1 + length v.rows ≡ length v.rows + 1 = omega arith in
    record {
      lawful = subst (IsLawful set v.opening) (sym history) (lawful-push set v.opening h i book.lawful row_start commit.is_true.called commit.ready apart);
      rows = subst (λ g. All (IsTrueRow set v.opening g) rows) (sym history) rows_in_long;
      endings = subst (λ g. All (IsTrueEnding set v.opening g) endings) (sym history) endings_in_long;
      numbered =
          ap committed more
          ∙ committed-append v.endings (ending.Committed (length v.rows + 1) ∷ [])
          ∙ ap (λ ns. ns ++ (length v.rows + 1) ∷ []) book.numbered
          ∙ ap (λ n. range_with_len 1 (length v.rows) ++ n ∷ []) (sym next)
          ∙ sym (range-push 1 (length v.rows))
          ∙ ap (range_with_len 1) (sym longer);
      active =
          All-weaker (IsTrueActive (record v { active = active })) (IsTrueActive new)
          (λ entry old. record { called = old.called; floor = omega (arith, old.floor, low); start = omega (arith, old.start, longer); number = old.number }) active rest.active;
      by_number = by_number;
      floor = omega (arith, book.floor, longer, low);
      few = still_few v.endings endings (ending.Committed (length v.rows + 1)) v.active active number book.few found more is;
    }

-- one number alone is in order
alone : (n : ℕ) (i : Instance) → IsStrictlySortedBy nat_cmp (keys_of ((n, i) ∷ []))
unfolding IsStrictlySortedBy
alone n i = (tt, tt)

-- an instance was begun where none is active, and has committed at once
pub true-taken :
    (v : BookView) (row : HistoryRow) (w : ChangeSet) (rows : List HistoryRow) (endings : List Ending) (floor : ℕ) → IsTrueBook v → v.active ≡ [] → length v.endings < most_endings →
    v.floor ≤ row.start → IsCommit v row w → rows ≡ v.rows ++ row ∷ [] → endings ≡ v.endings ++ ending.Committed (length v.rows + 1) ∷ [] → floor ≡ v.floor →
    IsTrueBook (record v { rows = rows; endings = endings; begun = v.begun + 1; floor = floor })
true-taken v row w rows endings floor book none room above commit one_row more low =
    let i = instance_of row in
    let entries : List Entry = (v.begun, i) ∷ [] in
    let with_it : BookView = record v { active = entries; begun = v.begun + 1 } in
    let size : length (history_of v.rows) ≡ length v.rows = length-map v.rows instance_of in
    let within : row.start ≤ length v.rows = omega (arith, commit.is_true.start, size) in
    let few : length v.endings + length v.active < most_endings = omega (arith, room, ap length none) in
    let is_true : IsTrueBook with_it =
    true-begin v i entries book commit.is_true.called above within few
    (ap (λ (es : List Entry). es ++ (v.begun, i) ∷ []) (sym none)) (alone v.begun i) in
    let itself = nat_cmp_is v.begun v.begun Equal refl in
    let found : IsSome (lookup (is_at (nat_cmp v.begun)) entries) = ap (λ o. is_some (cond (is_eq o) (Some i) None)) (sym itself) in
    let gone : [] ≡ without v.begun entries = ap (λ o. cond (is_eq o) [] entries) itself in
    let same : IsCommit with_it row w = record { is_true = commit.is_true; ready = commit.ready; changes = commit.changes; apart = commit.apart } in
    subst (λ (active : List Entry). IsTrueBook (record v { rows = rows; endings = endings; active = active; begun = v.begun + 1; floor = floor })) (sym none)
    (true-committed with_it v.begun row w rows endings [] floor is_true found same one_row more gone
    (subst (λ (es : List Entry). IsStrictlySortedBy nat_cmp (keys_of es)) none book.by_number) low)

-- the commits with one more
pub commits-committed : (v : BookView) (row : HistoryRow) (w : ChangeSet) (rows : List HistoryRow) → IsCommit v row w → rows ≡ v.rows ++ row ∷ [] →
    commits_in v ++ w ∷ [] ≡ commits_of (draft_tree v.set) v.opening (history_of rows)
commits-committed v row w rows commit one_row =
    let set = draft_tree v.set in
    let h = history_of v.rows in
    ap (λ x. commits_in v ++ x ∷ []) commit.changes
    ∙ sym (commits_of-push set v.opening h (instance_of row))
    ∙ ap (commits_of set v.opening) (sym (ap history_of one_row ∙ history-push v.rows row))

pub true-vacuum : (v : BookView) (floor : ℕ) → IsTrueBook v → floor ≡ least_start (length v.rows) v.active → IsTrueBook (record v { floor = floor })
true-vacuum v floor book is =
    let least = least_start (length v.rows) v.active in
    let new : BookView = record v { floor = floor } in
    let low : All (λ entry. least ≤ entry.1.start) v.active = least-below (length v.rows) v.active in
    record {
      lawful = book.lawful;
      rows = book.rows;
      endings = book.endings;
      numbered = book.numbered;
      active = λ k d within. let old = book.active k d within in
          record { called = old.called; floor = omega (arith, low k d within, is); start = old.start; number = old.number };
      by_number = book.by_number;
      floor = omega (arith, is, least-within (length v.rows) v.active);
      few = book.few;
    }

-- ---- what a store has

pub stored : (v : BookView) (store : StoreView) → StandsFor store v.opening (commits_in v) → IsStored v store
stored v store stands = record {
  stands = stands;
  commits = stands.commits ∙ length-commits_of (draft_tree v.set) v.opening (history_of v.rows) ∙ length-map v.rows instance_of;
}

-- ---- what is known of active instances

pub found_active : (v : BookView) (number : ℕ) (i : Instance) → IsTrueBook v → lookup (is_at (nat_cmp number)) v.active ≡ Some i → (n : ℕ) × IsTrueActive v (n, i)
found_active v number i book found = All-found (is_at (nat_cmp number)) (IsTrueActive v) v.active i book.active found

-- one of a ticket's number and start
pub active_known : (v : BookView) (t : TicketView) (i : Instance) → IsTrueBook v → active_at v t ≡ Some i → (n : ℕ) × IsTrueActive v (n, i)
active_known v t i book found = found_active v t.number i book (with_start-is t.start (lookup (is_at (nat_cmp t.number)) v.active) i found).0

-- it sees commits from the floor on
pub start_known : (v : BookView) (t : TicketView) → IsTrueBook v → IsSome (active_at v t) → (v.floor ≤ t.start) × (t.start ≤ length v.rows)
start_known v t book found = go (active_at v t) refl found
  where
    go : (o : Option Instance) → active_at v t ≡ o → IsSome o → (v.floor ≤ t.start) × (t.start ≤ length v.rows)
    go None is h = absurd (true≢false (sym h))
    go (Some i) is h =
        let same = (with_start-is t.start (lookup (is_at (nat_cmp t.number)) v.active) i is).1 in
        let known = (active_known v t i book is).1 in
        (subst (λ (n : ℕ). v.floor ≤ n) same known.floor, subst (λ (n : ℕ). n ≤ length v.rows) same known.start)

-- the least start is one that a vacuum may keep
pub least_above : (v : BookView) → IsTrueBook v → v.floor ≤ least_start (length v.rows) v.active
least_above v book =
    least-from (length v.rows) v.floor v.active
    (All-weaker (IsTrueActive v) (λ entry. v.floor ≤ entry.1.start) (λ entry old. old.floor) v.active book.active) book.floor

-- ---- commits

-- the next number of a commit
pub next_number : (endings : List Ending) (commits rows : ℕ) → commits ≡ rows → endings ++ ending.Committed (commits + 1) ∷ [] ≡ endings ++ ending.Committed (rows + 1) ∷ []
next_number endings commits rows same = ap (λ n. endings ++ ending.Committed (n + 1) ∷ []) same
