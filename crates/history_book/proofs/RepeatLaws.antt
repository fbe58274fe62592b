-- Instances that are run again, on the newest state.
use Rattle.std.proofs.Common.{◌≡◌, ℕ, ◌+◌, ◌<◌, ◌≤◌, max, Bool, true, false, true≢false, cond, List, [], ◌∷◌, length, refl, ap, sym, ◌∙◌, subst, arith}
use Rattle.std.specs.Prelude.{Some, None, IsTrue, ◌↔◌}
use Rattle.std.proofs.lemmas.List.{length-map}
use Rattle.prog_tree.specs.declared.cell.Cell.{Cell}
use Rattle.prog_tree.specs.declared.deed.End.TheVariants.{Ready}
use Rattle.prog_tree.specs.ChangeSet.{ChangeSet, touches_cell}
use Rattle.prog_tree.specs.Syntax.{DraftTree}
use Rattle.prog_tree.specs.Table.{TableState}
use Rattle.prog_tree.specs.Tree.{draft_tree}
use Rattle.prog_run.specs.View.{RunView}
use Rattle.version_store.specs.Clash.{last_touch, IsClash}
use Rattle.history_book.specs.Audit.{CameTo}
use Rattle.history_book.specs.History.{Instance, eval_of, IsCalled}
use Rattle.history_book.specs.Repeats.{newest_state, done_again, IsSameAgain, begun_again}
use Rattle.history_book.specs.Runs.{IsCommit}
use Rattle.history_book.specs.View.{BookView, instance_of, history_of, commits_in, done_in}
use Rattle.history_book.specs.declared.instances.row.HistoryRow.{HistoryRow}
use Rattle.history_book.proofs.HistoryLaws.{length-commits_of}

-- what an instance does is the same, wherever it was begun
done_anywhere : (set : DraftTree) (i : Instance) (start : ℕ) (m : TableState) → eval_of set (record i { start = start }) m ≡ eval_of set i m
unfolding eval_of
done_anywhere set i start m = refl

pub again_is : (v : BookView) (row : HistoryRow) → done_in v (instance_of (begun_again v row)) ≡ done_again v row
again_is v row = done_anywhere (draft_tree v.set) (instance_of row) (length v.rows) (newest_state v)

pub came_again : (v : BookView) (row again : HistoryRow) (run : RunView) → again ≡ begun_again v row → CameTo run (done_in v (instance_of again)) → CameTo run (done_again v row)
came_again v row again run is came = subst (CameTo run) (ap (λ r. done_in v (instance_of r)) is ∙ again_is v row) came

-- ---- whether it does the same again

-- what does not hold is told by `false`
pub never : {P : Type 0} → (P → ⊥) → IsTrue false ↔ P
never {P = P} none = (λ (h : IsTrue false). absurd (true≢false (sym h)), λ (p : P). absurd (none p))

pub not_ready_again : (v : BookView) (row : HistoryRow) (run : RunView) (b : Bool) → CameTo run (done_again v row) → IsTrue b ↔ (run.end ≡ Some Ready) → b ≡ false → IsTrue false ↔ IsSameAgain v row
not_ready_again v row run b came tells not =
    never (λ (same : IsSameAgain v row). true≢false (sym (tells.1 (came.ends ∙ ap Some same.0)) ∙ not))

pub other_replies_again : (v : BookView) (row : HistoryRow) (run : RunView) (b : Bool) → CameTo run (done_again v row) → IsTrue b ↔ (run.replies ≡ row.replies) → b ≡ false →
    IsTrue false ↔ IsSameAgain v row
other_replies_again v row run b came tells not =
    never (λ (same : IsSameAgain v row). true≢false (sym (tells.1 (came.replies ∙ same.1)) ∙ not))

pub same_again : (v : BookView) (row : HistoryRow) (run : RunView) → CameTo run (done_again v row) → run.end ≡ Some Ready → run.replies ≡ row.replies → IsSameAgain v row
same_again v row run came ends replies =
    let some : Some (done_again v row).ending ≡ Some Ready = sym came.ends ∙ ends in
    (cc, sym came.replies ∙ replies)

-- ---- it may commit

-- no commit has a number above that of the last
last_touch-within : (c : Cell) (n : ℕ) (ws : List ChangeSet) → 1 ≤ n → last_touch c n ws + 1 ≤ n + length ws
last_touch-within c n [] first = omega arith
last_touch-within c n (w ∷ ws) first =
    let rest : last_touch c (n + 1) ws + 1 ≤ n + 1 + length ws = last_touch-within c (n + 1) ws (omega arith) in
    elim (touches_cell w c) as (λ b. max (cond b n 0) (last_touch c (n + 1) ws) + 1 ≤ n + length (w ∷ ws)) [ true ↦ omega arith | false ↦ omega arith ]

no_clash_at_end : (ws : List ChangeSet) (start : ℕ) (w : ChangeSet) → start ≡ length ws → IsClash ws start w None
no_clash_at_end ws start w is c touches above =
    let late : start < last_touch c 1 ws = above in
    absurd (omega (arith, last_touch-within c 1 ws (omega arith)))

pub commits_again : (v : BookView) (row again : HistoryRow) (run : RunView) → again ≡ begun_again v row → CameTo run (done_in v (instance_of again)) → IsCalled (draft_tree v.set) (instance_of row) →
    run.end ≡ Some Ready → run.replies ≡ again.replies → IsCommit v again run.changes
commits_again v row again run is came called ends replies =
    let h = history_of v.rows in
    let size : length h ≡ length v.rows = length-map v.rows instance_of in
    let start : again.start ≡ length v.rows = ap (λ (r : HistoryRow). r.start) is in
    let all : again.start ≡ length (commits_in v) = omega (arith, length-commits_of (draft_tree v.set) v.opening h) in
    let some : Some (done_in v (instance_of again)).ending ≡ Some Ready = sym came.ends ∙ ends in
    record {
      is_true = record {
        called = subst (λ (r : HistoryRow). IsCalled (draft_tree v.set) (instance_of r)) (sym is) called;
        start = omega arith;
        replies = sym replies ∙ came.replies;
      };
      ready = cc;
      changes = came.changes;
      apart = no_clash_at_end (commits_in v) again.start run.changes all;
    }
