-- What a commit leaves is what the machine leaves.
use Rattle.std.proofs.Common.{◌≡◌, ℕ, ◌+◌, true, false, List, [], ◌∷◌, ◌++◌, length, set, refl, ap, sym, ◌∙◌, subst, cond, arith, Ok, Err}
use Rattle.std.specs.Prelude.{slice_get, Option, Some, None}
use Rattle.std.specs.declared.alloc.AllocError.{AllocError}
use Rattle.std.proofs.lemmas.List.{length-map, length-append}
use Rattle.prog_tree.specs.declared.cell.Cell.{Cell}
use Rattle.prog_tree.specs.Tree.{draft_tree}
use Rattle.version_store.specs.Clash.{clash_of}
use Rattle.history_book.specs.History.{Instance}
use Rattle.history_book.specs.Runs.{committed_in, ended_in, row_in}
use Rattle.history_book.specs.View.{BookView, instance_of, history_of, active_at, commits_in, done_in}
use Rattle.history_book.specs.declared.instances.row.Ending.{Ending}
use Rattle.history_book.specs.declared.instances.row.Ending.TheVariants as ending
use Rattle.history_book.proofs.BookLaws.{history-push}
use Rattle.si_engine.specs.Machine.{Machine, with_begun, commit_by, machine_step}
use Rattle.si_engine.specs.View.{instance_in, machine_of, IsEngine, Applies, IsCommitReply, takes_memory}
use Rattle.si_engine.specs.declared.active.ActiveRun.{ActiveRun}
use Rattle.si_engine.specs.declared.event.Event.TheVariants as event
use Rattle.si_engine.specs.declared.event.Reply.{Reply}
use Rattle.si_engine.specs.declared.event.Reply.TheVariants as reply
use Rattle.si_engine.proofs.ClashLaws.{clash_is}
use Rattle.si_engine.proofs.EngineLaws.{view_of, answered, lacked, Leaves, leaves_ended, leaves_committed, begun-set, with_active_is, is_active, engine-leaves}
use Rattle.si_engine.proofs.PlaceLaws.{set-same, put-back}

module _ (v : BookView) (runs : List (Option ActiveRun)) (kept : IsEngine v runs) where
  abbrev machine : Machine
  machine = machine_of v runs

  abbrev clash_here : Instance → Option (Cell × ℕ)
  clash_here j = clash_of (commits_in v) j.start (done_in v j).changes

  -- a commit event on an active instance
  commit_event : (i : ℕ) (a : ActiveRun) → slice_get runs i ≡ Some (Some a) →
      cond a.ready (commit_by (clash_here (instance_in a)) machine i (instance_in a)) (reply.NotReady, machine)
      ≡ machine_step (draft_tree v.set) v.opening (event.Commit i) machine
  commit_event i a at =
      sym (with_active_is v runs kept i a (λ b. cond b.ready (commit_by (clash_here b.instance) machine i b.instance) (reply.NotReady, machine)) at)

  -- a commit of an instance that is ready takes memory
  commit_takes_memory : (i : ℕ) (a : ActiveRun) → slice_get runs i ≡ Some (Some a) → a.ready ≡ true →
      takes_memory (machine_step (draft_tree v.set) v.opening (event.Commit i) machine).0 ≡ true
  commit_takes_memory i a at ready =
      ap (λ (x : Reply × Machine). takes_memory x.0)
      (sym (commit_event i a at) ∙ ap (λ b. cond b (commit_by (clash_here (instance_in a)) machine i (instance_in a)) (reply.NotReady, machine)) ready)
      ∙ either (clash_here (instance_in a))
    where
      either : (clash : Option (Cell × ℕ)) → takes_memory (commit_by clash machine i (instance_in a)).0 ≡ true
      either None = refl
      either (Some clash) = refl

  -- the one instance of the ticket
  one_instance : (i : ℕ) (a : ActiveRun) (j : Instance) → slice_get runs i ≡ Some (Some a) → active_at v a.ticket ≡ Some j → j ≡ instance_in a
  one_instance i a j at active =
      let same : Some j ≡ Some (instance_in a) = sym active ∙ (is_active v runs kept i a at).active in
      cc

  committed_machine : (w : BookView) (i : ℕ) (number : ℕ) (j : Instance) → w ≡ committed_in v number (row_in v j) →
      machine_of w (set runs i None) ≡ record (with_begun machine i None true) { history = machine.history ++ j ∷ [] }
  committed_machine w i number j after =
      let row = row_in v j in
      let e : Ending = ending.Committed (length v.rows + 1) in
      let history : history_of (v.rows ++ row ∷ []) ≡ history_of v.rows ++ j ∷ [] = history-push v.rows row in
      let more : length (v.endings ++ e ∷ []) ≡ length v.endings + 1 = omega (arith, length-append v.endings (e ∷ [])) in
      ap (λ (x : BookView). machine_of x (set runs i None)) after
      ∙ (λ k. record { history = history k; begun = begun-set runs i None k; endings = more k; floor = v.floor })

  clashed_machine : (w : BookView) (i : ℕ) (number : ℕ) (e : Ending) → w ≡ ended_in v number e →
      machine_of w (set runs i None) ≡ with_begun machine i None true
  clashed_machine w i number e after =
      let more : length (v.endings ++ e ∷ []) ≡ length v.endings + 1 = omega (arith, length-append v.endings (e ∷ [])) in
      ap (λ (x : BookView). machine_of x (set runs i None)) after
      ∙ (λ k. record { history = history_of v.rows; begun = begun-set runs i None k; endings = more k; floor = v.floor })

  by_commit : (w : BookView) (i : ℕ) (a : ActiveRun) (r : Reply) → slice_get runs i ≡ Some (Some a) → IsCommitReply v w a r →
      (r, machine_of w (set runs i None)) ≡ commit_by (clash_here (instance_in a)) machine i (instance_in a)
  by_commit w i a (reply.Committed n) at h =
      let one = one_instance i a h.instance at h.active in
      let none : None ≡ clash_here (instance_in a) =
      clash_is (commits_in v) h.instance.start (done_in v h.instance).changes None h.apart ∙ ap clash_here one in
      let size : length v.rows ≡ length machine.history = omega (arith, length-map v.rows instance_of) in
      ap (λ k. (reply.Committed k, machine_of w (set runs i None))) (h.number ∙ ap (λ k. k + 1) size)
      ∙ ap (λ m. (reply.Committed (length machine.history + 1), m)) (committed_machine w i a.ticket.number h.instance h.after)
      ∙ ap (λ j. commit_by None machine i j) one
      ∙ ap (λ o. commit_by o machine i (instance_in a)) none
  by_commit w i a (reply.Clashed clash) at h =
      let one = one_instance i a h.instance at h.active in
      let some : Some (clash.cell, clash.number) ≡ clash_here (instance_in a) =
      clash_is (commits_in v) h.instance.start (done_in v h.instance).changes (Some (clash.cell, clash.number)) h.clashed ∙ ap clash_here one in
      ap (λ m. (reply.Clashed clash, m)) (clashed_machine w i a.ticket.number (ending.Clashed (row_in v h.instance) clash) h.after)
      ∙ ap (λ o. commit_by o machine i (instance_in a)) some
  by_commit w i a _ at h = absurd h

  commit_is : (w : BookView) (i : ℕ) (a : ActiveRun) (r : Reply) → slice_get runs i ≡ Some (Some a) → a.ready ≡ true → IsCommitReply v w a r →
      (r, machine_of w (set runs i None)) ≡ machine_step (draft_tree v.set) v.opening (event.Commit i) machine
  commit_is w i a r at ready h =
      by_commit w i a r at h
      ∙ ap (λ b. cond b (commit_by (clash_here (instance_in a)) machine i (instance_in a)) (reply.NotReady, machine)) (sym ready)
      ∙ commit_event i a at

  over_commit : (w : BookView) (a : ActiveRun) (r : Reply) → IsCommitReply v w a r → (w.set ≡ v.set) × (w.opening ≡ v.opening)
  over_commit w a (reply.Committed n) h = (ap (λ (x : BookView). x.set) h.after, ap (λ (x : BookView). x.opening) h.after)
  over_commit w a (reply.Clashed clash) h = (ap (λ (x : BookView). x.set) h.after, ap (λ (x : BookView). x.opening) h.after)
  over_commit w a _ h = absurd h

  leaves_commit : (w : BookView) (a : ActiveRun) (r : Reply) → IsCommitReply v w a r → Leaves v w a.ticket.number
  leaves_commit w a (reply.Committed n) h = subst (λ x. Leaves v x a.ticket.number) (sym h.after) (leaves_committed v a.ticket.number (row_in v h.instance))
  leaves_commit w a (reply.Clashed clash) h =
      subst (λ x. Leaves v x a.ticket.number) (sym h.after) (leaves_ended v a.ticket.number (ending.Clashed (row_in v h.instance) clash))
  leaves_commit w a _ h = absurd h

  -- ---- an instance was taken out of its place

  module _ (i : ℕ) (a : ActiveRun) (at : slice_get runs i ≡ Some (Some a)) (ps : List (Option ActiveRun)) (taken : ps ≡ set runs i None) where
    pub engine-committed : (w : BookView) (r : Reply) → IsCommitReply v w a r → IsEngine w ps
    engine-committed w r h = subst (IsEngine w) (sym taken) (engine-leaves v runs kept w i a at (leaves_commit w a r h))

    pub commit_applies : (w : BookView) (r : Reply) → a.ready ≡ true → IsCommitReply v w a r → Applies (event.Commit i) (view_of v runs) (view_of w ps) (Ok r)
    commit_applies w r ready h =
        answered (over_commit w a r h) (ap (λ qs. (r, machine_of w qs)) taken ∙ commit_is w i a r at ready h)

    -- or is put back
    back_again : (b : ActiveRun) → b ≡ a → set ps i (Some b) ≡ runs
    back_again b back = put-back runs ps i None (Some b) taken ∙ ap (λ x. set runs i (Some x)) back ∙ set-same runs i (Some a) at

    pub engine-back : (w : BookView) (b : ActiveRun) → w ≡ v → b ≡ a → IsEngine w (set ps i (Some b))
    engine-back w b same back = subst (λ x. IsEngine x (set ps i (Some b))) (sym same) (subst (IsEngine v) (sym (back_again b back)) kept)

    pub commit_early : a.ready ≡ false → Applies (event.Commit i) (view_of v runs) (view_of v (set ps i (Some a))) (Ok reply.NotReady)
    commit_early early =
        answered (refl, refl)
        (ap (λ qs. (reply.NotReady, machine_of v qs)) (back_again a refl)
        ∙ ap (λ b. cond b (commit_by (clash_here (instance_in a)) machine i (instance_in a)) (reply.NotReady, machine)) (sym early)
        ∙ commit_event i a at)

    pub commit_lacks : (w : BookView) (b : ActiveRun) (f : AllocError) → a.ready ≡ true → w ≡ v → b ≡ a → Applies (event.Commit i) (view_of v runs) (view_of w (set ps i (Some b))) (Err f)
    commit_lacks w b f ready same back =
        lacked (ap (λ x. view_of x (set ps i (Some b))) same ∙ ap (view_of v) (back_again b back)) (commit_takes_memory i a at ready)
