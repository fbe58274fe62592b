-- What an engine does is what the machine does.
use Rattle.std.proofs.Common.{◌≡◌, ℕ, ◌+◌, ◌<◌, ◌≤◌, ◌==◌, Bool, true, false, List, [], ◌∷◌, ◌++◌, length, set, refl, ap, sym, ◌∙◌, subst, cond, ◌⊎◌, inl, inr, arith, Result, Ok, Err, IfOk, OnErr}
use Rattle.std.specs.Prelude.{slice_get, Option, Some, None, is_none, option_map}
use Rattle.std.specs.BTreeMap.{is_at}
use Rattle.std.specs.Map.{lookup}
use Rattle.std.specs.Ordering.{nat_cmp}
use Rattle.std.proofs.lemmas.Bool.Decides.{nat_tests}
use Rattle.std.proofs.lemmas.List.{map-set, length-map, length-set, length-append}
use Rattle.std.proofs.lemmas.Option.{slice_get-map, slice_get_within}
use Rattle.std.specs.declared.alloc.AllocError.{AllocError}
use Rattle.std.proofs.lemmas.Bool.{cases_eq}
use Rattle.prog_tree.specs.declared.deed.Deed.{Deed}
use Rattle.prog_tree.specs.declared.deed.End.{End}
use Rattle.prog_tree.specs.declared.deed.End.TheVariants.{Ready, Aborted}
use Rattle.prog_tree.specs.Evaluation.{Evaluation}
use Rattle.prog_tree.specs.Tree.{draft_tree}
use Rattle.prog_tree.proofs.Elements.{get-set_same, get-set_other}
use Rattle.prog_run.specs.Looks.{AreFound}
use Rattle.history_book.specs.History.{Instance, evaluation}
use Rattle.history_book.specs.Runs.{ended_in, withdrawn_in, committed_in}
use Rattle.history_book.specs.View as book
use Rattle.history_book.specs.View.{BookView, instance_of, history_of, with_start, without, done_in}
use Rattle.history_book.specs.declared.instances.row.Ending.{Ending}
use Rattle.history_book.specs.declared.instances.row.HistoryRow.{HistoryRow}
use Rattle.history_book.proofs.CommitLaws.{state_in-committed}
use Rattle.si_engine.specs.Machine.{Active, Machine, least_start, at_end, deed_or_end, stepped, with_begun, if_active, with_active, machine_step}
use Rattle.si_engine.specs.View.{EngineView, instance_in, active_in, begun_of, machine_of, IsHeld, IsActive, IsEngine, StaysOver, IsAnswerTo, answer_without, MayLackMemory, Applies, IsAfterStep, numbered, takes_memory}
use Rattle.si_engine.specs.declared.active.ActiveRun.{ActiveRun}
use Rattle.si_engine.specs.declared.event.Event.{Event}
use Rattle.si_engine.specs.declared.event.Event.TheVariants as event
use Rattle.si_engine.specs.declared.event.Reply.{Reply}
use Rattle.si_engine.specs.declared.event.Reply.TheVariants as reply
use Rattle.si_engine.proofs.PlaceLaws.{set-same, put-back, numbered-stays, numbered-ends, numbered-found, least-numbered}

-- ---- what an event leaves

-- what contracts see of an engine
abbrev pub view_of : BookView → List (Option ActiveRun) → EngineView
view_of w ps = record { set = w.set; opening = w.opening; machine = machine_of w ps }

-- what an event does to the view of an engine, it does to what contracts see of it
pub applied : {e : Event} {before old new : EngineView} {r : Result Reply AllocError} → before ≡ old → Applies e before new r → Applies e old new r
applied {e = e} {new = new} {r = r} seen applies = subst (λ (x : EngineView). Applies e x new r) seen applies

-- an event was answered
pub answered : {e : Event} {old new : EngineView} {r : Reply} → StaysOver old new → IsAnswerTo e old new r → Applies e old new (Ok r)
answered over step = record { over = over; step = step; err = tt; memory = tt }

-- an event was not, since memory ran out
pub lacked : {e : Event} {old new : EngineView} {f : AllocError} → new ≡ old → MayLackMemory e old → Applies e old new (Err f)
lacked same memory = record { over = (ap (λ (x : EngineView). x.set) same, ap (λ (x : EngineView). x.opening) same); step = tt; err = same; memory = memory }

-- ---- what a book keeps where an instance leaves it

pub record Leaves (v w : BookView) (number : ℕ) : Type 0 where
  pub begun : w.begun ≡ v.begun
  pub active : w.active ≡ without number v.active
  pub held : (n : ℕ) (b : ActiveRun) → IsHeld v n b → IsHeld w n b

-- what is held of an instance hangs on the set, the opening rows and the commits of its book alone
pub held_alike : (v : BookView) (endings : List Ending) (active : List (ℕ × Instance)) (begun floor n : ℕ) (b : ActiveRun) → IsHeld v n b
    → IsHeld (record v { endings = endings; active = active; begun = begun; floor = floor }) n b
held_alike v endings active begun floor n b h = record {
  place = h.place;
  start = h.start;
  own = record { same = record { tables = h.own.same.tables; program = h.own.same.program; args = h.own.same.args }; found = h.own.found };
  is_true = h.is_true;
  ready = h.ready;
}

pub leaves_ended : (v : BookView) (number : ℕ) (e : Ending) → Leaves v (ended_in v number e) number
leaves_ended v number e = record {
  begun = refl;
  active = refl;
  held = held_alike v _ _ _ _;
}

leaves_withdrawn : (v : BookView) (number : ℕ) → Leaves v (withdrawn_in v number) number
leaves_withdrawn v number = record {
  begun = refl;
  active = refl;
  held = held_alike v _ _ _ _;
}

pub leaves_committed : (v : BookView) (number : ℕ) (row : HistoryRow) → Leaves v (committed_in v number row) number
leaves_committed v number row = record {
  begun = refl;
  active = refl;
  held = λ n b h.
      let more : length (v.rows ++ row ∷ []) ≡ length v.rows + 1 = omega (arith, length-append v.rows (row ∷ [])) in
      let start : b.ticket.start ≤ length v.rows = h.start in
      record {
        place = h.place;
        start = omega (arith, more, start);
        own = record {
          same = record { tables = h.own.same.tables; program = h.own.same.program; args = h.own.same.args };
          found = subst (λ m. AreFound m b.run.value.looks) (sym (state_in-committed v number row b.ticket.start start)) h.own.found;
        };
        is_true = h.is_true;
        ready = h.ready;
      };
}

-- ---- an instance that is active here is active in the book

pub begun_at : (runs : List (Option ActiveRun)) (i : ℕ) (p : Option ActiveRun) → slice_get runs i ≡ Some p → slice_get (begun_of runs) i ≡ Some (option_map active_in p)
begun_at runs i p at = slice_get-map (option_map active_in) runs i ∙ ap (option_map (option_map active_in)) at

pub begun-set : (runs : List (Option ActiveRun)) (i : ℕ) (p : Option ActiveRun) → begun_of (set runs i p) ≡ set (begun_of runs) i (option_map active_in p)
begun-set runs i p = map-set (option_map active_in) runs i p

with_own_start : (i : Instance) → with_start i.start (Some i) ≡ Some i
with_own_start i =
    let own : (i.start == i.start) ≡ true = grind (arith, nat_tests) in
    ap (λ b. cond b (Some i) None) own

-- whatever a step of an active instance answers, takes memory
stepped_takes_memory : (e : Evaluation) (a : Active) → takes_memory (stepped e a).0 ≡ true
stepped_takes_memory e a = either (slice_get e.deeds a.steps)
  where
    over : (end : End) → takes_memory (at_end end e.replies a).0 ≡ true
    over Ready = refl
    over (Aborted cause) = refl

    either : (next : Option Deed) → takes_memory (deed_or_end next e a).0 ≡ true
    either (Some deed) = refl
    either None = over e.ending

module _ (v : BookView) (runs : List (Option ActiveRun)) (kept : IsEngine v runs) where
  pub is_active : (i : ℕ) (a : ActiveRun) → slice_get runs i ≡ Some (Some a) → IsActive v a
  is_active i a at =
      let held = kept.held i a at in
      let from_zero : i ≡ 0 + i = omega arith in
      let found : lookup (is_at (nat_cmp a.ticket.number)) v.active ≡ Some (instance_in a) =
      ap (λ n. lookup (is_at (nat_cmp n)) v.active) (held.place ∙ from_zero)
      ∙ ap (lookup (is_at (nat_cmp (0 + i)))) kept.active
      ∙ numbered-found 0 (begun_of runs) i (active_in a) (begun_at runs i (Some a) at) in
      record {
        active = ap (with_start a.ticket.start) found ∙ with_own_start (instance_in a);
        held = subst (λ n. IsHeld v n a) (sym held.place) held;
      }

  -- one goes on,
  pub engine-stays :
      (i : ℕ) (a b : ActiveRun) → slice_get runs i ≡ Some (Some a) → IsHeld v a.ticket.number b → instance_in b ≡ instance_in a → IsEngine v (set runs i (Some b))
  engine-stays i a b at held same = record {
    counted = length-set runs i (Some b) ∙ kept.counted;
    active =
        kept.active
        ∙ sym (numbered-stays 0 (begun_of runs) i (active_in a) (active_in b) (begun_at runs i (Some a) at) same)
        ∙ ap (numbered 0) (sym (begun-set runs i (Some b)));
    held = λ n x there. go n x there (cases_eq n i);
  }
    where
      go : (n : ℕ) (x : ActiveRun) → slice_get (set runs i (Some b)) n ≡ Some (Some x) → (n ≡ i) ⊎ (n ≡ i → ⊥) → IsHeld v n x
      go n x there (inl here) =
          let is : Some (Some b) ≡ Some (Some x) = sym (get-set_same runs i (Some b) (slice_get_within runs i (Some a) at)) ∙ ap (slice_get (set runs i (Some b))) (sym here) ∙ there in
          let one : b ≡ x = cc in
          subst (IsHeld v n) one (subst (λ k. IsHeld v k b) ((kept.held i a at).place ∙ sym here) held)
      go n x there (inr other) = kept.held n x (sym (get-set_other runs i n (Some b) other) ∙ there)

  -- or leaves,
  pub engine-leaves : (w : BookView) (i : ℕ) (a : ActiveRun) → slice_get runs i ≡ Some (Some a) → Leaves v w a.ticket.number → IsEngine w (set runs i None)
  engine-leaves w i a at leaves = record {
    counted = length-set runs i None ∙ kept.counted ∙ sym leaves.begun;
    active =
        let from_zero : i ≡ 0 + i = omega arith in
        leaves.active
        ∙ ap (λ n. without n v.active) ((kept.held i a at).place ∙ from_zero)
        ∙ ap (without (0 + i)) kept.active
        ∙ sym (numbered-ends 0 (begun_of runs) i (active_in a) (begun_at runs i (Some a) at))
        ∙ ap (numbered 0) (sym (begun-set runs i None));
    held = λ n x there. leaves.held n x (go n x there (cases_eq n i));
  }
    where
      go : (n : ℕ) (x : ActiveRun) → slice_get (set runs i None) n ≡ Some (Some x) → (n ≡ i) ⊎ (n ≡ i → ⊥) → IsHeld v n x
      go n x there (inl here) =
          let is : Some None ≡ Some (Some x) = sym (get-set_same runs i None (slice_get_within runs i (Some a) at)) ∙ ap (slice_get (set runs i None)) (sym here) ∙ there in
          absurd (cc)
      go n x there (inr other) = kept.held n x (sym (get-set_other runs i n None other) ∙ there)

  -- the instance of a number goes on where it is active,
  pub with_active_is : (i : ℕ) (a : ActiveRun) (go : Active → Reply × Machine) → slice_get runs i ≡ Some (Some a) → with_active (machine_of v runs) i go ≡ go (active_in a)
  with_active_is i a go at = ap (λ o. if_active o (machine_of v runs) go) (begun_at runs i (Some a) at)

  -- and else there is none
  without_is : (i : ℕ) (r : Reply) (ps : List (Option ActiveRun)) (go : Active → Reply × Machine) → answer_without (slice_get runs i) ≡ Some r → ps ≡ runs →
      (r, machine_of v ps) ≡ with_active (machine_of v runs) i go
  without_is i r ps go none same =
      ap (λ qs. (r, machine_of v qs)) same
      ∙ by_place (slice_get runs i) none
      ∙ ap (λ o. if_active o (machine_of v runs) go) (sym (slice_get-map (option_map active_in) runs i))
    where
      by_place : (found : Option (Option ActiveRun)) → answer_without found ≡ Some r → (r, machine_of v runs) ≡ if_active (option_map (option_map active_in) found) (machine_of v runs) go
      by_place None is = let one : r ≡ reply.NoSuchInstance = cc in ap (λ q. (q, machine_of v runs)) one
      by_place (Some None) is = let one : r ≡ reply.Ended = cc in ap (λ q. (q, machine_of v runs)) one
      by_place (Some (Some a)) is = absurd (cc)

  abbrev step_event : event.the_data → Reply × Machine
  step_event e = machine_step (draft_tree v.set) v.opening e (machine_of v runs)

  pub abort_without : (i : ℕ) (r : Reply) (ps : List (Option ActiveRun)) → answer_without (slice_get runs i) ≡ Some r → ps ≡ runs → Applies (event.Abort i) (view_of v runs) (view_of v ps) (Ok r)
  abort_without i r ps none same = answered (refl, refl) (without_is i r ps _ none same)

  -- ---- an event on an active instance

  step_takes_memory : (i : ℕ) (a : ActiveRun) → slice_get runs i ≡ Some (Some a) → takes_memory (step_event (event.Step i)).0 ≡ true
  step_takes_memory i a at =
      let s = machine_of v runs in
      ap (λ (x : Reply × Machine). takes_memory x.0)
      (with_active_is i a (λ b. let x = stepped (evaluation (draft_tree v.set) v.opening s.history b.instance) b in (x.0, with_begun s i x.1 (is_none x.1))) at)
      ∙ stepped_takes_memory (evaluation (draft_tree v.set) v.opening s.history (instance_in a)) (active_in a)

  -- the machine where the place of a number has changed
  pub machine-set : (w : BookView) (i : ℕ) (p : Option ActiveRun) (ends : Bool) → history_of w.rows ≡ history_of v.rows → w.floor ≡ v.floor →
      length w.endings ≡ cond ends (length v.endings + 1) (length v.endings) →
      machine_of w (set runs i p) ≡ with_begun (machine_of v runs) i (option_map active_in p) ends
  machine-set w i p ends history floor endings =
      λ j. record { history = history j; begun = begun-set runs i p j; endings = endings j; floor = floor j }

  stepped_is :
      (w : BookView) (i : ℕ) (a : ActiveRun) (after : Option ActiveRun) (r : Reply) → slice_get runs i ≡ Some (Some a) →
      (r, option_map active_in after) ≡ stepped (done_in v (instance_in a)) (active_in a) → IsAfterStep v w a after →
      (r, machine_of w (set runs i after)) ≡ step_event (event.Step i)
  stepped_is w i a after r at step left =
      let s = machine_of v runs in
      ap (λ m. (r, m)) (machine_is after left)
      ∙ ap (λ (x : Reply × Option Active). (x.0, with_begun s i x.1 (is_none x.1))) step
      ∙ sym (with_active_is i a (λ b. let x = stepped (evaluation (draft_tree v.set) v.opening s.history b.instance) b in (x.0, with_begun s i x.1 (is_none x.1))) at)
    where
      machine_is : (p : Option ActiveRun) → IsAfterStep v w a p →
          machine_of w (set runs i p) ≡ with_begun (machine_of v runs) i (option_map active_in p) (is_none (option_map active_in p))
      machine_is (Some b) h = machine-set w i (Some b) false (ap (λ (x : BookView). history_of x.rows) h.0) (ap (λ (x : BookView). x.floor) h.0) (ap (λ (x : BookView). length x.endings) h.0)
      machine_is None h =
          let more : length (v.endings ++ h.0 ∷ []) ≡ length v.endings + 1 = omega (arith, length-append v.endings (h.0 ∷ [])) in
          machine-set w i None true (ap (λ (x : BookView). history_of x.rows) h.1) (ap (λ (x : BookView). x.floor) h.1) (ap (λ (x : BookView). length x.endings) h.1 ∙ more)

  stays_over : (w : BookView) (a : ActiveRun) (after : Option ActiveRun) → IsAfterStep v w a after → (w.set ≡ v.set) × (w.opening ≡ v.opening)
  stays_over w a (Some b) left = (ap (λ (x : BookView). x.set) left.0, ap (λ (x : BookView). x.opening) left.0)
  stays_over w a None left = (ap (λ (x : BookView). x.set) left.1, ap (λ (x : BookView). x.opening) left.1)

  unchanged : (w : BookView) (i : ℕ) (a : ActiveRun) (after : Option ActiveRun) → slice_get runs i ≡ Some (Some a) → IsAfterStep v w a after →
      option_map active_in after ≡ Some (active_in a) → view_of w (set runs i after) ≡ view_of v runs
  unchanged w i a (Some b) at left same =
      let begun : begun_of (set runs i (Some b)) ≡ begun_of runs =
      begun-set runs i (Some b)
      ∙ ap (set (begun_of runs) i) same
      ∙ set-same (begun_of runs) i (Some (active_in a)) (begun_at runs i (Some a) at) in
      ap (λ x. view_of x (set runs i (Some b))) left.0
      ∙ ap (λ bs. record { set = v.set; opening = v.opening; machine = record (machine_of v runs) { begun = bs } }) begun
  unchanged w i a None at left same = absurd (cc)

  engine-after : (w : BookView) (i : ℕ) (a : ActiveRun) (after : Option ActiveRun) → slice_get runs i ≡ Some (Some a) → IsAfterStep v w a after → IsEngine w (set runs i after)
  engine-after w i a (Some b) at left = subst (λ x. IsEngine x (set runs i (Some b))) (sym left.0) (engine-stays i a b at left.1 left.2)
  engine-after w i a None at left = engine-leaves w i a at (subst (λ x. Leaves v x a.ticket.number) (sym left.1) (leaves_ended v a.ticket.number left.0))

  aborted_is : (w : BookView) (i : ℕ) (a : ActiveRun) → slice_get runs i ≡ Some (Some a) → w ≡ withdrawn_in v a.ticket.number →
      (reply.Withdrawn, machine_of w (set runs i None)) ≡ step_event (event.Abort i)
  aborted_is w i a at left =
      let machine = machine-set w i None false (ap (λ (x : BookView). history_of x.rows) left) (ap (λ (x : BookView). x.floor) left) (ap (λ (x : BookView). length x.endings) left) in
      ap (λ m. (reply.Withdrawn, m)) machine
      ∙ sym (with_active_is i a (λ b. (reply.Withdrawn, with_begun (machine_of v runs) i None false)) at)

  -- ---- an instance was taken out of its place

  module _ (i : ℕ) (a : ActiveRun) (at : slice_get runs i ≡ Some (Some a)) (ps : List (Option ActiveRun)) (taken : ps ≡ set runs i None) where
    pub still_within : i < length ps
    still_within = let within = slice_get_within runs i (Some a) at in omega (arith, ap length taken, length-set runs i None, within)

    pub engine-stepped : (w : BookView) (after : Option ActiveRun) → IsAfterStep v w a after → IsEngine w (set ps i after)
    engine-stepped w after left = subst (IsEngine w) (sym (put-back runs ps i None after taken)) (engine-after w i a after at left)

    pub step_applies : (w : BookView) (after : Option ActiveRun) (r : Result Reply AllocError) → IsAfterStep v w a after →
        IfOk r (λ told. (told, option_map active_in after) ≡ stepped (done_in v (instance_in a)) (active_in a)) →
        OnErr r (option_map active_in after ≡ Some (active_in a)) →
        Applies (event.Step i) (view_of v runs) (view_of w (set ps i after)) r
    step_applies w after (Ok told) left step same =
        answered (stays_over w a after left)
        (ap (λ qs. (told, machine_of w qs)) (put-back runs ps i None after taken) ∙ stepped_is w i a after told at step left)
    step_applies w after (Err f) left step same =
        lacked (ap (view_of w) (put-back runs ps i None after taken) ∙ unchanged w i a after at left same) (step_takes_memory i a at)

    pub engine-aborted : (w : BookView) → w ≡ withdrawn_in v a.ticket.number → IsEngine w ps
    engine-aborted w left =
        subst (IsEngine w) (sym taken) (engine-leaves w i a at (subst (λ x. Leaves v x a.ticket.number) (sym left) (leaves_withdrawn v a.ticket.number)))

    pub abort_applies : (w : BookView) → w ≡ withdrawn_in v a.ticket.number → Applies (event.Abort i) (view_of v runs) (view_of w ps) (Ok reply.Withdrawn)
    abort_applies w left =
        answered (ap (λ (x : BookView). x.set) left, ap (λ (x : BookView). x.opening) left)
        (ap (λ qs. (reply.Withdrawn, machine_of w qs)) taken ∙ aborted_is w i a at left)

  pub machine-vacuum : (w : BookView) → w ≡ record v { floor = book.least_start (length v.rows) v.active } →
      machine_of w runs ≡ record (machine_of v runs) { floor = least_start (length (machine_of v runs).history) (machine_of v runs).begun }
  machine-vacuum w is =
      let size : length v.rows ≡ length (history_of v.rows) = omega (arith, length-map v.rows instance_of) in
      let floor : book.least_start (length v.rows) v.active ≡ least_start (length (history_of v.rows)) (begun_of runs) =
      ap (book.least_start (length v.rows)) kept.active
      ∙ least-numbered (length v.rows) 0 (begun_of runs)
      ∙ ap (λ n. least_start n (begun_of runs)) size in
      ap (λ x. machine_of x runs) is ∙ ap (λ n. record (machine_of v runs) { floor = n }) floor

  pub engine-vacuum : (n : ℕ) → IsEngine (record v { floor = n }) runs
  engine-vacuum n = record { counted = kept.counted; active = kept.active; held = λ i a at. held_alike v _ _ _ _ i a (kept.held i a at) }
