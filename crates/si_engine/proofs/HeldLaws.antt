-- Laws of the active instances of a book.
use Rattle.std.proofs.Common.{◌≡◌, ◌+◌, true, List, [], ◌∷◌, ◌++◌, length, take, ap, sym, ◌∙◌, subst, arith, ℤ}
use Rattle.std.specs.Prelude.{slice_get, Some, None}
use Rattle.std.specs.Box.{with_value}
use Rattle.std.proofs.lemmas.Option.{slice_get_past}
use Rattle.std.proofs.lemmas.List.{length-append}
use Rattle.prog_tree.specs.declared.deed.Cause.{Cause}
use Rattle.prog_tree.specs.declared.deed.Deed.{Deed}
use Rattle.prog_tree.specs.declared.deed.End.{End}
use Rattle.prog_tree.specs.declared.deed.End.TheVariants.{Ready, Aborted}
use Rattle.prog_tree.specs.declared.table.TableDecl.{TableDecl}
use Rattle.prog_tree.specs.Evaluation.{Evaluation, eval}
use Rattle.prog_tree.specs.Tree.{draft_tree, program_tree}
use Rattle.prog_run.specs.View.{RunView, SameBegin, IsTrueAt, meaning, result_of}
use Rattle.history_book.specs.History.{Instance}
use Rattle.history_book.specs.Refusals.{IsOfInstance}
use Rattle.history_book.specs.Runs.{SameProgram, IsOwnRun, StaysOwn}
use Rattle.history_book.specs.Ticket.{TicketView}
use Rattle.history_book.specs.View.{BookView, active_at, state_in, done_in}
use Rattle.history_book.proofs.HistoryLaws.{eval_of-found}
use Rattle.si_engine.specs.Machine.{stepped, deed_or_end, at_end}
use Rattle.si_engine.specs.View.{instance_in, active_in, IsHeld, IsActive}
use Rattle.si_engine.specs.declared.active.ActiveRun.{ActiveRun}
use Rattle.si_engine.specs.declared.event.Reply.TheVariants as reply

-- the book's ticket and run of an active instance
pub of_instance : (v : BookView) (a : ActiveRun) → IsActive v a → IsOfInstance v a.ticket a.run.value
of_instance v a active = record { instance = instance_in a; active = active.active; own = active.held.own }

-- ---- a run does what its instance does

meaning_is : (v : BookView) (i : Instance) (run : RunView) → SameProgram v i run → meaning run (state_in v i.start) ≡ done_in v i
meaning_is v i run same =
    let m = state_in v i.start in
    ap (λ (tables : List TableDecl). eval tables (program_tree run.program) run.args m) same.tables
    ∙ ap (λ (args : List ℤ). eval v.set.tables.items (program_tree run.program) args m) same.args
    ∙ sym (eval_of-found (draft_tree v.set) i (program_tree run.program) m same.program)

-- one deed more than these is the next one
next_deed : (all before : List Deed) (d : Deed) → take (length (before ++ d ∷ [])) all ≡ before ++ d ∷ [] → slice_get all (length before) ≡ Some d
next_deed [] [] d same = absurd (cc)
next_deed (x ∷ all) [] d same = let one : x ≡ d = cc in ap (λ (y : Deed). Some y) one
next_deed [] (b ∷ before) d same = absurd (cc)
next_deed (x ∷ all) (b ∷ before) d same = let rest : take (length (before ++ d ∷ [])) all ≡ before ++ d ∷ [] = cc in next_deed all before d rest

no_next_deed : (all before : List Deed) → all ≡ before → slice_get all (length before) ≡ None
no_next_deed all before same = ap (λ (ds : List Deed). slice_get ds (length before)) same ∙ slice_get_past before (length before) (omega arith)

-- an active instance a whose run has come to `run`
module _ (v : BookView) (a : ActiveRun) (before run : RunView) (is : before ≡ a.run.value) (held : IsHeld v a.ticket.number a) (own : StaysOwn (state_in v a.ticket.start) before run) where
  same : SameBegin a.run.value run
  same = subst (λ (r : RunView). SameBegin r run) is own.same

  abbrev now : ActiveRun
  now = record a { run = with_value a.run run }

  abbrev does : Evaluation
  does = done_in v (instance_in a)

  pub instance_stays : instance_in now ≡ instance_in a
  instance_stays = λ j. record { program = a.program; args = same.args j; start = a.ticket.start }

  program_stays : SameProgram v (instance_in a) run
  program_stays = record {
    tables = same.tables ∙ held.own.same.tables;
    program = held.own.same.program ∙ ap (λ p. Some (program_tree p)) (sym same.program);
    args = same.args;
  }

  was : IsTrueAt a.run.value (state_in v a.ticket.start)
  was = held.is_true (state_in v a.ticket.start) held.own.found

  was_meaning : meaning a.run.value (state_in v a.ticket.start) ≡ does
  was_meaning = meaning_is v (instance_in a) a.run.value held.own.same

  is_meaning : meaning run (state_in v a.ticket.start) ≡ does
  is_meaning = meaning_is v (instance_in a) run program_stays

  ended : (e : End) → run.end ≡ Some e → result_of e run ≡ does
  ended e over = (own.true_run (state_in v a.ticket.start) own.found).ending e over ∙ is_meaning

  had_ended : (e : End) → a.run.value.end ≡ Some e → result_of e a.run.value ≡ does
  had_ended e over = was.ending e over ∙ was_meaning

  pub held_stays : (a.ready ≡ true → run.end ≡ Some Ready) → IsHeld v a.ticket.number now
  held_stays ready = record {
    place = held.place;
    start = held.start;
    own = subst (λ i. IsOwnRun v i run) (sym instance_stays) (record { same = program_stays; found = own.found });
    is_true = own.true_run;
    ready = ready;
  }

  -- a deed more
  module _ (d : Deed) (more : run.deeds ≡ a.run.value.deeds ++ d ∷ []) where
    next_is : slice_get does.deeds (length a.run.value.deeds) ≡ Some d
    next_is =
        let first = (own.true_run (state_in v a.ticket.start) own.found).deeds in
        let first_of : take (length run.deeds) does.deeds ≡ run.deeds = subst (λ (e : Evaluation). take (length run.deeds) e.deeds ≡ run.deeds) is_meaning first in
        next_deed does.deeds a.run.value.deeds d (subst (λ ds. take (length ds) does.deeds ≡ ds) more first_of)

    pub did_step : (reply.Did d, Some (active_in now)) ≡ stepped does (active_in a)
    did_step =
        let steps : length run.deeds ≡ length a.run.value.deeds + 1 = ap length more ∙ omega (arith, length-append a.run.value.deeds (d ∷ [])) in
        let here : Some (active_in now) ≡ Some (record (active_in a) { steps = length a.run.value.deeds + 1 }) =
        λ j. Some (record { instance = instance_stays j; steps = steps j; ready = a.ready }) in
        ap (λ o. (reply.Did d, o)) here ∙ ap (λ o. deed_or_end o does (active_in a)) (sym next_is)

    pub did_held : IsHeld v a.ticket.number now
    did_held = held_stays (λ ready.
        let all : does.deeds ≡ a.run.value.deeds = ap (λ (e : Evaluation). e.deeds) (sym (had_ended Ready (held.ready ready))) in
        let none = no_next_deed does.deeds a.run.value.deeds all in
        let never : None ≡ Some d = sym none ∙ next_is in
        absurd (cc))

  -- the end
  module _ (e : End) (over : run.end ≡ Some e) (no_more : run.deeds ≡ a.run.value.deeds) where
    none_is : slice_get does.deeds (length a.run.value.deeds) ≡ None
    none_is = no_next_deed does.deeds a.run.value.deeds (ap (λ (x : Evaluation). x.deeds) (sym (ended e over)) ∙ no_more)

    end_step : at_end e run.replies (active_in a) ≡ stepped does (active_in a)
    end_step =
        ap (λ (x : Evaluation). at_end x.ending x.replies (active_in a)) (ended e over)
        ∙ ap (λ o. deed_or_end o does (active_in a)) (sym none_is)

  pub ready_step : (no_more : run.deeds ≡ a.run.value.deeds) → run.end ≡ Some Ready →
      (reply.Ready run.replies, Some (active_in (record now { ready = true }))) ≡ stepped does (active_in a)
  ready_step no_more over =
      let here : Some (active_in (record now { ready = true })) ≡ Some (record (active_in a) { ready = true }) =
      λ j. Some (record { instance = instance_stays j; steps = length (no_more j); ready = true }) in
      ap (λ o. (reply.Ready run.replies, o)) here ∙ end_step Ready over no_more

  pub aborted_step : (cause : Cause) → (no_more : run.deeds ≡ a.run.value.deeds) → run.end ≡ Some (Aborted cause) →
      (reply.Aborted cause, None) ≡ stepped does (active_in a)
  aborted_step cause no_more over = end_step (Aborted cause) over no_more

  -- one that has aborted has not answered that it is ready
  pub aborted_held : (cause : Cause) → run.end ≡ Some (Aborted cause) → IsHeld v a.ticket.number now
  aborted_held cause over = held_stays (λ ready.
      let one : result_of Ready a.run.value ≡ result_of (Aborted cause) run = had_ended Ready (held.ready ready) ∙ sym (ended (Aborted cause) over) in
      let never : Ready ≡ Aborted cause = ap (λ (x : Evaluation). x.ending) one in
      absurd (cc))

-- it stays active where it is held
pub active_stays : (v : BookView) (a b : ActiveRun) → IsActive v a → b.ticket ≡ a.ticket → instance_in b ≡ instance_in a → IsHeld v a.ticket.number b → IsActive v b
active_stays v a b active ticket instance held = record {
  active = ap (active_at v) ticket ∙ active.active ∙ ap (λ i. Some i) (sym instance);
  held = subst (λ (t : TicketView). IsHeld v t.number b) (sym ticket) held;
}
