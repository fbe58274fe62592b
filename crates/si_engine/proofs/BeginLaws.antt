-- What a begin leaves is what the machine leaves.
use Rattle.std.proofs.Common.{◌≡◌, ℕ, ◌+◌, ◌≤◌, ◌==◌, nat_lt, ◌||◌, Bool, true, false, not, List, [], ◌∷◌, ◌++◌, length, refl, ap, sym, ◌∙◌, subst, cond, ◌⊎◌, inl, inr, arith, ℤ, Box, Result, IfOk, OnErr}
use Rattle.std.specs.Prelude.{nat_le, slice_get, Option, Some, None, option_map}
use Rattle.std.proofs.lemmas.Bool.Decides.{nat_tests}
use Rattle.std.proofs.lemmas.List.{map-append, length-map, length-append}
use Rattle.std.proofs.lemmas.Option.{slice_get-map}
use Rattle.std.specs.declared.alloc.AllocError.{AllocError}
use Rattle.std.specs.declared.alloc.Global.{Global}
use Rattle.std.specs.Option.{option_or}
use Rattle.prog_tree.specs.declared.program.Draft.{Draft}
use Rattle.prog_tree.specs.declared.program.Program.{Program}
use Rattle.prog_tree.specs.Tree.{draft_tree, program_tree}
use Rattle.prog_tree.proofs.Outcomes.{on_any_err}
use Rattle.prog_tree.proofs.Elements.{get_push_cases}
use Rattle.prog_run.specs.Looks.{AreFound}
use Rattle.prog_run.specs.View.{RunView, IsTrueRun, begun}
use Rattle.history_book.specs.History.{Instance}
use Rattle.history_book.specs.Runs.{IsOwnRun}
use Rattle.history_book.specs.Ticket.{TicketView}
use Rattle.history_book.specs.View as book
use Rattle.history_book.specs.View.{BookView, state_in, instance_of, history_of, full_fault, fault_at, begin_at_fault_of, ticket_at, begun_at}
use Rattle.history_book.specs.declared.fault.BeginFault.{BeginFault}
use Rattle.history_book.specs.declared.fault.BeginFault.TheVariants.{WrongArguments, TooOld, TooNew, Full}
use Rattle.si_engine.specs.Machine.{Active, Machine, active_of, is_full, at_begin, begin_at_by}
use Rattle.si_engine.specs.View.{EngineView, instance_in, active_in, begun_of, machine_of, IsHeld, IsEngine, StaysOver, IsAnswerTo, MayLackMemory, Applies, numbered, answer_to, takes_memory}
use Rattle.si_engine.specs.declared.active.ActiveRun.{ActiveRun}
use Rattle.si_engine.specs.declared.event.Event.{Event}
use Rattle.si_engine.specs.declared.event.Event.TheVariants as event
use Rattle.si_engine.specs.declared.event.Reply.{Reply}
use Rattle.si_engine.specs.declared.event.Reply.TheVariants as reply
use Rattle.si_engine.proofs.EngineLaws.{held_alike, view_of}
use Rattle.si_engine.proofs.PlaceLaws.{numbered-push, length-numbered}

-- ---- what is wrong with a begin

program_at : (set_of : Draft) (n : ℕ) (p : Program) → slice_get set_of.programs.items n ≡ Some p → slice_get (draft_tree set_of).programs n ≡ Some (program_tree p)
program_at set_of n p found = slice_get-map program_tree set_of.programs.items n ∙ ap (option_map program_tree) found

-- a begin at a number begins there, or is refused as the book refuses it
abbrev IsAnswered : Machine → (start program : ℕ) → List ℤ → Option BeginFault → Reply × Machine → Type 0
IsAnswered s start program args None x =
    let i : Instance = record { program = program; args = args; start = start } in
    x ≡ (reply.Begun (length s.begun) start, record s { begun = s.begun ++ Some (at_begin i) ∷ [] })
IsAnswered s start program args (Some fault) x = (answer_to fault ≡ Some x.0) × (x.1 ≡ s)

module _ (v : BookView) (runs : List (Option ActiveRun)) (kept : IsEngine v runs) where
  abbrev machine : Machine
  machine = machine_of v runs

  -- the engine is full where its book is
  full_is : is_full machine ≡ book.is_full v
  full_is =
      let active = ap length kept.active ∙ length-numbered 0 (begun_of runs) in
      let count : v.begun ≡ length (begun_of runs) = sym kept.counted ∙ sym (length-map runs (option_map active_in)) in
      sym (ap (λ n. nat_le book.most_endings (length v.endings + n) || nat_le book.most_begins v.begun) active
      ∙ ap (λ n. nat_le book.most_endings (length v.endings + active_of (begun_of runs)) || nat_le book.most_begins n) count)

  module _ (start program : ℕ) (args : List ℤ) where
    abbrev new_instance : Instance
    new_instance = record { program = program; args = args; start = start }

    abbrev asked : Reply × Machine
    asked = begin_at_by (slice_get (draft_tree v.set).programs program) machine start program args

    answered : IsAnswered machine start program args (begin_at_fault_of v start program args) asked
    answered =
        subst (λ f. IsAnswered machine start program args (begin_at_fault_of v start program args) (begin_at_by f machine start program args))
        (sym (slice_get-map program_tree v.set.programs.items program)) (by_program (slice_get v.set.programs.items program))
      where
        by_tests : (wrong old new full : Bool) →
            IsAnswered machine start program args
            (cond wrong (Some WrongArguments) (option_or (cond old (Some (TooOld v.floor)) (cond new (Some (TooNew (length v.rows))) None)) (cond full (Some Full) None)))
            (cond wrong (reply.WrongArguments, machine) (cond old (reply.TooOld v.floor, machine) (cond new (reply.TooNew (length v.rows), machine)
            (cond full (reply.Full, machine) (reply.Begun (length machine.begun) start, record machine { begun = machine.begun ++ Some (at_begin new_instance) ∷ [] })))))
        by_tests true old new full = (refl, refl)
        by_tests false true new full = (refl, refl)
        by_tests false false true full = (refl, refl)
        by_tests false false false true = (refl, refl)
        by_tests false false false false = refl

        by_program : (found : Option Program) →
            IsAnswered machine start program args (fault_at v start found args) (begin_at_by (option_map program_tree found) machine start program args)
        by_program None = (refl, refl)
        by_program (Some p) =
            let size : length (history_of v.rows) ≡ length v.rows = length-map v.rows instance_of in
            rw (size, full_is) (by_tests (not (length p.params.items == length args)) (nat_lt start v.floor) (nat_lt (length v.rows) start) (book.is_full v))

    pub begin_refused : (fault : BeginFault) (r : Reply) → begin_at_fault_of v start program args ≡ Some fault → answer_to fault ≡ Some r → (r, machine) ≡ asked
    begin_refused fault r refused told =
        let found = subst (λ f. IsAnswered machine start program args f asked) refused answered in
        let one : Some r ≡ Some asked.0 = sym told ∙ found.0 in
        let same : r ≡ asked.0 = cc in
        λ j. (same j, sym found.1 j)

    module _ (free : begin_at_fault_of v start program args ≡ None) where
      begins : asked ≡ (reply.Begun (length machine.begun) start, record machine { begun = machine.begun ++ Some (at_begin new_instance) ∷ [] })
      begins = subst (λ f. IsAnswered machine start program args f asked) free answered

      -- what is not refused takes memory
      begin_takes_memory : takes_memory asked.0 ≡ true
      begin_takes_memory = ap (λ (x : Reply × Machine). takes_memory x.0) begins

      abbrev begin_event : Event
      begin_event = event.BeginAt start program args

      -- which may run out
      pub begin_lacks : {old new : EngineView} {r : Result Reply AllocError} → view_of v runs ≡ old → StaysOver old new →
          IfOk r (IsAnswerTo begin_event old new) → OnErr r (new ≡ old) → Applies begin_event old new r
      begin_lacks {r = r} seen over step same =
          record { over = over; step = step; err = same; memory = on_any_err r (subst (MayLackMemory begin_event) seen begin_takes_memory) }

      -- and its start is not above the number of commits
      start_within : start ≤ length v.rows
      start_within = by_program (slice_get v.set.programs.items program) free
        where
          by_program : (found : Option Program) → fault_at v start found args ≡ None → start ≤ length v.rows
          by_program None is = absurd (cc)
          by_program (Some p) is = by_tests (not (length p.params.items == length args)) (nat_lt start v.floor) (nat_lt (length v.rows) start) refl is
            where
              by_tests : (wrong old new : Bool) → nat_lt (length v.rows) start ≡ new →
                  cond wrong (Some WrongArguments) (option_or (cond old (Some (TooOld v.floor)) (cond new (Some (TooNew (length v.rows))) None)) (full_fault v)) ≡ None →
                  start ≤ length v.rows
              by_tests true old new test is = absurd (cc)
              by_tests false true new test is = absurd (cc)
              by_tests false false true test is = absurd (cc)
              by_tests false false false test is = grind (arith, nat_tests)

      -- ---- the instance that was begun

      module _ (run : Box RunView Global) (ticket : TicketView) (run_program : slice_get v.set.programs.items program ≡ Some run.value.program)
          (run_is : run.value ≡ begun v.set.tables.items run.value.program args) (ticket_is : ticket ≡ ticket_at v start) where
        abbrev fresh : ActiveRun
        fresh = record { program = program; ticket = ticket; run = run; ready = false }

        fresh_instance : instance_in fresh ≡ new_instance
        fresh_instance = λ j. record { program = program; args = (run_is j).args; start = (ticket_is j).start }

        fresh_active : active_in fresh ≡ at_begin new_instance
        fresh_active = λ j. record { instance = fresh_instance j; steps = length (run_is j).deeds; ready = false }

        pub begin_made : (w : BookView) → w ≡ begun_at v start program args →
            (reply.Begun (length runs) start, machine_of w (runs ++ Some fresh ∷ [])) ≡ asked
        begin_made w after =
            let begun : begun_of (runs ++ Some fresh ∷ []) ≡ begun_of runs ++ Some (at_begin new_instance) ∷ [] =
            map-append (option_map active_in) runs (Some fresh ∷ []) ∙ ap (λ (a : Active). begun_of runs ++ Some a ∷ []) fresh_active in
            let number : length runs ≡ length machine.begun = sym (length-map runs (option_map active_in)) in
            ap (λ (x : BookView). (reply.Begun (length runs) start, machine_of x (runs ++ Some fresh ∷ []))) after
            ∙ ap (λ bs. (reply.Begun (length runs) start, record machine { begun = bs })) begun
            ∙ ap (λ n. (reply.Begun n start, record machine { begun = begun_of runs ++ Some (at_begin new_instance) ∷ [] })) number
            ∙ sym begins

        fresh_is_true : IsTrueRun run.value
        fresh_is_true = subst IsTrueRun (sym run_is) (λ m looks. record { deeds = refl; replies = refl; ending = λ end over. absurd (cc) })

        fresh_own : IsOwnRun v (instance_in fresh) run.value
        fresh_own = record {
          same = record {
            tables = ap (λ (r : RunView). r.tables) run_is;
            program = program_at v.set program run.value.program run_program;
            args = refl;
          };
          found = subst (λ (r : RunView). AreFound (state_in v ticket.start) r.looks) (sym run_is) tt;
        }

        fresh_held : IsHeld v (length runs) fresh
        fresh_held = record {
          place = ap (λ (t : TicketView). t.number) ticket_is ∙ sym kept.counted;
          start = let is : ticket.start ≡ start = ap (λ (t : TicketView). t.start) ticket_is in omega (arith, is, start_within);
          own = fresh_own;
          is_true = fresh_is_true;
          ready = λ ready. absurd (cc);
        }

        pub engine-begun : (w : BookView) → w ≡ begun_at v start program args → IsEngine w (runs ++ Some fresh ∷ [])
        engine-begun w after = subst (λ x. IsEngine x (runs ++ Some fresh ∷ [])) (sym after) (record {
          counted = omega (arith, length-append runs (Some fresh ∷ []), kept.counted);
          active =
              let number : v.begun ≡ 0 + length (begun_of runs) = omega (arith, kept.counted, length-map runs (option_map active_in)) in
              ap (λ es. es ++ (v.begun, new_instance) ∷ []) kept.active
              ∙ ap (λ n. numbered 0 (begun_of runs) ++ (n, new_instance) ∷ []) number
              ∙ ap (λ i. numbered 0 (begun_of runs) ++ (0 + length (begun_of runs), i) ∷ []) (sym fresh_instance)
              ∙ sym (numbered-push 0 (begun_of runs) (active_in fresh))
              ∙ ap (numbered 0) (sym (map-append (option_map active_in) runs (Some fresh ∷ [])));
          held = λ n b at. held_alike v _ _ _ _ n b (go n b (get_push_cases runs (Some fresh) (Some b) n at));
        })
          where
            go : (n : ℕ) (b : ActiveRun) → (slice_get runs n ≡ Some (Some b)) ⊎ ((n ≡ length runs) × (Some fresh ≡ Some b)) → IsHeld v n b
            go n b (inl before) = kept.held n b before
            go n b (inr here) =
                let one : fresh ≡ b = cc (here.1) in
                subst (IsHeld v n) one (subst (λ k. IsHeld v k fresh) (sym here.0) fresh_held)
