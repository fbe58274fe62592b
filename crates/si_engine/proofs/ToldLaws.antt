-- What the exchanges so far tell of a machine's instances and commits, and that each event keeps it.
use Rattle.std.proofs.Common.{◌≡◌, ℕ, zero, suc, ◌+◌, ◌≤◌, nat_lt, ◌==◌, Bool, true, false, not, cond, List, [], ◌∷◌, ◌++◌, length, set, refl, ap, sym, ◌∙◌, subst, ◌⊎◌, inl, inr, arith, append_assoc, append-nil}
use Rattle.std.specs.Prelude.{ℤ, slice_get, Option, Some, None, is_none}
use Rattle.std.specs.List.{Contains, zip}
use Rattle.std.proofs.lemmas.Bool.Decides.{nat_tests}
use Rattle.std.proofs.lemmas.Grind.{flat_map-append}
use Rattle.std.proofs.lemmas.List.{length-append, length-set}
use Rattle.std.proofs.lemmas.List.Elements.{Contains-append_left, Contains-append_right, Contains-append_cases}
use Rattle.std.proofs.lemmas.Option.{slice_get_within}
use Rattle.std.proofs.lemmas.Bool.{cases_eq}
use Rattle.prog_tree.specs.declared.cell.Cell.{Cell}
use Rattle.prog_tree.specs.declared.deed.Deed.{Deed}
use Rattle.prog_tree.specs.declared.deed.End.{End}
use Rattle.prog_tree.specs.declared.deed.End.TheVariants as run
use Rattle.prog_tree.specs.Evaluation.{Evaluation}
use Rattle.prog_tree.specs.Syntax.{ProgramTree, DraftTree}
use Rattle.prog_tree.specs.Table.{TableState}
use Rattle.prog_tree.proofs.Elements.{get_left, get_seam, contains_itself, contains_only, get_push_cases, get-set_same, get-set_other}
use Rattle.version_store.specs.Clash.{clash_of}
use Rattle.version_store.specs.Versions.{reclaimed}
use Rattle.history_book.specs.History.{Instance, evaluation, commits_of}
use Rattle.history_book.proofs.HistoryLaws.{evaluation-push}
use Rattle.si_engine.specs.declared.event.Event.{Event}
use Rattle.si_engine.specs.declared.event.Event.TheVariants as event
use Rattle.si_engine.specs.declared.event.Reply.{Reply}
use Rattle.si_engine.specs.declared.event.Reply.TheVariants as reply
use Rattle.si_engine.specs.Headline.{Exchange, Call, call_in, IsBegunBy, IsReadyWith, IsCommittedAs, committed_at, commit_in, commits_said}
use Rattle.si_engine.specs.Machine.{Active, Machine, new_machine, is_full, at_begin, at_end, deed_or_end, with_begun, if_active, admitted, begin_by, begin_at_by, commit_by, least_start, machine_step, replies_of, machine_after}

-- ---- lists

-- a commit that was noted still is, behind one more
committed_at-longer : (xs : List ℕ) (x y n : ℕ) → committed_at xs n ≡ Some y → committed_at (xs ++ x ∷ []) n ≡ Some y
committed_at-longer xs x y zero at = absurd (cc)
committed_at-longer xs x y (suc n) at = get_left xs (x ∷ []) n y at

-- an event that begins an instance commits none
begins_alone : (begin : Event) (call : Call) (r : Reply) → call_in begin ≡ Some call → commit_in (begin, r) ≡ []
begins_alone (event.Begin program args) call r asks = refl
begins_alone (event.BeginAt start program args) call r asks = refl
begins_alone (event.Step i) call r asks = absurd (cc)
begins_alone (event.Commit i) call r asks = absurd (cc)
begins_alone (event.Abort i) call r asks = absurd (cc)
begins_alone event.Vacuum call r asks = absurd (cc)

abbrev pub call_of_instance : Instance → Call
call_of_instance i = record { program = i.program; args = i.args }

module _ (draft : DraftTree) (opening : TableState) where
  -- what an instance does on the state that it sees
  abbrev done : Machine → Instance → Evaluation
  done s i = evaluation draft opening s.history i

  -- ---- what was told

  module _ (said : List Exchange) (s : Machine) where
    -- an active instance: the call that began it; that it is ready, where it is; and no replies but its own
    pub record IsToldActive (i : ℕ) (a : Active) : Type 0 where
      pub begun : IsBegunBy said i (call_of_instance a.instance)
      pub start : a.instance.start ≤ length s.history
      pub ready : a.ready ≡ true → Contains said (event.Step i, reply.Ready (done s a.instance).replies)
      pub never_others :
          (others : List ℤ) → Contains said (event.Step i, reply.Ready others) → others ≡ (done s a.instance).replies

    -- the commit at a place of the history
    pub record IsToldCommit (k : ℕ) (b : Instance) : Type 0 where
      pub instance : ℕ
      pub ended : slice_get s.begun instance ≡ Some None
      pub committed : IsCommittedAs said instance (suc k)
      pub begun : IsBegunBy said instance (call_of_instance b)
      pub ready : IsReadyWith said instance (done s b).replies
      pub start : b.start ≤ length s.history

    -- active instances and commits are told, nothing was told to instances that are not begun, and each commit has
    -- the next number
    pub record IsTold : Type 0 where
      pub active : (i : ℕ) (a : Active) → slice_get s.begun i ≡ Some (Some a) → IsToldActive i a
      pub unborn :
          (i : ℕ) (replies : List ℤ) → length s.begun ≤ i → Contains said (event.Step i, reply.Ready replies) → ⊥
      pub commits : (k : ℕ) (b : Instance) → slice_get s.history k ≡ Some b → IsToldCommit k b
      pub numbered : (i n : ℕ) → IsCommittedAs said i n → committed_at (commits_said said) n ≡ Some i
      pub counted : length (commits_said said) ≡ length s.history

  -- ---- one exchange more

  -- what an exchange that is no commit may tell: the replies of an active instance
  abbrev TellsReplies : Machine → Exchange → Type 0
  TellsReplies s x =
      (i : ℕ) (others : List ℤ) → x ≡ (event.Step i, reply.Ready others) →
      (a : Active) × (slice_get s.begun i ≡ Some (Some a)) × (others ≡ (done s a.instance).replies)

  module _ (said : List Exchange) (x : Exchange) where
    abbrev more : List Exchange
    more = said ++ x ∷ []

    kept : (y : Exchange) → Contains said y → Contains more y
    kept y there = Contains-append_left said (x ∷ []) y there

    newest : Contains more x
    newest = Contains-append_right said (x ∷ []) x (contains_itself x)

    told_before : (y : Exchange) → Contains more y → Contains said y ⊎ (x ≡ y)
    told_before y there = go (Contains-append_cases said (x ∷ []) y there)
      where
        go : Contains said y ⊎ Contains (x ∷ []) y → Contains said y ⊎ (x ≡ y)
        go (inl before) = inl before
        go (inr now) = inr (contains_only x y now)

    still_begun : (i : ℕ) (c : Call) → IsBegunBy said i c → IsBegunBy more i c
    still_begun i c begun = (begun.0, begun.1, begun.2, kept _ begun.3)

    module _ (s t : Machine) (told : IsTold said s) (tells : TellsReplies s x) (same : (b : Instance) → b.start ≤ length s.history → done t b ≡ done s b) (longer : length s.history ≤ length t.history) where
      -- an instance that stays active
      stays : (i : ℕ) (a b : Active) → slice_get s.begun i ≡ Some (Some a) → b.instance ≡ a.instance →
          (b.ready ≡ true → Contains more (event.Step i, reply.Ready (done s a.instance).replies)) →
          IsToldActive more t i b
      stays i a b at is ready = subst (λ j. IsToldActive more t i (record b { instance = j })) (sym is) still
        where
          before : IsToldActive said s i a
          before = told.active i a at

          replies_stay : (done t a.instance).replies ≡ (done s a.instance).replies
          replies_stay = ap (λ (e : Evaluation). e.replies) (same a.instance before.start)

          others_are : (others : List ℤ) → Contains said (event.Step i, reply.Ready others) ⊎ (x ≡ (event.Step i, reply.Ready others)) →
              others ≡ (done s a.instance).replies
          others_are others (inl earlier) = before.never_others others earlier
          others_are others (inr now) =
              let found = tells i others now in
              let one : Some (Some found.0) ≡ Some (Some a) = sym found.1 ∙ at in
              let it : found.0 ≡ a = cc in
              found.2 ∙ ap (λ (c : Active). (done s c.instance).replies) it

          still : IsToldActive more t i (record b { instance = a.instance })
          still = record {
            begun = still_begun i (call_of_instance a.instance) before.begun;
            start = let low = before.start in omega (arith, low, longer);
            ready = λ is_ready. subst (λ r. Contains more (event.Step i, reply.Ready r)) (sym replies_stay) (ready is_ready);
            never_others = λ others there. others_are others (told_before _ there) ∙ sym replies_stay;
          }

      -- a commit that was there
      stays_committed : (k : ℕ) (b : Instance) → slice_get s.history k ≡ Some b →
          ((i : ℕ) → slice_get s.begun i ≡ Some None → slice_get t.begun i ≡ Some None) → IsToldCommit more t k b
      stays_committed k b at ended = record {
        instance = before.instance;
        ended = ended before.instance before.ended;
        committed = kept _ before.committed;
        begun = still_begun before.instance (call_of_instance b) before.begun;
        ready = subst (IsReadyWith more before.instance) (sym replies_stay) (record {
          told = kept _ before.ready.told;
          never_others = λ others there. others_are others (told_before _ there);
        });
        start = let low = before.start in omega (arith, low, longer);
      }
        where
          before : IsToldCommit said s k b
          before = told.commits k b at

          replies_stay : (done t b).replies ≡ (done s b).replies
          replies_stay = ap (λ (e : Evaluation). e.replies) (same b before.start)

          others_are : (others : List ℤ) →
              Contains said (event.Step before.instance, reply.Ready others) ⊎ (x ≡ (event.Step before.instance, reply.Ready others)) →
              others ≡ (done s b).replies
          others_are others (inl earlier) = before.ready.never_others others earlier
          others_are others (inr now) =
              let found = tells before.instance others now in
              let one : Some (Some found.0) ≡ Some None = sym found.1 ∙ before.ended in
              absurd (cc)

      -- nothing is told to an instance that is not begun
      still_unborn : length s.begun ≤ length t.begun →
          (i : ℕ) (replies : List ℤ) → length t.begun ≤ i → Contains more (event.Step i, reply.Ready replies) → ⊥
      still_unborn grows i replies past there = go (told_before _ there)
        where
          go : Contains said (event.Step i, reply.Ready replies) ⊎ (x ≡ (event.Step i, reply.Ready replies)) → ⊥
          go (inl earlier) = told.unborn i replies (omega (arith, past, grows)) earlier
          go (inr now) =
              let found = tells i replies now in
              let inside = slice_get_within s.begun i (Some found.0) found.1 in
              absurd (omega (arith, past, grows, inside))

    commits_more : commits_said more ≡ commits_said said ++ commit_in x
    commits_more = flat_map-append commit_in said (x ∷ []) ∙ ap (λ l. commits_said said ++ l) (append-nil (commit_in x))

    -- an exchange that is no commit
    module _ (s t : Machine) (told : IsTold said s) (tells : TellsReplies s x) (none : commit_in x ≡ []) (no_commit : (i n : ℕ) → x ≡ (event.Commit i, reply.Committed n) → ⊥) (same : t.history ≡ s.history) where
      commits_stay : commits_said more ≡ commits_said said
      commits_stay = commits_more ∙ ap (λ l. commits_said said ++ l) none ∙ append-nil (commits_said said)

      same_done : (b : Instance) → b.start ≤ length s.history → done t b ≡ done s b
      same_done b low = ap (λ h. evaluation draft opening h b) same

      same_length : length s.history ≤ length t.history
      same_length = let e = ap length same in omega (arith, e)

      answered : ((i : ℕ) (a : Active) → slice_get t.begun i ≡ Some (Some a) → IsToldActive more t i a) →
          ((i : ℕ) → slice_get s.begun i ≡ Some None → slice_get t.begun i ≡ Some None) →
          length s.begun ≤ length t.begun → IsTold more t
      answered active ended grows = record {
        active = active;
        unborn = still_unborn s t told tells same_done same_length grows;
        commits = λ k b at.
            stays_committed s t told tells same_done same_length k b (ap (λ h. slice_get h k) (sym same) ∙ at) ended;
        numbered = λ i n there. ap (λ l. committed_at l n) commits_stay ∙ number_of i n (told_before _ there);
        counted = ap length commits_stay ∙ told.counted ∙ ap length (sym same);
      }
        where
          number_of : (i n : ℕ) → Contains said (event.Commit i, reply.Committed n) ⊎ (x ≡ (event.Commit i, reply.Committed n)) →
              committed_at (commits_said said) n ≡ Some i
          number_of i n (inl earlier) = told.numbered i n earlier
          number_of i n (inr now) = absurd (no_commit i n now)

      -- no instance has changed
      unchanged : t.begun ≡ s.begun → IsTold more t
      unchanged begun = answered
          (λ i a at. let there = ap (λ l. slice_get l i) (sym begun) ∙ at in
          stays s t told tells same_done same_length i a a there refl
          (λ is_ready. kept _ ((told.active i a there).ready is_ready)))
          (λ i at. ap (λ l. slice_get l i) begun ∙ at)
          (let e = ap length begun in omega (arith, e))

      -- one active instance has changed, or ended
      changed_one : (i : ℕ) (a : Active) (p : Option Active) → slice_get s.begun i ≡ Some (Some a) → t.begun ≡ set s.begun i p →
          ((b : Active) → p ≡ Some b → (b.instance ≡ a.instance)
          × (b.ready ≡ true → Contains more (event.Step i, reply.Ready (done s a.instance).replies))) →
          IsTold more t
      changed_one i a p at begun goes_on = answered
          (λ j b there. active_at j b (ap (λ l. slice_get l j) (sym begun) ∙ there) (cases_eq j i))
          (λ j there. ap (λ l. slice_get l j) begun ∙ ended_at j there (cases_eq j i))
          (let e = ap length begun ∙ length-set s.begun i p in omega (arith, e))
        where
          active_at : (j : ℕ) (b : Active) → slice_get (set s.begun i p) j ≡ Some (Some b) → (j ≡ i) ⊎ (j ≡ i → ⊥) →
              IsToldActive more t j b
          active_at j b there (inl here) =
              let now : slice_get (set s.begun i p) i ≡ Some p = get-set_same s.begun i p (slice_get_within s.begun i (Some a) at) in
              let is : Some p ≡ Some (Some b) = sym now ∙ ap (slice_get (set s.begun i p)) (sym here) ∙ there in
              let one : p ≡ Some b = cc in
              let goes = goes_on b one in
              subst (λ k. IsToldActive more t k b) (sym here)
              (stays s t told tells same_done same_length i a b at goes.0 goes.1)
          active_at j b there (inr other) =
              let was : slice_get s.begun j ≡ Some (Some b) = sym (get-set_other s.begun i j p other) ∙ there in
              stays s t told tells same_done same_length j b b was refl
              (λ is_ready. kept _ ((told.active j b was).ready is_ready))

          ended_at : (j : ℕ) → slice_get s.begun j ≡ Some None → (j ≡ i) ⊎ (j ≡ i → ⊥) →
              slice_get (set s.begun i p) j ≡ Some None
          ended_at j there (inl here) =
              let is : Some (Some a) ≡ Some None = sym at ∙ ap (slice_get s.begun) (sym here) ∙ there in
              absurd (cc)
          ended_at j there (inr other) = get-set_other s.begun i j p other ∙ there

  -- ---- an instance begins

  module _ (said : List Exchange) (s : Machine) (told : IsTold said s) (begin : Event) (start program : ℕ) (args : List ℤ)
      (asks : call_in begin ≡ Some (record { program = program; args = args })) (within : start ≤ length s.history) where
    abbrev begins : Instance
    begins = record { program = program; args = args; start = start }

    abbrev beginning : Exchange
    beginning = (begin, reply.Begun (length s.begun) start)

    abbrev with_one : Machine
    with_one = record s { begun = s.begun ++ Some (at_begin begins) ∷ [] }

    tells_nothing : TellsReplies s beginning
    tells_nothing i others is = let differ = ap (λ (y : Exchange). y.1) is in absurd (cc)

    no_commit_there : (i n : ℕ) → beginning ≡ (event.Commit i, reply.Committed n) → ⊥
    no_commit_there i n is = let differ = ap (λ (y : Exchange). y.1) is in absurd (cc)

    begun_told : IsTold (said ++ beginning ∷ []) with_one
    begun_told =
        answered said beginning s with_one told tells_nothing (begins_alone begin (call_of_instance begins) beginning.1 asks) no_commit_there refl
        (λ i b at. active_at i b (get_push_cases s.begun (Some (at_begin begins)) (Some b) i at))
        (λ i at. get_left s.begun (Some (at_begin begins) ∷ []) i None at)
        (omega (arith, length-append s.begun (Some (at_begin begins) ∷ [])))
      where
        active_at : (i : ℕ) (b : Active) →
            (slice_get s.begun i ≡ Some (Some b)) ⊎ ((i ≡ length s.begun) × (Some (at_begin begins) ≡ Some b)) →
            IsToldActive (said ++ beginning ∷ []) with_one i b
        active_at i b (inl before) =
            stays said beginning s with_one told tells_nothing (λ j low. refl) (omega arith) i b b before refl
            (λ is_ready. kept said beginning _ ((told.active i b before).ready is_ready))
        active_at i b (inr now) =
            let one : at_begin begins ≡ b = let is = now.1 in cc in
            subst (λ c. IsToldActive (said ++ beginning ∷ []) with_one i c) one
            (subst (λ k. IsToldActive (said ++ beginning ∷ []) with_one k (at_begin begins)) (sym now.0) first)
          where
            first : IsToldActive (said ++ beginning ∷ []) with_one (length s.begun) (at_begin begins)
            first = record {
              begun = (begin, start, asks, newest said beginning);
              start = within;
              ready = λ is_ready. absurd (cc);
              never_others = λ others there. go others (told_before said beginning _ there);
            }
              where
                go : (others : List ℤ) →
                    Contains said (event.Step (length s.begun), reply.Ready others)
                    ⊎ (beginning ≡ (event.Step (length s.begun), reply.Ready others)) → others ≡ (done with_one begins).replies
                go others (inl earlier) = absurd (told.unborn (length s.begun) others (omega arith) earlier)
                go others (inr is) = let differ = ap (λ (y : Exchange). y.1) is in absurd (cc)

  -- ---- an instance commits

  module _ (said : List Exchange) (s : Machine) (told : IsTold said s) (i : ℕ) (a : Active) (at : slice_get s.begun i ≡ Some (Some a)) (is_ready : a.ready ≡ true) where
    abbrev committing : Exchange
    committing = (event.Commit i, reply.Committed (length s.history + 1))

    abbrev longer_by_one : Machine
    longer_by_one = record (with_begun s i None true) { history = s.history ++ a.instance ∷ [] }

    abbrev all : List Exchange
    all = said ++ committing ∷ []

    told_none : TellsReplies s committing
    told_none j others is = let differ = ap (λ (y : Exchange). y.1) is in absurd (cc)

    done_same : (b : Instance) → b.start ≤ length s.history → done longer_by_one b ≡ done s b
    done_same b low = evaluation-push draft opening s.history a.instance b low

    one_longer : length longer_by_one.history ≡ length s.history + 1
    one_longer = omega (arith, length-append s.history (a.instance ∷ []))

    as_long : length s.history ≤ length longer_by_one.history
    as_long = omega (arith, one_longer)

    commits_are : commits_said all ≡ commits_said said ++ i ∷ []
    commits_are = commits_more said committing

    active_left : (j : ℕ) (b : Active) → slice_get (set s.begun i None) j ≡ Some (Some b) → (j ≡ i) ⊎ (j ≡ i → ⊥) →
        IsToldActive all longer_by_one j b
    active_left j b there (inl here) =
        let now : slice_get (set s.begun i None) i ≡ Some None = get-set_same s.begun i None (slice_get_within s.begun i (Some a) at) in
        let is : Some None ≡ Some (Some b) = sym now ∙ ap (slice_get (set s.begun i None)) (sym here) ∙ there in
        absurd (cc)
    active_left j b there (inr other) =
        let was : slice_get s.begun j ≡ Some (Some b) = sym (get-set_other s.begun i j None other) ∙ there in
        stays said committing s longer_by_one told told_none done_same as_long j b b was refl
        (λ ready. kept said committing _ ((told.active j b was).ready ready))

    ended_left : (j : ℕ) → slice_get s.begun j ≡ Some None → (j ≡ i) ⊎ (j ≡ i → ⊥) → slice_get (set s.begun i None) j ≡ Some None
    ended_left j there (inl here) = ap (slice_get (set s.begun i None)) here ∙ get-set_same s.begun i None (slice_get_within s.begun i (Some a) at)
    ended_left j there (inr other) = get-set_other s.begun i j None other ∙ there

    last_commit : (k : ℕ) → k ≡ length s.history → IsToldCommit all longer_by_one k a.instance
    last_commit k is = record {
      instance = i;
      ended = get-set_same s.begun i None (slice_get_within s.begun i (Some a) at);
      committed =
          let number : length s.history + 1 ≡ suc k = omega (arith, is) in
          subst (λ n. IsCommittedAs all i n) number (newest said committing);
      begun = still_begun said committing i (call_of_instance a.instance) before.begun;
      ready = subst (IsReadyWith all i) (sym replies_stay) (record {
        told = kept said committing _ (before.ready is_ready);
        never_others = λ others there. go others (told_before said committing _ there);
      });
      start = let low = before.start in omega (arith, low, as_long);
    }
      where
        before : IsToldActive said s i a
        before = told.active i a at

        replies_stay : (done longer_by_one a.instance).replies ≡ (done s a.instance).replies
        replies_stay = ap (λ (e : Evaluation). e.replies) (done_same a.instance before.start)

        go : (others : List ℤ) → Contains said (event.Step i, reply.Ready others) ⊎ (committing ≡ (event.Step i, reply.Ready others)) →
            others ≡ (done s a.instance).replies
        go others (inl earlier) = before.never_others others earlier
        go others (inr differs) = let differ = ap (λ (y : Exchange). y.1) differs in absurd (cc)

    committed_told : IsTold all longer_by_one
    committed_told = record {
      active = λ j b there. active_left j b there (cases_eq j i);
      unborn = still_unborn said committing s longer_by_one told told_none done_same as_long (omega (arith, length-set s.begun i None));
      commits = λ k b there. commit_at k b (get_push_cases s.history a.instance b k there);
      numbered = λ j n there. ap (λ l. committed_at l n) commits_are ∙ number_of j n (told_before said committing _ there);
      counted =
          let one : length (commits_said said ++ i ∷ []) ≡ length (commits_said said) + 1 = omega (arith, length-append (commits_said said) (i ∷ [])) in
          let was = told.counted in
          ap length commits_are ∙ omega (arith, one, was, one_longer);
    }
      where
        commit_at : (k : ℕ) (b : Instance) → (slice_get s.history k ≡ Some b) ⊎ ((k ≡ length s.history) × (a.instance ≡ b)) →
            IsToldCommit all longer_by_one k b
        commit_at k b (inl earlier) =
            stays_committed said committing s longer_by_one told told_none done_same as_long k b earlier
            (λ j there. ended_left j there (cases_eq j i))
        commit_at k b (inr now) = subst (λ c. IsToldCommit all longer_by_one k c) now.1 (last_commit k now.0)

        number_of : (j n : ℕ) → Contains said (event.Commit j, reply.Committed n) ⊎ (committing ≡ (event.Commit j, reply.Committed n)) →
            committed_at (commits_said said ++ i ∷ []) n ≡ Some j
        number_of j n (inl earlier) = committed_at-longer (commits_said said) i j n (told.numbered j n earlier)
        number_of j n (inr now) =
            let sent_now = ap (λ (y : Exchange). y.0) now in
            let told_now = ap (λ (y : Exchange). y.1) now in
            let same : i ≡ j = cc in
            let number : length s.history + 1 ≡ n = cc in
            let was = told.counted in
            let place : n ≡ suc (length (commits_said said)) = omega (arith, number, was) in
            ap (committed_at (commits_said said ++ i ∷ [])) place ∙ get_seam (commits_said said) [] i ∙ ap (λ m. Some m) same

  -- ---- every event

  module _ (said : List Exchange) (s : Machine) (told : IsTold said s) where
    abbrev Next : Event → Reply × Machine → Type 0
    Next e r = IsTold (said ++ (e, r.0) ∷ []) r.1

    -- a reply that neither says ready nor that an instance committed
    record IsQuiet (r : Reply) : Type 0 where
      no_replies : (replies : List ℤ) → r ≡ reply.Ready replies → ⊥
      no_number : (n : ℕ) → r ≡ reply.Committed n → ⊥

    quiet_tells : (e : Event) (r : Reply) → IsQuiet r → TellsReplies s (e, r)
    quiet_tells e r quiet i others is = absurd (quiet.no_replies others (ap (λ (y : Exchange). y.1) is))

    quiet_commits : (e : Event) (r : Reply) → IsQuiet r → (i n : ℕ) → ◌≡◌ {A = Exchange} (e, r) (event.Commit i, reply.Committed n) → ⊥
    quiet_commits e r quiet i n is = quiet.no_number n (ap (λ (y : Exchange). y.1) is)

    stays_as_is : (e : Event) (r : Reply) → IsQuiet r → commit_in (e, r) ≡ [] → Next e (r, s)
    stays_as_is e r quiet none =
        unchanged said (e, r) s s told (quiet_tells e r quiet) none (quiet_commits e r quiet) refl refl

    -- an active instance ends without a commit
    leaves : (e : Event) (r : Reply) (i : ℕ) (a : Active) (ends : Bool) → IsQuiet r → commit_in (e, r) ≡ [] →
        slice_get s.begun i ≡ Some (Some a) → Next e (r, with_begun s i None ends)
    leaves e r i a ends quiet none at =
        changed_one said (e, r) s (with_begun s i None ends) told (quiet_tells e r quiet) none (quiet_commits e r quiet) refl
        i a None at refl (λ b is. absurd (cc))

    -- a begin has room or none, at whichever number it is
    admitted_told : (begin : Event) (start program : ℕ) (args : List ℤ) → call_in begin ≡ Some (record { program = program; args = args }) →
        start ≤ length s.history → Next begin (admitted s start program args)
    admitted_told begin start program args asks within = go (is_full s)
      where
        go : (full : Bool) → Next begin (cond full (reply.Full, s) (reply.Begun (length s.begun) start, with_one said s told begin start program args asks within))
        go true = stays_as_is _ _ (record { no_replies = λ r is. absurd (cc); no_number = λ n is. absurd (cc) }) (begins_alone begin _ reply.Full asks)
        go false = begun_told said s told begin start program args asks within

    begin_told : (program : ℕ) (args : List ℤ) (found : Option ProgramTree) →
        Next (event.Begin program args) (begin_by found s program args)
    begin_told program args None = stays_as_is _ _ (record { no_replies = λ r is. absurd (cc); no_number = λ n is. absurd (cc) }) refl
    begin_told program args (Some p) = go (not (length p.params == length args))
      where
        go : (wrong : Bool) → Next (event.Begin program args) (cond wrong (reply.WrongArguments, s) (admitted s (length s.history) program args))
        go true = stays_as_is _ _ (record { no_replies = λ r is. absurd (cc); no_number = λ n is. absurd (cc) }) refl
        go false = admitted_told (event.Begin program args) (length s.history) program args refl (omega arith)

    begin_at_told : (start program : ℕ) (args : List ℤ) (found : Option ProgramTree) →
        Next (event.BeginAt start program args) (begin_at_by found s start program args)
    begin_at_told start program args None = stays_as_is _ _ (record { no_replies = λ r is. absurd (cc); no_number = λ n is. absurd (cc) }) refl
    begin_at_told start program args (Some p) = go (not (length p.params == length args)) (nat_lt start s.floor) (nat_lt (length s.history) start) refl
      where
        go : (wrong old new : Bool) → nat_lt (length s.history) start ≡ new →
            Next (event.BeginAt start program args) (cond wrong (reply.WrongArguments, s) (cond old (reply.TooOld s.floor, s)
            (cond new (reply.TooNew (length s.history), s) (admitted s start program args))))
        go true old new test = stays_as_is _ _ (record { no_replies = λ r is. absurd (cc); no_number = λ n is. absurd (cc) }) refl
        go false true new test = stays_as_is _ _ (record { no_replies = λ r is. absurd (cc); no_number = λ n is. absurd (cc) }) refl
        go false false true test = stays_as_is _ _ (record { no_replies = λ r is. absurd (cc); no_number = λ n is. absurd (cc) }) refl
        go false false false test = admitted_told (event.BeginAt start program args) start program args refl (grind (arith, nat_tests))

    module _ (i : ℕ) (a : Active) (at : slice_get s.begun i ≡ Some (Some a)) where
      abbrev Stepped : Reply × Option Active → Type 0
      Stepped r = Next (event.Step i) (r.0, with_begun s i r.1 (is_none r.1))

      end_told : (ending : End) → Stepped (at_end ending (done s a.instance).replies a)
      end_told run.Ready =
          changed_one said x s (with_begun s i (Some ready) false) told tells refl no_number refl i a (Some ready) at refl
          (λ b is. let one : ready ≡ b = cc in
          subst (λ (c : Active). (c.instance ≡ a.instance)
          × (c.ready ≡ true → Contains (said ++ x ∷ []) (event.Step i, reply.Ready (done s a.instance).replies))) one
          (refl, λ is_ready. newest said x))
        where
          ready : Active
          ready = record a { ready = true }

          x : Exchange
          x = (event.Step i, reply.Ready (done s a.instance).replies)

          tells : TellsReplies s x
          tells j others is =
              let sent_now = ap (λ (y : Exchange). y.0) is in
              let told_now = ap (λ (y : Exchange). y.1) is in
              let same : i ≡ j = cc in
              let own : others ≡ (done s a.instance).replies = cc in
              (a, ap (slice_get s.begun) (sym same) ∙ at, own)

          no_number : (j n : ℕ) → x ≡ (event.Commit j, reply.Committed n) → ⊥
          no_number j n is = let differ = ap (λ (y : Exchange). y.1) is in absurd (cc)
      end_told (run.Aborted cause) =
          leaves (event.Step i) (reply.Aborted cause) i a true (record { no_replies = λ r is. absurd (cc); no_number = λ n is. absurd (cc) }) refl at

      deed_told : (deed : Option Deed) → Stepped (deed_or_end deed (done s a.instance) a)
      deed_told None = end_told (done s a.instance).ending
      deed_told (Some d) =
          changed_one said (event.Step i, reply.Did d) s (with_begun s i (Some further) false) told
          (quiet_tells (event.Step i) (reply.Did d) quiet) refl (quiet_commits (event.Step i) (reply.Did d) quiet) refl i a (Some further) at refl
          (λ b is. let one : further ≡ b = cc in
          subst (λ (c : Active). (c.instance ≡ a.instance)
          × (c.ready ≡ true → Contains (said ++ (event.Step i, reply.Did d) ∷ []) (event.Step i, reply.Ready (done s a.instance).replies))) one
          (refl, λ is_ready. kept said (event.Step i, reply.Did d) _ ((told.active i a at).ready is_ready)))
        where
          further : Active
          further = record a { steps = a.steps + 1 }

          quiet : IsQuiet (reply.Did d)
          quiet = record { no_replies = λ r is. absurd (cc); no_number = λ n is. absurd (cc) }

      commit_told : (clash : Option (Cell × ℕ)) (ready : Bool) → a.ready ≡ ready →
          Next (event.Commit i) (cond ready (commit_by clash s i a.instance) (reply.NotReady, s))
      commit_told clash false is = stays_as_is _ _ (record { no_replies = λ r is. absurd (cc); no_number = λ n is. absurd (cc) }) refl
      commit_told (Some clash) true is =
          leaves (event.Commit i) (reply.Clashed (record { cell = clash.0; number = clash.1 })) i a true
          (record { no_replies = λ r is. absurd (cc); no_number = λ n is. absurd (cc) }) refl at
      commit_told None true is = committed_told said s told i a at is

    -- an event on the instance of a number, if that is active
    on_active : (e : Event) (i : ℕ) (go : Active → Reply × Machine) → commit_in (e, reply.NoSuchInstance) ≡ [] → commit_in (e, reply.Ended) ≡ [] →
        ((a : Active) → slice_get s.begun i ≡ Some (Some a) → Next e (go a)) →
        (found : Option (Option Active)) → slice_get s.begun i ≡ found → Next e (if_active found s go)
    on_active e i go none ended told_of None at = stays_as_is e _ (record { no_replies = λ r is. absurd (cc); no_number = λ n is. absurd (cc) }) none
    on_active e i go none ended told_of (Some None) at = stays_as_is e _ (record { no_replies = λ r is. absurd (cc); no_number = λ n is. absurd (cc) }) ended
    on_active e i go none ended told_of (Some (Some a)) at = told_of a at

    step_told : (e : Event) → Next e (machine_step draft opening e s)
    step_told (event.Begin program args) = begin_told program args (slice_get draft.programs program)
    step_told (event.BeginAt start program args) = begin_at_told start program args (slice_get draft.programs program)
    step_told (event.Step i) =
        on_active (event.Step i) i _ refl refl (λ a at. deed_told i a at (slice_get (done s a.instance).deeds a.steps)) (slice_get s.begun i) refl
    step_told (event.Commit i) =
        on_active (event.Commit i) i _ refl refl
        (λ a at. commit_told i a at (clash_of (commits_of draft opening s.history) a.instance.start (done s a.instance).changes) a.ready refl)
        (slice_get s.begun i) refl
    step_told (event.Abort i) =
        on_active (event.Abort i) i _ refl refl
        (λ a at. leaves (event.Abort i) reply.Withdrawn i a false (record { no_replies = λ r is. absurd (cc); no_number = λ n is. absurd (cc) }) refl at)
        (slice_get s.begun i) refl
    step_told event.Vacuum =
        unchanged said (event.Vacuum, answer) s _ told (quiet_tells event.Vacuum answer quiet) refl (quiet_commits event.Vacuum answer quiet) refl refl
      where
        answer : Reply
        answer = reply.Vacuumed (reclaimed opening (commits_of draft opening s.history) s.floor (least_start (length s.history) s.begun))

        quiet : IsQuiet answer
        quiet = record { no_replies = λ r is. absurd (cc); no_number = λ n is. absurd (cc) }

  -- what events are answered tells of the machine after them
  told_after : (events : List Event) (s : Machine) (said : List Exchange) → IsTold said s →
      IsTold (said ++ zip events (replies_of draft opening events s)) (machine_after draft opening events s)
  told_after [] s said told = subst (λ l. IsTold l s) (sym (append-nil said)) told
  told_after (e ∷ es) s said told =
      let r = machine_step draft opening e s in
      subst (λ l. IsTold l (machine_after draft opening es r.1)) (append_assoc said ((e, r.0) ∷ []) (zip es (replies_of draft opening es r.1)))
      (told_after es r.1 (said ++ (e, r.0) ∷ []) (step_told said s told e))

  nothing_told : IsTold [] new_machine
  nothing_told = record {
    active = λ i a at. absurd (cc);
    unborn = λ i replies past there. let inside = there.1 in absurd (omega (arith, inside));
    commits = λ k b at. absurd (cc);
    numbered = λ i n there. let inside = there.1 in absurd (omega (arith, inside));
    counted = refl;
  }

  pub all_told : (events : List Event) → IsTold (zip events (replies_of draft opening events new_machine)) (machine_after draft opening events new_machine)
  all_told events = told_after events new_machine [] nothing_told
