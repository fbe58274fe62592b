-- A worked example of the headline: a write commits between a look's begin and its first step. The order that puts the
-- look first is what the headline asks for, and the order of the commits is not.
use Rattle.std.proofs.Common.{◌≡◌, ℕ, zero, suc, List, [], ◌∷◌, refl, sym, subst, arith, true≢false}
use Rattle.std.specs.Prelude.{ℤ, pos, negsuc, Some, None}
use Rattle.std.specs.List.{Contains}
use Rattle.std.proofs.lemmas.List.Elements.{All-contains, All-from_recursion}
use Rattle.prog_tree.specs.declared.deed.Deed.TheVariants as deed
use Rattle.prog_tree.specs.ChangeSet.{changed}
use Rattle.prog_tree.specs.Table.{TableState}
use Rattle.history_book.specs.History.{eval_of}
use Rattle.si_engine.specs.declared.event.Event.TheVariants.{Begin, Step, Commit}
use Rattle.si_engine.specs.declared.event.Reply.{Reply}
use Rattle.si_engine.specs.declared.event.Reply.TheVariants as reply
use Rattle.si_engine.specs.declared.robust.run.Outcome.{Outcome}
use Rattle.si_engine.specs.Headline.{Exchange, Call, call_in, IsBegunBy, IsReadyWith, IsCommittedAs, committed_at, run_of, RunsAlong, Headline}
use Rattle.si_engine.proofs.MachineVectors.{cell, registers, snapshot_events, snapshot, snapshot_rows}

-- what is answered: the write is the first commit, the look the second
abbrev answers : List Reply
answers =
    reply.Begun 0 0 ∷ reply.Begun 1 0 ∷ reply.Did (deed.Put (cell (pos 1)) (pos 5)) ∷ reply.Ready [] ∷ reply.Committed 1
    ∷ reply.Did (deed.Read (cell (pos 1)) None) ∷ reply.Ready (negsuc 0 ∷ []) ∷ reply.Committed 2 ∷ []

abbrev committed : List ℕ
committed = 1 ∷ 0 ∷ []

abbrev left : TableState
left = (cell (pos 1), pos 5) ∷ []

abbrev with_order : List ℕ → Outcome
with_order order = record { replies = answers; committed = committed; order = order; table = left }

abbrev said : List Exchange
said =
    (Begin 0 (pos 1 ∷ []), reply.Begun 0 0) ∷ (Begin 1 (pos 1 ∷ pos 5 ∷ []), reply.Begun 1 0)
    ∷ (Step 1, reply.Did (deed.Put (cell (pos 1)) (pos 5))) ∷ (Step 1, reply.Ready []) ∷ (Commit 1, reply.Committed 1)
    ∷ (Step 0, reply.Did (deed.Read (cell (pos 1)) None)) ∷ (Step 0, reply.Ready (negsuc 0 ∷ [])) ∷ (Commit 0, reply.Committed 2) ∷ []

abbrev call_at : ℕ → Call
call_at zero = record { program = 0; args = pos 1 ∷ [] }
call_at (suc i) = record { program = 1; args = pos 1 ∷ pos 5 ∷ [] }

abbrev replies_at : ℕ → List ℤ
replies_at zero = negsuc 0 ∷ []
replies_at (suc i) = []

-- what each exchange says of an instance
abbrev Says : Exchange → Type 0
Says (begin, reply.Begun i start) = (call : Call) → call_in begin ≡ Some call → call ≡ call_at i
Says (Step i, reply.Ready replies) = replies ≡ replies_at i
Says (Commit i, reply.Committed n) = committed_at committed n ≡ Some i
Says exchange = Unit {0}

says : (x : Exchange) → Contains said x → Says x
says x there = All-contains Says said x (All-from_recursion Says said ((λ call is. cc), ((λ call is. cc), (tt, (refl, (refl, (tt, (refl, (refl, tt))))))))) there

look_ready : IsReadyWith said 0 (negsuc 0 ∷ [])
look_ready = record { told = (6, omega arith, refl); never_others = λ others there. says (Step 0, reply.Ready others) there }

write_ready : IsReadyWith said 1 []
write_ready = record { told = (3, omega arith, refl); never_others = λ others there. says (Step 1, reply.Ready others) there }

committed_as : (n i : ℕ) → committed_at committed n ≡ Some i → IsCommittedAs said i n
committed_as zero i at = absurd (cc)
committed_as (suc zero) i at = let one : 1 ≡ i = cc in subst (λ j. IsCommittedAs said j 1) one (4, omega arith, refl)
committed_as (suc (suc zero)) i at = let one : 0 ≡ i = cc in subst (λ j. IsCommittedAs said j 2) one (7, omega arith, refl)
committed_as (suc (suc (suc n))) i at = absurd (cc)

-- the look finds nothing, and then the write is made
look_first : RunsAlong registers said committed left (2 ∷ 1 ∷ []) []
look_first = (
  call_at 0,
  (
    refl,
    record { instance = 0; at = refl; begun = (Begin 0 (pos 1 ∷ []), 0, refl, (0, omega arith, refl)); ready = look_ready },
    (
      call_at 1,
      (refl, record { instance = 1; at = refl; begun = (Begin 1 (pos 1 ∷ pos 5 ∷ []), 0, refl, (1, omega arith, refl)); ready = write_ready }, refl),
    ),
  ),
)

pub headline_holds : Headline registers [] snapshot_events (with_order (2 ∷ 1 ∷ []))
unfolding eval_of
headline_holds = record {
  replies = sym snapshot;
  committed = λ n i. (committed_as n i, says (Commit i, reply.Committed n));
  once = refl;
  serial = look_first;
  table = sym snapshot_rows;
}

-- in the order of the commits, the look would find the write
read_five : (call : Call) → call ≡ call_at 0 → IsReadyWith said 0 (run_of registers call left).replies → ⊥
read_five call is ready =
    let found = says _ (subst (λ (c : Call). IsReadyWith said 0 (run_of registers c left).replies) is ready).told in
    let differ : pos 5 ∷ [] ≡ negsuc 0 ∷ [] = found in
    absurd (cc)

look_last : RunsAlong registers said committed left (1 ∷ 2 ∷ []) [] → ⊥
look_last (write, (write_ends, first, (look, (look_ends, second, last)))) =
    let one : 1 ≡ first.instance = let at = first.at in cc in
    let two : 0 ≡ second.instance = let at = second.at in cc in
    let begun_first = subst (λ i. IsBegunBy said i write) (sym one) first.begun in
    let begun_second = subst (λ i. IsBegunBy said i look) (sym two) second.begun in
    let is_write : write ≡ call_at 1 = says _ begun_first.3 write begun_first.2 in
    let is_look : look ≡ call_at 0 = says _ begun_second.3 look begun_second.2 in
    let ready = subst (λ i. IsReadyWith said i (run_of registers look (changed [] (run_of registers write []).changes.cells)).replies) (sym two) second.ready in
    read_five look is_look
    (subst (λ (c : Call). IsReadyWith said 0 (run_of registers look (changed [] (run_of registers c []).changes.cells)).replies) is_write ready)

pub headline_fails : Headline registers [] snapshot_events (with_order (1 ∷ 2 ∷ [])) → ⊥
headline_fails h = look_last h.serial

-- and an order without the look, which changes nothing, does not have each commit
pub headline_needs_each : Headline registers [] snapshot_events (with_order (1 ∷ [])) → ⊥
headline_needs_each h = true≢false (sym h.once)
