-- What workers share says the same to every thread, and a closure over it may go to a thread.
use mathlib.Core.List.{List, [], ◌∷◌}
use Prim.Native.Nat.{ℕ}
use denote.RattleType.{RattleType}
use denote.Param.{param}
use denote.Ref.{NamedLft, ShrRef}
use denote.Struct.Declared.{shape}
use denote.Struct.Tuple.{TupleAt, field_at, type_at}
use denote.Param.Send.{IsSend, IsSync, AllSend, AllSync, recorded_send, recorded_sync, shr_send, shr_sync, shr_slice_sync, struct_send, struct_sync, view_send, view_sync, sendable}
use Rattle.std.proofs.Crossing as std
use Rattle.std.proofs.MapsCrossing as maps
use Rattle.std.proofs.sync.RwLock.TheSendSync as lock-crossing
use Rattle.job_counter.specs.contracts.Counter as counter
use Rattle.job_counter.specs.contracts.Pass as pass
use Rattle.job_counter.proofs.Counter.TheSendSync as counter-crossing
use Rattle.job_counter.proofs.Pass.TheSendSync as pass-crossing
use Rattle.prog_tree.specs.contracts.program.Draft as draft
use Rattle.prog_tree.proofs.expr.Expr.TheLaws.TheKnot as expr-knot
use Rattle.prog_tree.proofs.stmt.Stmt.TheLaws.TheKnot as stmt-knot
use Rattle.prog_check.proofs.names.Names.TheSendSync as names-crossing
use Rattle.prog_check.specs.contracts.set.ProgramSet as set
use Rattle.prog_check.specs.contracts.set.ProgramSet.TheInside as set-inside
use Rattle.version_store.proofs.store.Store.TheSendSync as store-crossing
use Rattle.history_book.specs.contracts.book.Book as book
use Rattle.history_book.specs.contracts.book.Book.TheInside as book-inside
use Rattle.history_book.proofs.instances.active.Active.TheSendSync as active-crossing
use Rattle.history_book.proofs.instances.row.Ending.TheSendSync as ending-crossing
use Rattle.history_book.proofs.instances.row.HistoryRow.TheSendSync as row-crossing
use Rattle.serial_orders.proofs.trace.Trace.TheSendSync as trace-crossing
use Rattle.state_log.specs.declared.front.Naming as naming
use Rattle.state_log.specs.contracts.front.Front as front
use Rattle.state_log.specs.contracts.front.Head as head
use Rattle.state_log.proofs.front.Front.TheSendSync as front-crossing
use Rattle.state_log.proofs.front.Head.TheSendSync as head-crossing
use Rattle.job_list.specs.contracts.job.Job as job
use Rattle.job_list.proofs.job.Job.TheSendSync as job-crossing
use Rattle.si_workers.specs.contracts.logged_book.LoggedBook as logged
use Rattle.si_workers.specs.contracts.logged_book.LoggedBook.TheInside as logged-inside
use Rattle.si_workers.specs.contracts.logged_book.SharedLoggedBook as shared
use Rattle.si_workers.specs.contracts.threads.Shift as shift

-- trees hold themselves, so they go by the rules that their rings have
draft-sync : IsSync (draft.the_field).row
draft-sync = search (std.crosses, expr-knot.crosses, stmt-knot.crosses, sendable) depth 60 fits 20000

pub set-sync : IsSync set.the_row
set-sync = view_sync set-inside.the_row _ _ _ _ (search (draft-sync, names-crossing.the_sync, sendable) depth 60 fits 20000)

pub book-send : (a : NamedLft) → IsSend (book.the_row a)
book-send a =
    view_send (book-inside.the_row a) _ _ _ _ (search (
      set-sync,
      store-crossing.the_send,
      active-crossing.the_send,
      ending-crossing.the_send,
      row-crossing.the_send,
      trace-crossing.the_send,
      std.crosses,
      maps.crosses,
      sendable,
    ) depth 60 fits 20000)

pub book-sync : (a : NamedLft) → IsSync (book.the_row a)
book-sync a =
    view_sync (book-inside.the_row a) _ _ _ _ (search (
      set-sync,
      store-crossing.the_sync,
      active-crossing.the_sync,
      ending-crossing.the_sync,
      row-crossing.the_sync,
      trace-crossing.the_sync,
      std.crosses,
      maps.crosses,
      sendable,
    ) depth 60 fits 20000)

-- so does it with the states that it was in
module _ (a : NamedLft) (J : RattleType) (name : naming.Ghosts J.Denot) where
  head-send : IsSend (head.the_field J name).row
  head-send = search (head-crossing.the_field_send, std.crosses, sendable) depth 60 fits 20000

  head-sync : IsSync (head.the_field J name).row
  head-sync = search (head-crossing.the_field_sync, std.crosses, sendable) depth 60 fits 20000

  front-send : IsSend (front.the_row J name)
  front-send = search (front-crossing.the_send, std.crosses, sendable) depth 60 fits 20000

  front-sync : IsSync (front.the_row J name)
  front-sync = search (front-crossing.the_sync, std.crosses, sendable) depth 60 fits 20000

  logged-send : IsSend (logged.the_row a J name)
  logged-send =
      view_send (logged-inside.the_row a J name) _ _ _ _
      (recorded_send (logged-inside.the_field a J name).row _ _ (logged-inside.the_type a J name).to_one
      (struct_send (shape (logged-inside.the_type a J name)) (book-send a, (head-send, (front-send, tt)))))

  logged-sync : IsSync (logged.the_row a J name)
  logged-sync =
      view_sync (logged-inside.the_row a J name) _ _ _ _
      (recorded_sync (logged-inside.the_field a J name).row _ _ (logged-inside.the_type a J name).to_one
      (struct_sync (shape (logged-inside.the_type a J name)) (book-sync a, (head-sync, (front-sync, tt)))))

  -- readers share it
  shared-sync : IsSync (shared.the_row a J name)
  shared-sync = search (logged-send, logged-sync, lock-crossing.the_field_sync, std.crosses, sendable) depth 60 fits 20000

job-sync : IsSync job.the_row
job-sync = search (job-crossing.the_sync, std.crosses, sendable) depth 60 fits 20000

counter-sync : IsSync counter.the_row
counter-sync = search (counter-crossing.the_sync, std.crosses, sendable) depth 60 fits 20000

pass-send : IsSend pass.the_row
pass-send = search (pass-crossing.the_send, std.crosses, sendable) depth 60 fits 20000

-- so they share what all workers of a run share: the runtime, the allocator, the set, the logged book, the jobs,
-- the counter and the gate
module _
    (e a : NamedLft) (R G J : RattleType) (name : naming.Ghosts J.Denot)
    (runtime : IsSync R) (gate : IsSync G) where
  fields-sync : AllSync (shape (shift.the_type e a R G J name)).fields
  fields-sync = (
    shr_sync e.mir e.lft R runtime,
    (
      search (std.crosses, sendable),
      (
        shr_sync a.mir a.lft set.the_row set-sync,
        (
          shr_sync e.mir e.lft (shared.the_row a J name) (shared-sync a J name),
          (
            shr_slice_sync e.mir e.lft job.the_row job-sync,
            (shr_sync e.mir e.lft counter.the_row counter-sync, (shr_sync e.mir e.lft G gate, tt)),
          ),
        ),
      ),
    ),
  )

  shift-sync : IsSync (shift.the_row e a R G J name)
  shift-sync =
      recorded_sync (shift.the_field e a R G J name).row _ _ (shift.the_type e a R G J name).to_one (struct_sync (shape (shift.the_type e a R G J name)) fields-sync)

-- a shared reference to it, and a pass
module _ (R G J : RattleType) (name : naming.Ghosts J.Denot) (s e a : NamedLft) where
  abbrev captured : List RattleType
  captured = ShrRef s.mir s.lft (shift.the_row e a (param 0 R) (param 1 G) (param 2 J) name) ∷ pass.the_row ∷ []

  captured-send : IsSync (param 0 R) → IsSync (param 1 G) → AllSend captured
  captured-send runtime gate = (
    shr_send s.mir s.lft (shift.the_row e a (param 0 R) (param 1 G) (param 2 J) name) (shift-sync e a (param 0 R) (param 1 G) (param 2 J) name runtime gate),
    (pass-send, tt),
  )

  pub closure-send : (id : List ℕ) → IsSync (param 0 R) → IsSync (param 1 G) → IsSend (TupleAt id captured)
  closure-send id runtime gate =
      recorded_send (field_at id captured).row _ _ (type_at id captured).to_one (struct_send (shape (type_at id captured)) (captured-send runtime gate))
