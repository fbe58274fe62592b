use Rattle.std.proofs.Common.{◌≡◌, ◌<◌, ◌≤◌, [], length, sym, subst, ◌∙◌}
use Rattle.prog_tree.specs.ChangeSet.{ChangeSet}
use Rattle.version_store.specs.StandsFor.{StandsFor}
use Rattle.history_book.specs.Runs.{IsCommit}
use Rattle.serial_orders.specs.Traces.{trace_of}
use Rattle.history_book.specs.View.{BookView, done_in, instance_of, most_endings}
use Rattle.history_book.proofs.TraceLaws.{traced-committed}
use Rattle.history_book.proofs.BookLaws.{true-taken, commits-committed, stored, next_number}
use Rattle.history_book.proofs.book.Book.take_up.Goals as goal

pub invariant_of-self-2 : goal.invariant_of-self-2
invariant_of-self-2 c =
    let none = subst (λ (v : BookView). v.active ≡ []) (sym c.self.view_is) c.requires.none in
    let room = subst (λ (v : BookView). length v.endings < most_endings) (sym c.self.view_is) c.requires.room in
    let above = subst (λ (v : BookView). v.floor ≤ c.args.row.start) (sym c.self.view_is) c.requires.above in
    let same : c.changes.result.now ≡ c.args.run.now.changes = c.changes.ensures in
    let commit = subst (λ (v : BookView). IsCommit v c.args.row c.changes.result.now) (sym c.self.view_is) (subst (λ (w : ChangeSet). IsCommit c.args.self.now c.args.row w) (sym same) c.requires.commit) in
    let looks = subst (λ (v : BookView). c.args.run.now.looks ≡ (done_in v (instance_of c.args.row)).looks) (sym c.self.view_is) c.requires.looks in
    let trace = c.in_ok-trace.ensures ∙ (λ i. trace_of c.args.row.start ((sym same ∙ commit.changes) i).cells (looks i)) in
    let e = c.in_ok-add_commit.ensures in
    let more = e.endings ∙ next_number c.self.inside.endings.items _ _ c.self.invariant.1.commits in
    let stands = subst (StandsFor c.add_commit.new.store c.self.inside.opening) (commits-committed _ c.args.row c.changes.result.now c.add_commit.new.rows.items commit e.rows)
    (e.stands _ _ c.self.invariant.1.stands) in (
      true-taken _ c.args.row c.changes.result.now c.add_commit.new.rows.items c.add_commit.new.endings.items c.add_commit.new.store.floor
          c.self.invariant.0 none room above commit e.rows more e.floor,
      stored _ c.add_commit.new.store stands,
      traced-committed _ c.args.row c.in_ok-trace.trace c.add_commit.new.rows.items c.self.inside.traces.items c.add_commit.new.traces.items c.self.invariant.0 c.self.invariant.2 commit.is_true.start trace e.rows e.traces,
    )
