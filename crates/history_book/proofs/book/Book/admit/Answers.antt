use Rattle.std.proofs.Common.{◌≡◌, ◌+◌, List, None, sym, ap, subst}
use Rattle.history_book.specs.View.{BookView, begin_at_fault_of, begun_at}
use Rattle.history_book.proofs.ActiveLaws.{Entry}
use Rattle.history_book.proofs.BeginLaws.{below_begun, begun-active, true-admitted}
use Rattle.history_book.proofs.book.Book.admit.Goals as goal

pub insert-requires : goal.insert-requires
insert-requires c = below_begun _ c.self.invariant.0

pub invariant_of-self-2 : goal.invariant_of-self-2
invariant_of-self-2 c =
    let none = subst (λ (v : BookView). begin_at_fault_of v c.args.start c.args.program c.args.args.now ≡ None) (sym c.self.view_is) c.requires in
    let given = c.in_ok-args.ensures in
    let active = begun-active _ c.args.start c.args.program c.args.args.now _ _ c.self.invariant.0 given c.in_ok-insert.ensures.ok in (
      true-admitted _ c.args.start c.args.program c.args.args.now c.insert.new.self c.self.invariant.0 none c.read_numbers.ensures active c.insert.ensures.ordered,
      record { stands = c.self.invariant.1.stands; commits = c.self.invariant.1.commits },
      c.self.invariant.2,
    )

pub returns-clause-begun : goal.returns-clause-begun
returns-clause-begun c =
    let e = c.self.inside in
    let given = c.in_ok-args.ensures in
    let active = begun-active _ c.args.start c.args.program c.args.args.now _ _ c.self.invariant.0 given c.in_ok-insert.ensures.ok in
    let with : List Entry → BookView = λ a.
    record { set = e.set.now; opening = e.opening; rows = e.rows.items; endings = e.endings.items; active = a; begun = e.begun + 1; floor = e.store.floor } in
    subst (λ (v : BookView). with c.insert.new.self ≡ begun_at v c.args.start c.args.program c.args.args.now) c.self.view_is (ap with active)
