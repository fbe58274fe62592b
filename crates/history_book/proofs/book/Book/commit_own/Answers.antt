use Rattle.std.proofs.Common.{ap, subst, refl}
use Rattle.std.specs.Prelude.{None, Some}
use Rattle.prog_tree.specs.ChangeSet.{ChangeSet}
use Rattle.prog_tree.specs.declared.deed.End.TheVariants.{Ready}
use Rattle.version_store.specs.Clash.{IsClash}
use Rattle.history_book.specs.Ticket.{TicketView}
use Rattle.history_book.specs.View.{commits_in}
use Rattle.history_book.proofs.CommitLaws.{looks_are, true_clash, may_commit, is_committed, is_clashed}
use Rattle.history_book.proofs.book.Book.commit_own.Goals as goal

pub conclude-requires-clause-is_true : goal.conclude-requires-clause-is_true
conclude-requires-clause-is_true c =
    let e = c.in_ok-row.ensures in
    let clash = subst (λ (w : ChangeSet). IsClash (commits_in c.args.self.now) c.in_ok-row.row.start w (Some (c.in-Some.clash.cell, c.in-Some.clash.number))) c.changes.ensures c.in-Some.ensures in
    true_clash c.args.self.now c.args.ticket.now c.args.run.now c.in_ok-row.row e.row c.read_run.ensures c.in-Some.clash c.requires.ready e.within clash

pub returns-in-Some-clause-err : goal.returns-in-Some-clause-err
returns-in-Some-clause-err c =
    let clash = subst (λ (w : ChangeSet). IsClash (commits_in c.args.self.now) c.in_ok-row.row.start w (Some (c.in-Some.clash.cell, c.in-Some.clash.number))) c.changes.ensures c.in-Some.ensures in
    is_clashed c.args.self.now c.args.ticket.now c.args.run.now c.in_ok-row.row c.in_ok-row.ensures.row c.read_run.ensures c.conclude.new.self c.in-Some.clash c.ticket.inside.number c.requires.ready clash
    (ap (λ (t : TicketView). t.number) c.ticket.view_is) c.in_ok-conclude.ensures.ok

pub install-requires-clause-commit : goal.install-requires-clause-commit
install-requires-clause-commit c =
    let e = c.in_ok-row.ensures in
    let none = subst (λ (w : ChangeSet). IsClash (commits_in c.args.self.now) c.in_ok-row.row.start w None) c.changes.ensures c.in_default.ensures in
    may_commit c.args.self.now c.args.ticket.now c.args.run.now c.in_ok-row.row e.row c.read_run.ensures c.args.run.now.changes c.requires.ready e.within refl none

pub install-requires-clause-looks : goal.install-requires-clause-looks
install-requires-clause-looks c =
    looks_are c.args.self.now c.args.ticket.now c.args.run.now c.in_ok-row.row Ready c.in_ok-row.ensures.row c.read_run.ensures c.requires.ready

pub returns-clause-ok : goal.returns-clause-ok
returns-clause-ok c =
    let none = subst (λ (w : ChangeSet). IsClash (commits_in c.args.self.now) c.in_ok-row.row.start w None) c.changes.ensures c.in_default.ensures in
    is_committed c.args.self.now c.args.ticket.now c.args.run.now c.in_ok-row.row c.in_ok-row.ensures.row c.read_run.ensures c.install.new.self c.ticket.inside.number c.in_ok-number.number c.requires.ready none
    (ap (λ (t : TicketView). t.number) c.ticket.view_is) c.in_ok-number.ensures.number c.in_ok-number.ensures.ok
