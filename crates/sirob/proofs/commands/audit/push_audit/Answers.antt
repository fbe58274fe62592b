use Rattle.std.proofs.Common.{◌≡◌, rules, string_bytes}
use Rattle.std.proofs.lemmas.Result.{err_from_is_err_and}
use Rattle.history_book.specs.Audit.{audited}
use Rattle.sirob.proofs.StopLaws.{audit_given, audit_stopped}
use Rattle.sirob.proofs.commands.audit.push_audit.Goals as goal

pub returns-in_err-finding : goal.returns-in_err-finding
returns-in_err-finding c =
    let exit = err_from_is_err_and c.from_residual-in_err-finding.result c.from_residual-in_err-finding.ensures.1 in
    let records = c.in_ok-rows.field-0 in
    let is : c.in_ok-book.book ≡ audited c.args.set.now records.rows records.items = search rules in
    let is_true = c.read_book.ensures in
    rw (exit.1, exit.2) (
      tt,
      audit_stopped c.args.set.now c.args.part.now records c.in_ok-book.book (string_bytes c.args.out.now) (string_bytes c.push_findings_before.new.out)
          c.in_ok-rows.ensures.ok is is_true c.requires c.in_err-finding.ensures.err,
    )

pub returns : goal.returns
returns c =
    let records = c.in_ok-rows.field-0 in
    let is : c.in_ok-book.book ≡ audited c.args.set.now records.rows records.items = search rules in
    let is_true = c.read_book.ensures in
    rw c.of.ensures (
      audit_given c.args.set.now c.args.part.now records c.in_ok-book.book c.in_ok-finding.finding (string_bytes c.args.out.now) (string_bytes c.push_findings_before.new.out)
          c.in_ok-rows.ensures.ok is is_true c.requires c.in_ok-finding.ensures.ok,
      tt,
    )
