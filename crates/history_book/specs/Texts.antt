-- The texts of faults.
use Rattle.std.specs.Fmt.{decimal}
use Rattle.std.specs.Prelude.{ℕ, List, ◌++◌, codes}
use Rattle.history_book.specs.declared.fault.BeginFault.{BeginFault}
use Rattle.history_book.specs.declared.fault.BeginFault.TheVariants as begin
use Rattle.version_store.specs.declared.clash.Clash.{Clash}
use Rattle.history_book.specs.declared.audit.AuditFault.{AuditFault}
use Rattle.history_book.specs.declared.audit.AuditFault.TheVariants as audit
use Rattle.history_book.specs.declared.audit.RowFault.{RowFault}
use Rattle.history_book.specs.declared.audit.RowFault.TheVariants as row
use Rattle.history_book.specs.declared.fault.CommitFault.{CommitFault}
use Rattle.history_book.specs.declared.fault.CommitFault.TheVariants as commit
use Rattle.history_book.specs.declared.fault.EndFault.{EndFault}
use Rattle.history_book.specs.declared.fault.EndFault.TheVariants as end
use Rattle.history_book.specs.declared.fault.OwnCommitFault.{OwnCommitFault}
use Rattle.history_book.specs.declared.fault.OwnCommitFault.TheVariants as own_commit
use Rattle.history_book.specs.declared.fault.ScanFault.{ScanFault}
use Rattle.history_book.specs.declared.fault.ScanFault.TheVariants as scan
use Rattle.history_book.specs.declared.orders.fits.AnyFitFault.{AnyFitFault}
use Rattle.history_book.specs.declared.orders.fits.AnyFitFault.TheVariants as any

-- why an instance could not be begun
abbrev pub begin_fault_text : BeginFault → List ℕ
begin_fault_text begin.NoSuchProgram = codes "no such program"
begin_fault_text begin.WrongArguments = codes "wrong arguments"
begin_fault_text (begin.TooOld floor) = codes "too old " ++ decimal floor
begin_fault_text (begin.TooNew commits) = codes "too new " ++ decimal commits
begin_fault_text begin.Full = codes "full"
begin_fault_text begin.Memory = codes "memory"

-- why a region could not be read
abbrev pub scan_fault_text : ScanFault → List ℕ
scan_fault_text scan.NoSuchTicket = codes "no such ticket"
scan_fault_text scan.Memory = codes "memory"

-- with which commit an instance clashed
abbrev pub clash_text : Clash → List ℕ
clash_text clash = codes "clashed with " ++ decimal clash.number

-- why an instance did not commit
abbrev pub commit_fault_text : CommitFault → List ℕ
commit_fault_text (commit.NoSuchTicket unused) = codes "no such ticket"
commit_fault_text (commit.NotReady unused) = codes "not ready"
commit_fault_text (commit.ForeignRun place unused) = codes "foreign run"
commit_fault_text (commit.Memory unused) = codes "memory"
commit_fault_text (commit.Clashed clash) = clash_text clash

-- why an instance did not commit by its own run
abbrev pub own_commit_fault_text : OwnCommitFault → List ℕ
own_commit_fault_text own_commit.Memory = codes "memory"
own_commit_fault_text (own_commit.Clashed clash) = clash_text clash

-- why an instance did not end as an aborted one
abbrev pub end_fault_text : EndFault → List ℕ
end_fault_text (end.NoSuchTicket unused) = codes "no such ticket"
end_fault_text (end.NotAborted unused) = codes "not aborted"
end_fault_text (end.ForeignRun place unused) = codes "foreign run"
end_fault_text (end.Memory unused) = codes "memory"

-- what is wrong with a row: a code
abbrev pub row_fault_text : RowFault → List ℕ
row_fault_text row.NoSuchProgram = codes "H1"
row_fault_text row.WrongArguments = codes "H2"
row_fault_text row.StartTooLate = codes "H3"
row_fault_text row.NotReady = codes "H4"
row_fault_text row.WrongReplies = codes "H5"
row_fault_text (row.Clashed clash) = codes "H6"

-- why rows have no book: a code, and the row from 0
abbrev pub audit_fault_text : AuditFault → List ℕ
audit_fault_text audit.Full = codes "H7"
audit_fault_text (audit.Row number fault) = row_fault_text fault ++ (codes " " ++ decimal number)
audit_fault_text audit.Memory = codes "memory"

-- why no equivalent serial order was looked for
abbrev pub any_fit_fault_text : AnyFitFault → List ℕ
any_fit_fault_text any.TooMany = codes "too many"
any_fit_fault_text any.Memory = codes "memory"
