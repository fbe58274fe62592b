-- Entries, and how certificates hold them: as questions that have the numbers of their reasons.
use Rattle.std.specs.Prelude.{ℕ, ◌<◌, List, [], length, map, slice_index_or}
use Rattle.robust_cert.specs.declared.certificate.EntryQuestion.{EntryQuestion}
use Rattle.robust_cert.specs.declared.entries.Reason.{Reason}
use Rattle.robust_cert.specs.declared.entries.Reason.TheVariants.{Apart}
use Rattle.robust_cert.specs.declared.entries.Told.{Told}

-- a question, and why it leaves nothing to fear
pub record Entry : Type 0 where
  pub question : EntryQuestion
  pub reason : Reason

-- a question with this reason
abbrev pub entry_with : EntryQuestion → Reason → Entry
entry_with q r = record { question = q; reason = r }

-- ---- reasons have numbers

-- the reason of a number
abbrev pub reason_at : List Reason → ℕ → Reason
reason_at reasons n = slice_index_or reasons n (Apart [])

-- a question with the reason of its number
abbrev pub entry_told : List Reason → Told → Entry
entry_told reasons t = entry_with t.question (reason_at reasons t.reason)

-- each question with the reason of its number
abbrev pub entries_told : List Reason → List Told → List Entry
entries_told reasons told = map (entry_told reasons) told

-- there is a reason of that number
abbrev pub HasReason : List Reason → Told → Type 0
HasReason reasons t = t.reason < length reasons
