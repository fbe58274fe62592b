use Rattle.std.proofs.Common.{◌≡◌, take}
use Rattle.std.specs.List.{flat_map}
use Rattle.prog_text.specs.Canonical.{bytes_of, table_marks}
use Rattle.prog_text.specs.Printed.{added}
use Rattle.prog_text.proofs.canonical.printer.Printer.tables.Given as goal

-- the tables so far are printed
abbrev pub invariant-loop-table : goal.invariant-loop-table
invariant-loop-table l = l.self ≡ added (bytes_of (flat_map table_marks (take l.table-index l.tables))) l.initial.self
