use Rattle.std.proofs.Common.{◌≡◌, take}
use Rattle.prog_text.specs.Canonical.{bytes_of, each_behind, comma, name_marks}
use Rattle.prog_text.specs.Printed.{added}
use Rattle.prog_text.proofs.canonical.printer.Printer.params.Given as goal

-- the parameters so far are printed
abbrev pub invariant-loop-param : goal.invariant-loop-param
invariant-loop-param l = l.self ≡ added (bytes_of (each_behind comma name_marks (take l.param-index l.others))) l.initial.self
