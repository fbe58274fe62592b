use Rattle.std.proofs.Common.{◌≡◌, map, take}
use Rattle.std.specs.List.{flat_map}
use Rattle.prog_tree.specs.Tree.{program_tree}
use Rattle.prog_text.specs.Canonical.{bytes_of, program_marks}
use Rattle.prog_text.specs.Printed.{added}
use Rattle.prog_text.proofs.canonical.printer.Printer.programs.Given as goal

-- the programs so far are printed
abbrev pub invariant-loop-program : goal.invariant-loop-program
invariant-loop-program l = l.self ≡ added (bytes_of (flat_map program_marks (map program_tree (take l.program-index l.programs)))) l.initial.self
