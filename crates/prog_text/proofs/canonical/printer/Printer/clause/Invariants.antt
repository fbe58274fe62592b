use Rattle.std.proofs.Common.{◌≡◌, map, take}
use Rattle.prog_tree.specs.Tree.{comparison_tree}
use Rattle.prog_text.specs.declared.lexing.token.Sign.TheVariants as sign
use Rattle.prog_text.specs.declared.lexing.token.Token.TheVariants as t
use Rattle.prog_text.specs.Canonical.{bytes_of, spaced, comparison_marks, each_behind}
use Rattle.prog_text.specs.Printed.{added}
use Rattle.prog_text.proofs.canonical.printer.Printer.clause.Given as goal

-- the comparisons so far are printed
abbrev pub invariant-loop-comparison : goal.invariant-loop-comparison
invariant-loop-comparison l = l.self ≡ added (bytes_of (each_behind (spaced (t.Sign sign.And)) comparison_marks (map comparison_tree (take l.comparison-index l.others)))) l.initial.self
