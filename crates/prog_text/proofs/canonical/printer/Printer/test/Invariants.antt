use Rattle.std.proofs.Common.{◌≡◌, map, take}
use Rattle.prog_tree.specs.Tree.{clause_tree}
use Rattle.prog_text.specs.declared.lexing.token.Sign.TheVariants as sign
use Rattle.prog_text.specs.declared.lexing.token.Token.TheVariants as t
use Rattle.prog_text.specs.Canonical.{bytes_of, spaced, conjunction_marks, each_behind}
use Rattle.prog_text.specs.Printed.{added}
use Rattle.prog_text.proofs.canonical.printer.Printer.test.Given as goal

-- the clauses so far are printed
abbrev pub invariant-loop-clause : goal.invariant-loop-clause
invariant-loop-clause l = l.self ≡ added (bytes_of (each_behind (spaced (t.Sign sign.Or)) conjunction_marks (map clause_tree (take l.clause-index l.others)))) l.initial.self
