use Rattle.std.proofs.Common.{◌≡◌, take}
use Rattle.prog_tree.specs.Tree.{stmts_tree}
use Rattle.prog_text.specs.Canonical.{bytes_of, block_marks}
use Rattle.prog_text.specs.Printed.{added}
use Rattle.prog_text.proofs.canonical.printer.Printer.+blocks.Given as goal

-- the statements so far are printed
abbrev pub invariant-block-loop-stmt : goal.invariant-block-loop-stmt
invariant-block-loop-stmt l = l.self ≡ added (bytes_of (block_marks l.initial.self.depth (stmts_tree (take l.stmt-index l.stmt-items)))) l.initial.self
