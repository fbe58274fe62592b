use Rattle.std.proofs.Common.{take}
use Rattle.std.specs.Prelude.{All}
use Rattle.prog_tree.specs.Number.{IsI64}
use Rattle.history_book.proofs.book.read_numbers.Given as goal

abbrev pub invariant-loop-number : goal.invariant-loop-number
invariant-loop-number l = All IsI64 (take l.number-index l.numbers)
