use Rattle.std.proofs.Common.{◌≡◌, ◌++◌, string_bytes, drop}
use Rattle.run_words.specs.Cycles.{first_or, lines_text}
use Rattle.run_words.proofs.cycle.push_lines.Given as goal

-- what was added so far, and the lines of the commits that are left
abbrev pub invariant-loop-index : goal.invariant-loop-index
invariant-loop-index l =
    string_bytes l.out ++ lines_text l.book (drop l.index l.cycle) (first_or l.cycle 0)
    ≡ string_bytes l.fn.out ++ lines_text l.book l.cycle (first_or l.cycle 0)
