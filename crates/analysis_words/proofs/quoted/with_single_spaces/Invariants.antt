use Rattle.std.proofs.Common.{◌≡◌, ◌++◌, drop}
use Rattle.analysis_words.specs.Quoting.{spaced_from, with_single_spaces}
use Rattle.analysis_words.proofs.quoted.with_single_spaces.Given as goal

-- the line so far, and what the bytes that are left add
abbrev pub invariant-loop-byte : goal.invariant-loop-byte
invariant-loop-byte l = l.line.items ++ spaced_from l.gap (drop l.byte-index l.bytes) ≡ with_single_spaces l.bytes
