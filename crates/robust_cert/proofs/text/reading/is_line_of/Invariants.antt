use Rattle.std.proofs.Common.{◌≡◌, ◌++◌, ℕ, List}
use Rattle.robust_cert.specs.Pieces.{text_left}
use Rattle.robust_cert.proofs.text.reading.is_line_of.Given as goal

-- where the bytes that are left are the text behind the piece at hand, with more behind it, all bytes are the whole
-- text with that behind it
abbrev pub invariant-loop-text : goal.invariant-loop-text
invariant-loop-text l = (more : List ℕ) → l.rest ≡ l.text.behind ++ more → l.bytes ≡ text_left l.fn.text ++ more

abbrev pub decreases-loop-text : goal.decreases-loop-text
decreases-loop-text l = l.text.steps
