use Rattle.std.proofs.Common.{ℕ, ◌≡◌, ◌++◌, List, string_bytes, take}
use Rattle.text_places.specs.Listing.{TellsEach}
use Rattle.run_words.specs.ToldLines.{TellsLine}
use Rattle.run_words.proofs.refused_lines.push_lines.Given as goal

-- the lines so far are added
abbrev pub invariant-loop-refused : goal.invariant-loop-refused
invariant-loop-refused l =
    (lines : List ℕ) × TellsEach (TellsLine l.part) (take l.refused-index l.told) lines
    × (string_bytes l.out ≡ string_bytes l.fn.out ++ lines)
