use Rattle.std.proofs.Common.{◌≡◌, ◌++◌, List, ℕ, string_bytes, take}
use Rattle.prog_tree.specs.Tree.{draft_tree}
use Rattle.text_places.specs.Listing.{TellsEach}
use Rattle.analysis_words.specs.Repairs.{TellsPair, heading}
use Rattle.analysis_words.proofs.repair.repair_words.Given as goal

-- the words so far are those of each pair so far
abbrev pub invariant-loop-number : goal.invariant-loop-number
invariant-loop-number l =
    (parts : List ℕ) × TellsEach (TellsPair (draft_tree l.set)) (take l.number l.pairs) parts × (string_bytes l.words ≡ heading ++ parts)
