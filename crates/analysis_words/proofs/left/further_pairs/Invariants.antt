use Rattle.std.proofs.Common.{◌≡◌, take, string_bytes}
use Rattle.std.specs.List.{flat_map}
use Rattle.prog_tree.specs.Tree.{draft_tree}
use Rattle.analysis_words.specs.Left.{further_text}
use Rattle.analysis_words.proofs.left.further_pairs.Given as goal

-- the pairs so far are named
abbrev pub invariant-loop-pair : goal.invariant-loop-pair
invariant-loop-pair l = string_bytes l.text ≡ flat_map (further_text (draft_tree l.set)) (take l.pair-index l.pairs)
