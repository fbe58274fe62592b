use Rattle.std.proofs.Common.{◌≡◌, map, take, string_bytes}
use Rattle.text_places.specs.Listing.{listed}
use Rattle.analysis_words.specs.Nodes.{seen}
use Rattle.analysis_words.specs.Saying.{level_text}
use Rattle.analysis_words.proofs.levels.level_list.Given as goal

-- the levels so far
abbrev pub invariant-loop-node : goal.invariant-loop-node
invariant-loop-node l = string_bytes l.text ≡ listed (map (level_text (seen l.shown) l.certificate) (take l.node-index l.nodes))
