use Rattle.std.proofs.Common.{◌≡◌, ◌++◌, drop, string_bytes}
use Rattle.analysis_words.specs.Nodes.{seen}
use Rattle.analysis_words.specs.Refusing.{way_text}
use Rattle.analysis_words.proofs.advice.way_text.Given as goal

-- what comes behind the text so far makes it the whole
abbrev pub invariant-loop-node : goal.invariant-loop-node
invariant-loop-node l =
    string_bytes l.text ++ way_text (seen l.shown) l.last (drop l.node-index l.nodes)
    ≡ way_text (seen l.shown) l.from l.nodes
