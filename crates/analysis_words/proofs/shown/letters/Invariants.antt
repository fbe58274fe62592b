use Rattle.std.proofs.Common.{◌≡◌, take, string_bytes}
use Rattle.std.specs.List.{flat_map}
use Rattle.analysis_words.specs.Nodes.{letter_of}
use Rattle.analysis_words.proofs.shown.letters.Given as goal

-- the letters so far are written
abbrev pub invariant-loop-choice : goal.invariant-loop-choice
invariant-loop-choice l = string_bytes l.text ≡ flat_map letter_of (take l.choice-index l.choices)
