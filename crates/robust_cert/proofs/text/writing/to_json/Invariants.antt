use Rattle.std.proofs.Common.{◌≡◌, ◌++◌, string_bytes}
use Rattle.robust_cert.specs.Json.{certificate_text}
use Rattle.robust_cert.proofs.text.writing.to_json.Given as goal

-- what is written, and what is left behind the piece at hand, are the whole text
abbrev pub invariant-loop-pieces : goal.invariant-loop-pieces
invariant-loop-pieces l = string_bytes l.text ++ l.pieces.behind ≡ certificate_text l.certificate

abbrev pub decreases-loop-pieces : goal.decreases-loop-pieces
decreases-loop-pieces l = l.pieces.steps
