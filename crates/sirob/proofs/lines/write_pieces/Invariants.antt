use Rattle.std.proofs.Common.{◌≡◌, false}
use Rattle.robust_cert.specs.Pieces.{text_left}
use Rattle.sirob.proofs.PieceLaws.{HasGiven}
use Rattle.sirob.proofs.lines.write_pieces.Given as goal

-- what the sink has taken, and what is left behind the piece at hand, are all that was left
abbrev pub invariant-loop-text : goal.invariant-loop-text
invariant-loop-text g l = record {
  working : g.K.Sink.has_failed l.sink ≡ false;
  given : HasGiven (g.K.Sink.taken l.fn.sink) (g.K.Sink.taken l.sink) l.text.behind (text_left l.fn.text);
}

abbrev pub decreases-loop-text : goal.decreases-loop-text
decreases-loop-text g l = l.text.steps
