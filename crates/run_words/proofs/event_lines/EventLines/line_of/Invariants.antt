use Rattle.std.proofs.Common.{length}
use Rattle.run_words.proofs.event_lines.EventLines.line_of.Given as goal

abbrev pub decreases-loop-self : goal.decreases-loop-self
decreases-loop-self l = length l.rest
