use Rattle.std.proofs.Common.{◌≡◌}
use Rattle.fault_words.specs.Blocks.{begins_head, last_before}
use Rattle.fault_words.proofs.open_blocks.head_before.Given as goal

-- no head begins from the place on
abbrev pub invariant-loop-place : goal.invariant-loop-place
invariant-loop-place l = last_before (begins_head l.plain) l.block ≡ last_before (begins_head l.plain) l.place

abbrev pub decreases-loop-place : goal.decreases-loop-place
decreases-loop-place l = l.place
