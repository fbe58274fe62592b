use Rattle.std.proofs.Common.{◌≡◌, ◌<◌, length}
use Rattle.prog_text.specs.Reading.{body_at, block_at}
use Rattle.prog_text.specs.OpenBlocks.{state_of}
use Rattle.prog_text.proofs.reading.blocks.block.Given as goal

-- reading on from here gives what reading the whole gives
abbrev pub invariant-loop-ended : goal.invariant-loop-ended
invariant-loop-ended l = record {
  shorter : length l.cursor.tokens.now < length l.fn.cursor.tokens.now;
  same : state_of l.ended l.body l.cursor ≡ block_at body_at l.fn.cursor.tokens.now;
}

abbrev pub decreases-loop-ended : goal.decreases-loop-ended
decreases-loop-ended l = length l.cursor.tokens.now
